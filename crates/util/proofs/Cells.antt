-- Sizes within the limits keep their products small. Assumes nothing.
use Prim.Native.Nat.{◌*◌, ◌≤◌}
use native.Mathlib.Nat.{mul-le-mul}
use Rattle.rules.specs.Cells.{Size}
use Rattle.util.specs.Grid.{Sides}

module _ (s : Size) (k : Sides s) where
  pub layer_fits : s.l * s.w ≤ 1048576
  layer_fits = mul-le-mul k.longest k.widest
