use mathlib.Core.Path.{◌≡◌}
use mathlib.Core.Bool.{true}
use Prim.Native.Nat.{ℕ, ◌<◌}
use Rattle.rules.specs.Types.{classed}
use Rattle.floats.specs.Triples.{triple_of}
use Rattle.types.proofs.is_cube.Given as goal

abbrev pub invariant-loop-face : goal.invariant-loop-face
invariant-loop-face l = (f : ℕ) → f < l.face → classed l.cube l.floats (triple_of l.fn.centre) f ≡ true
