use mathlib.Core.Path.{◌≡◌}
use mathlib.Core.Bool.{true}
use Prim.Native.Nat.{ℕ, ◌<◌, ◌/◌, ◌%◌}
use Rattle.rules.specs.Floats.{finite}
use Rattle.rules.specs.Types.{position_of}
use Rattle.types.proofs.is_placed.Given as goal

abbrev pub invariant-loop-k : goal.invariant-loop-k
invariant-loop-k l = (j : ℕ) → j < l.k → finite (position_of l.cube l.floats (j / 3) (j % 3)) ≡ true
