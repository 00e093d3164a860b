use mathlib.Core.Bool.{cond}
use mathlib.Core.List.{List}
use Prim.Native.Nat.{ℕ, ◌+◌}
use lib.Dec.{eqb}
use lib.ListN.{get_or}
use Rattle.culling.proofs.Passing.{Passed}
use Rattle.listing.proofs.cube_row.Given as goal

-- the set of cell c
abbrev pub cube_set : List ℕ → List ℕ → ℕ → ℕ
cube_set grid kinds c = cond (eqb (get_or kinds (get_or grid c 0) 0) 1) 63 0

abbrev pub invariant-loop-x : goal.invariant-loop-x
invariant-loop-x l = Passed (λ k. cube_set l.ground.grid.now l.ground.kinds.now (l.first + k)) l.initial.sets l.sets l.x
