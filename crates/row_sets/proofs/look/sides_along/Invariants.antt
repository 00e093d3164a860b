use Rattle.row_sets.specs.Plainly.{sides_at}
use Rattle.culling.proofs.Passing.{Passed}
use Rattle.row_sets.proofs.look.sides_along.Given as goal

abbrev pub invariant-loop-x : goal.invariant-loop-x
invariant-loop-x l = Passed (sides_at l.end) l.initial.along l.along l.x
