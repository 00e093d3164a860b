use Rattle.row_sets.specs.Plainly.{FullFrom}
use Rattle.row_sets.proofs.look.full_from.Given as goal

abbrev pub invariant-loop-t : goal.invariant-loop-t
invariant-loop-t l = FullFrom l.kinds l.covers l.t
