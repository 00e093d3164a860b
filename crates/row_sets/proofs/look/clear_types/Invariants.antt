use Rattle.row_sets.specs.Plainly.{ClearBelow}
use Rattle.row_sets.proofs.look.clear_types.Given as goal

abbrev pub invariant-loop-t : goal.invariant-loop-t
invariant-loop-t l = ClearBelow l.kinds l.covers l.t
