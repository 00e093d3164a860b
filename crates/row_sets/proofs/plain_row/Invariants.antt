use Rattle.culling.proofs.Passing.{Passed}
use Rattle.row_sets.specs.Rows.{plain_in}
use Rattle.row_sets.proofs.plain_row.Given as goal

abbrev pub invariant-loop-x : goal.invariant-loop-x
invariant-loop-x l = Passed (plain_in l.rows.look l.rows.around) l.initial.sets l.sets l.x
