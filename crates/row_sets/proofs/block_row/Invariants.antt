use Prim.Native.Nat.{◌-◌, ◌≤◌}
use Rattle.culling.proofs.Passing.{Passed}
use Rattle.row_sets.specs.Rows.{plain_in}
use Rattle.row_sets.proofs.block_row.Given as goal

abbrev pub invariant-loop-x : goal.invariant-loop-x
invariant-loop-x l = (l.x ≤ l.width) × Passed (plain_in l.rows.look l.rows.around) l.initial.sets l.sets l.x

abbrev pub decreases-loop-x : goal.decreases-loop-x
decreases-loop-x l = l.width - l.x
