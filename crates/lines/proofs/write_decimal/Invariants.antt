use Rattle.lines.proofs.Decimals.{Shown}
use Rattle.lines.proofs.write_decimal.Given as goal

abbrev pub invariant-loop-left : goal.invariant-loop-left
invariant-loop-left l = Shown l.n l.at l.initial.out l.out l.left l.last

abbrev pub decreases-loop-left : goal.decreases-loop-left
decreases-loop-left l = l.left
