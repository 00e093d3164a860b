use Rattle.lines.proofs.Lining.{Begun}
use Rattle.lines.proofs.write_quads.Given as goal

abbrev pub invariant-loop-i : goal.invariant-loop-i
invariant-loop-i l = Begun l.links l.at l.initial.out l.out l.next l.i
