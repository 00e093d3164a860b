use Rattle.lines.specs.Written.{Wrote}
use Rattle.lines.proofs.Lining.{faces_below}
use Rattle.lines.proofs.outer_of.Given as goal

abbrev pub invariant-loop-f : goal.invariant-loop-f
invariant-loop-f l = Wrote (faces_below l.set l.f) 0 l.initial.out l.out l.next
