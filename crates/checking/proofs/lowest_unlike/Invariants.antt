use Rattle.rules.specs.Cells.{has}
use Rattle.rules.specs.Answers.{unlike}
use Rattle.rules.proofs.Searches.{Searched}
use Rattle.checking.proofs.lowest_unlike.Given as goal

abbrev pub invariant-loop-face : goal.invariant-loop-face
invariant-loop-face l = Searched 6 (λ f. unlike (has l.a f) (has l.b f)) l.face
