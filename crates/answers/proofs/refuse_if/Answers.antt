-- `answers::refuse_if` meets its contract. Assumes nothing.
use Rattle.rules.specs.Answers.{refuse_if}
use Rattle.answers.proofs.refuse_if.Goals as goal

pub returns-then-applies : goal.returns-then-applies
unfolding refuse_if
returns-then-applies c = rw c.if-applies.true

pub returns : goal.returns
unfolding refuse_if
returns c = rw c.if-applies.false
