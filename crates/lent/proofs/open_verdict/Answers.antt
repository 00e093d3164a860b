-- `lent::open_verdict` meets its contract: each test is the first that refuses, or passes. Assumes nothing.
use Rattle.answers.proofs.Chains.{stops, goes}
use Rattle.lent.proofs.open_verdict.Goals as goal

pub returns-in_err-input_verdict : goal.returns-in_err-input_verdict
returns-in_err-input_verdict c = λ B long. stops _ _ _ _ c.in_err-input_verdict.was c.from_residual.ensures.1 (c.input_verdict.ensures B long.slots)

pub returns : goal.returns
returns c = λ B long. goes _ _ c.in_ok-input_verdict.was (c.input_verdict.ensures B long.slots) (c.count_verdict.ensures B long)
