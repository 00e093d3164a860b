-- `lent::lent_verdict` meets its contract: each test is the first that refuses, or passes. Assumes nothing.
use Rattle.answers.proofs.Chains.{stops, goes}
use Rattle.lent.proofs.lent_verdict.Goals as goal

pub returns-in_err-slots_verdict : goal.returns-in_err-slots_verdict
returns-in_err-slots_verdict c = λ B long. stops _ _ _ _ c.in_err-slots_verdict.was c.from_residual.ensures.1 (c.slots_verdict.ensures B long.slots)

pub returns : goal.returns
returns c = λ B long. goes _ _ c.in_ok-slots_verdict.was (c.slots_verdict.ensures B long.slots) (c.count_verdict.ensures B long)
