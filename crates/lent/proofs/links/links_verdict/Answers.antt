-- `lent::links::links_verdict` meets its contract: each test is the first that refuses, or passes. Assumes nothing.
use Rattle.std.proofs.Common.{rules, ◌∙◌}
use Rattle.rules.specs.Answers.{bad_link, BAD_LINKS}
use Rattle.answers.proofs.Chains.{stops, goes}
use Rattle.lent.proofs.links.links_verdict.Goals as goal

pub returns-in_err-refuse_lowest : goal.returns-in_err-refuse_lowest
unfolding BAD_LINKS bad_link
returns-in_err-refuse_lowest c = λ vertices triangles.
    stops _ _ _ _ c.in_err-refuse_lowest.was c.from_residual.ensures.1 (c.refuse_lowest.ensures _ (λ i b l p. search rules))

pub returns : goal.returns
unfolding BAD_LINKS bad_link
returns c = λ vertices triangles.
    goes _ _ c.in_ok-refuse_lowest.was (c.refuse_lowest.ensures _ (λ i b l p. search rules)) (c.refuse_if.ensures ∙ rw c.filled_slots-filled.ensures)
