-- `update::entry_verdict` meets its contract: each test is the first that refuses, or passes. Assumes nothing.
use mathlib.Core.Path.{ap, ◌∙◌}
use Prim.Native.Nat.{ℕ, ◌/◌}
use lib.Dec.{ltb}
use lib.ListN.{length}
use Rattle.rules.specs.Update.{ENTRY_BYTES}
use Rattle.rules.specs.Answers.{refuse_if, BAD_ENTRY}
use Rattle.answers.proofs.Chains.{stops, goes}
use Rattle.update.proofs.entry_verdict.Goals as goal

pub returns-in_err-refuse_if : goal.returns-in_err-refuse_if
unfolding BAD_ENTRY
returns-in_err-refuse_if c =
    stops _ _ _ _ c.in_err-refuse_if.was c.from_residual.ensures.1
    (c.refuse_if.ensures ∙ ap (λ (b : ℕ). refuse_if (ltb b (length c.args.log.now / ENTRY_BYTES)) 13 b) c.first_bad_entry-bad.ensures)

pub returns : goal.returns
unfolding BAD_ENTRY
returns c =
    goes _ _ c.in_ok-refuse_if.was (c.refuse_if.ensures ∙ ap (λ (b : ℕ). refuse_if (ltb b (length c.args.log.now / ENTRY_BYTES)) 13 b) c.first_bad_entry-bad.ensures)
    c.refuse_if-2.ensures
