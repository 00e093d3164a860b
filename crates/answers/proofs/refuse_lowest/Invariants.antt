use Rattle.std.proofs.Common.{◌≡◌, Bool, ℕ, ◌<◌}
use Rattle.rules.proofs.Searches.{Searched}
use Rattle.answers.proofs.refuse_lowest.Given as goal

abbrev pub invariant-loop-place : goal.invariant-loop-place
invariant-loop-place g l =
    (bad : ℕ → Bool) → ((i : ℕ) (b : Bool) → i < l.n → goal.F-post g l.is_bad i b → b ≡ bad i) → Searched l.n bad l.place
