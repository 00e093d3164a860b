-- `answers::refuse_lowest` meets its contract: a search has come to `place`, and none before it is bad. Assumes nothing.
use Rattle.std.proofs.Common.{◌≡◌, ℕ, ◌<◌, ◌≤◌, Bool, true, sym, ◌∙◌, ltb, lt-ltb, le-ltb}
use Rattle.rules.specs.Lists.{lowest}
use Rattle.rules.specs.Answers.{fine, refuse, refuse_if, refuse_lowest}
use Rattle.rules.proofs.Searches.{searched, found, passed, ended}
use Rattle.answers.proofs.refuse_lowest.Goals as goal

refused : (number n t : ℕ) (bad : ℕ → Bool) → t < n → t ≡ lowest n bad → refuse number t ≡ refuse_lowest number n bad
unfolding refuse_if
refused number n t bad h e = rw (← e, lt-ltb t n h)

passes : (number n t : ℕ) (bad : ℕ → Bool) → n ≤ t → t ≡ lowest n bad → fine ≡ refuse_lowest number n bad
unfolding refuse_if
passes number n t bad h e = rw (← e, le-ltb t n h)

pub loop-place-init : goal.loop-place-init
loop-place-init g c = λ bad told. searched _ _

pub returns-then-is_bad : goal.returns-then-is_bad
returns-then-is_bad g c = λ bad told.
    refused _ _ _ bad c.loop-place-test.true
    (found _ _ _ c.loop-place-test.true (c.loop-place.invariant bad told)
    (sym (told _ _ c.loop-place-test.true c.is_bad.ensures) ∙ c.if-is_bad.true))

pub loop-place-preserved : goal.loop-place-preserved
loop-place-preserved g c = λ bad told.
    passed _ _ _ c.loop-place-test.true (c.loop-place.invariant bad told)
    (sym (told _ _ c.loop-place-test.true c.is_bad.ensures) ∙ c.if-is_bad.false)

pub returns : goal.returns
returns g c = λ bad told. passes _ _ _ bad c.loop-place-test.false (ended _ _ _ c.loop-place-test.false (c.loop-place.invariant bad told))
