-- Tests one after the other, each with a `?`: what the first of them says, and what the call answers. Assumes nothing.
use mathlib.Core.Path.{◌≡◌, refl, sym, ap, ◌∙◌}
use Rattle.std.specs.Prelude.{ℕ, Result, Ok, Err}
use Rattle.std.specs.Result.{IsErrAnd}
use Rattle.rules.specs.Answers.{Verdict, fine, refuse, ◌then◌}
use Rattle.answers.specs.declared.Refused.{Refused}
use Rattle.answers.specs.Verdicts.{verdict_of}

-- what a `?` gives out is what it met
pub given : (r x : Result Unit Refused) {e : Refused} → x ≡ Err e → IsErrAnd r (λ y. y ≡ e) → verdict_of r ≡ verdict_of x
given (Ok u) x was out = absurd out
given (Err d) x was out = rw (was, out)

-- a test that refuses is the answer
pub stops : (r x : Result Unit Refused) {e : Refused} (a b : Verdict) → x ≡ Err e → IsErrAnd r (λ y. y ≡ e) → verdict_of x ≡ a
    → verdict_of r ≡ (a then b)
unfolding ◌then◌
stops r x a b was out k = given r x was out ∙ rw (sym k, was)

-- after a test that passes the others decide
pub goes : (x : Result Unit Refused) {u : Unit {0}} (a : Verdict) {r b : Verdict} → x ≡ Ok u → verdict_of x ≡ a → r ≡ b → r ≡ (a then b)
unfolding ◌then◌
goes x a was e k = rw (sym e, was) k

pub passes : (x : Result Unit Refused) {u : Unit {0}} (a : Verdict) → x ≡ Ok u → verdict_of x ≡ a → fine ≡ a
passes x a was e = rw (sym e, was)

pub then_assoc : (a b c : Verdict) → ((a then b) then c) ≡ (a then (b then c))
unfolding ◌then◌
then_assoc fine b c = refl
then_assoc (refuse n p) b c = refl

-- ---- the same of the rules' verdicts alone
pub stops_by : (x a b : Verdict) {n p : ℕ} → x ≡ a → x ≡ refuse n p → x ≡ (a then b)
unfolding ◌then◌
stops_by x a b e t = t ∙ rw (sym e, t)

pub passes_by : (x a : Verdict) → x ≡ a → x ≡ fine → a ≡ fine
passes_by x a e t = sym e ∙ t

pub goes_by : (x a : Verdict) {r b : Verdict} → x ≡ a → x ≡ fine → r ≡ b → r ≡ (a then b)
unfolding ◌then◌
goes_by x a e t k = rw (passes_by x a e t) k
