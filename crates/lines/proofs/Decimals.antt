-- Laws of numbers in decimal. Assumes nothing.
use mathlib.Core.Path.{◌≡◌, refl, sym, ap, ◌∙◌}
use mathlib.Core.Bool.{Bool, true, false}
use mathlib.Core.List.{List, [], ◌∷◌, ◌++◌}
use Prim.Native.Nat.{ℕ, zero, suc, ◌+◌, ◌-◌, ◌*◌, ◌/◌, ◌≤◌, ◌<◌}
use native.Mathlib.Omega.{arith}
use lib.ListN.{length, set, length-append, length-set}
use lib.Dec.{ltb}
use borrow.Author.Tests.{ltb-true, ltb-false, lt-ltb, le-ltb}
use Rattle.rules.specs.Program.{digit, digits, decimal}
use Rattle.lines.specs.Written.{put, Room}
use Rattle.lines.proofs.Writing.{put_one, put_last}

-- the first number of more than n digits
abbrev limit : ℕ → ℕ
limit zero = 1
limit (suc n) = 10 * limit n

pub digits_last : (n k : ℕ) → k < 10 → digits (suc n) k ≡ digit k ∷ []
unfolding digits
digits_last n k h = rw (lt-ltb k 10 h)

pub digits_more : (n k : ℕ) → 10 ≤ k → digits (suc n) k ≡ digits n (k / 10) ++ (digit k ∷ [])
unfolding digits
digits_more n k h = rw (le-ltb k 10 h)

-- by whether a number has one digit
by_digits : (P : Type 0) (k : ℕ) → (k < 10 → P) → (10 ≤ k → P) → P
by_digits P k a b = go (ltb k 10) refl
  where
    go : (t : Bool) → ltb k 10 ≡ t → P
    go true e = a (ltb-true k 10 e)
    go false e = b (ltb-false k 10 e)

-- leave to write more digits than there are changes nothing
digits_enough : (n k : ℕ) → k < limit (suc n) → digits (suc n) k ≡ digits (suc (suc n)) k
digits_enough zero k h = digits_last 0 k (omega arith) ∙ sym (digits_last 1 k (omega arith))
digits_enough (suc n) k h =
    by_digits (digits (suc (suc n)) k ≡ digits (suc (suc (suc n))) k) k
    (λ l. digits_last (suc n) k l ∙ sym (digits_last (suc (suc n)) k l))
    (λ l. digits_more (suc n) k l ∙ ap (λ (d : List ℕ). d ++ (digit k ∷ [])) (digits_enough n (k / 10) (omega arith)) ∙ sym (digits_more (suc (suc n)) k l))

pub length_digits : (n m k : ℕ) → k < limit (suc m) → length (digits n k) ≤ suc m
unfolding digits
length_digits zero m k h = omega arith
length_digits (suc n) zero k h = rw (lt-ltb k 10 (omega arith)) (omega arith)
length_digits (suc n) (suc m) k h =
    by_digits (length (digits (suc n) k) ≤ suc (suc m)) k
    (λ l. rw (lt-ltb k 10 l) (omega arith))
    (λ l. rw (le-ltb k 10 l) (simp length-append (omega (arith, length_digits n m (k / 10) (omega arith)))))

-- there are no more digits than there is leave for
pub length_most : (n k : ℕ) → length (digits n k) ≤ n
unfolding digits
length_most zero k = omega arith
length_most (suc n) k =
    by_digits (length (digits (suc n) k) ≤ suc n) k
    (λ l. rw (lt-ltb k 10 l) (omega arith))
    (λ l. rw (le-ltb k 10 l) (simp length-append (omega (arith, length_most n (k / 10)))))

-- ---- numbers of 64 bits

pub decimal_last : (k : ℕ) → k < 10 → decimal k ≡ digit k ∷ []
decimal_last k h = digits_last 19 k h

pub decimal_more : (k : ℕ) → 10 ≤ k → k < 18446744073709551616 → decimal k ≡ decimal (k / 10) ++ (digit k ∷ [])
decimal_more k h l = digits_more 19 k h ∙ ap (λ (d : List ℕ). d ++ (digit k ∷ [])) (digits_enough 18 (k / 10) (omega arith))

pub length_last : (k : ℕ) → k < 10 → length (decimal k) ≡ 1
length_last k h = ap length (decimal_last k h)

pub length_more : (k : ℕ) → 10 ≤ k → k < 18446744073709551616 → length (decimal k) ≡ length (decimal (k / 10)) + 1
length_more k h l = ap length (decimal_more k h l) ∙ length-append (decimal (k / 10)) (digit k ∷ [])

pub length_some : (k : ℕ) → k < 18446744073709551616 → 1 ≤ length (decimal k)
length_some k l = by_digits (1 ≤ length (decimal k)) k (λ h. omega (arith, length_last k h)) (λ h. omega (arith, length_more k h l))

pub length-decimal : (k : ℕ) → length (decimal k) ≤ 20
length-decimal k = length_most 20 k

pub decimal_room : (k : ℕ) {out : List ℕ} → 20 ≤ length out → Room (decimal k) 0 out
decimal_room k l = record { fits = omega (arith, length-decimal k) }

-- ---- a number is written from its end: what is left to write, and where its last digit goes
pub record Shown (n at : ℕ) (before now : List ℕ) (left last : ℕ) : Type 0 where
  pub most : left ≤ n
  pub place : last + 1 ≡ at + length (decimal left)
  pub is : put at (decimal left) now ≡ put at (decimal n) before
  pub kept : length now ≡ length before
  pub fits : length (decimal left) ≤ length (decimal n)

module _ (n at : ℕ) (before : List ℕ) (small : n < 18446744073709551616) (room : Room (decimal n) at before) where
  pub shown_start : Shown n at before before n (at + length (decimal n) - 1)
  shown_start = record { most = omega arith; place = omega (arith, length_some n small); is = refl; kept = refl; fits = omega arith }

  pub last_inside : {now : List ℕ} {left last : ℕ} → Shown n at before now left last → last < length now
  last_inside s = omega (arith, s.place, s.kept, s.fits)

  pub shown_more : {now : List ℕ} {left last d : ℕ} → Shown n at before now left last → 10 ≤ left → d ≡ digit left
      → Shown n at before (set now last d) (left / 10) (last - 1)
  shown_more {now} {left} {last} {d} s h e =
      let less : left < 18446744073709551616 = omega (arith, s.most) in
      let longer = length_more left h less in
      let there : last ≡ at + length (decimal (left / 10)) = omega (arith, s.place) in
      record {
        most = omega (arith, s.most);
        place = omega (arith, length_some (left / 10) (omega arith));
        is =
            put_last at d last (decimal (left / 10)) now there (last_inside s)
            ∙ ap (λ (k : ℕ). put at (decimal (left / 10) ++ (k ∷ [])) now) e
            ∙ ap (λ (l : List ℕ). put at l now) (sym (decimal_more left h less))
            ∙ s.is;
        kept = length-set now last d ∙ s.kept;
        fits = omega (arith, s.fits);
      }

  pub shown_all : {now : List ℕ} {left last d : ℕ} → Shown n at before now left last → left < 10 → d ≡ digit left
      → set now last d ≡ put at (decimal n) before
  shown_all {now} {left} {last} {d} s h e =
      let there : last ≡ at = omega (arith, s.place, length_last left h) in
      put_one last d now (last_inside s)
      ∙ ap (λ (k : ℕ). put k (d ∷ []) now) there
      ∙ ap (λ (k : ℕ). put at (k ∷ []) now) e
      ∙ ap (λ (l : List ℕ). put at l now) (sym (decimal_last left h))
      ∙ s.is
