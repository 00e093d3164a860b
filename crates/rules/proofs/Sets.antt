-- Side sets and the faces they have. Assumes nothing.
use mathlib.Core.Path.{◌≡◌, refl, sym, ap, ◌∙◌}
use mathlib.Core.Bool.{Bool, true, false, cond, not, ◌&&◌, ◌||◌}
use Prim.Native.Nat.{ℕ, zero, suc, ◌+◌, ◌-◌, ◌*◌, ◌/◌, ◌%◌, ◌^◌, ◌≤◌, ◌<◌}
use native.Mathlib.Nat.{zero-div}
use native.Mathlib.Omega.{arith}
use lib.Bits.{bit_and, bit_or, and_shr, or_shr, and_mod, or_mod}
use lib.Dec.{eqb, eqb→eq}
use borrow.Author.Tests.{eqb-true, eqb-false}
use Rattle.rules.specs.Lists.{every}
use Rattle.rules.specs.Cells.{has, set_of}
use Rattle.rules.proofs.Searches.{every_at}

abbrev bit : Bool → ℕ
bit b = cond b 1 0

bit_le : (b : Bool) → bit b ≤ 1
bit_le true = omega arith
bit_le false = omega arith

bit_test : (b : Bool) → eqb (bit b) 1 ≡ b
bit_test true = refl
bit_test false = refl

weigh : (b : Bool) (n : ℕ) → cond b n 0 ≡ n * bit b
weigh true n = omega arith
weigh false n = omega arith

-- a bit, from the test of it
test_bit : (n : ℕ) (b : Bool) → eqb n 1 ≡ b → n < 2 → n ≡ bit b
test_bit n true e h = eqb-true n 1 e
test_bit n false e h = let d = eqb-false n 1 e in omega arith

module _ (p : ℕ → Bool) where
  sum : set_of p ≡ bit (p 0) + 2 * bit (p 1) + 4 * bit (p 2) + 8 * bit (p 3) + 16 * bit (p 4) + 32 * bit (p 5)
  sum = rw (weigh (p 1) 2, weigh (p 2) 4, weigh (p 3) 8, weigh (p 4) 16, weigh (p 5) 32)

  pub set_of_lt : set_of p < 64
  set_of_lt = omega (arith, sum, bit_le (p 0), bit_le (p 1), bit_le (p 2), bit_le (p 3), bit_le (p 4), bit_le (p 5))

  bits : (set_of p / 1 % 2 ≡ bit (p 0)) × (set_of p / 2 % 2 ≡ bit (p 1)) × (set_of p / 4 % 2 ≡ bit (p 2)) × (set_of p / 8 % 2 ≡ bit (p 3))
      × (set_of p / 16 % 2 ≡ bit (p 4)) × (set_of p / 32 % 2 ≡ bit (p 5))
  bits =
      let s = sum in
      let a = bit_le (p 0) in let b = bit_le (p 1) in let c = bit_le (p 2) in let d = bit_le (p 3) in let e = bit_le (p 4) in let f = bit_le (p 5) in
      (omega arith, omega arith, omega arith, omega arith, omega arith, omega arith)

  -- the set of the faces of which p holds has those, and no other
  pub has-set_of : (f : ℕ) → f < 6 → has (set_of p) f ≡ p f
  has-set_of zero h = rw bits.0 (bit_test (p 0))
  has-set_of (suc zero) h = rw bits.1 (bit_test (p 1))
  has-set_of (suc (suc zero)) h = rw bits.2 (bit_test (p 2))
  has-set_of (suc (suc (suc zero))) h = rw bits.3 (bit_test (p 3))
  has-set_of (suc (suc (suc (suc zero)))) h = rw bits.4 (bit_test (p 4))
  has-set_of (suc (suc (suc (suc (suc zero))))) h = rw bits.5 (bit_test (p 5))
  has-set_of (suc (suc (suc (suc (suc (suc f)))))) h = absurd (omega arith)

  -- and no other set does
  pub set_is : (n : ℕ) → n < 64 → ((f : ℕ) → f < 6 → has n f ≡ p f) → n ≡ set_of p
  set_is n h e =
      let a = test_bit (n / 1 % 2) (p 0) (e 0 (omega arith)) (omega arith) in
      let b = test_bit (n / 2 % 2) (p 1) (e 1 (omega arith)) (omega arith) in
      let c = test_bit (n / 4 % 2) (p 2) (e 2 (omega arith)) (omega arith) in
      let d = test_bit (n / 8 % 2) (p 3) (e 3 (omega arith)) (omega arith) in
      let f = test_bit (n / 16 % 2) (p 4) (e 4 (omega arith)) (omega arith) in
      let g = test_bit (n / 32 % 2) (p 5) (e 5 (omega arith)) (omega arith) in
      let u : n ≡ 2 * (n / 2) + n / 1 % 2 = omega arith in
      let v : n / 2 ≡ 2 * (n / 4) + n / 2 % 2 = omega arith in
      let w : n / 4 ≡ 2 * (n / 8) + n / 4 % 2 = omega arith in
      let x : n / 8 ≡ 2 * (n / 16) + n / 8 % 2 = omega arith in
      let y : n / 16 ≡ 2 * (n / 32) + n / 16 % 2 = omega arith in
      let z : n / 32 ≡ n / 32 % 2 = omega arith in
      whole n (n / 2) (n / 4) (n / 8) (n / 16) (n / 32) _ _ _ _ _ _ u v w x y z
      ∙ rw (a, b, c, d, f, g) (sym sum)
    where
      whole : (n m k j i h a b c d e f : ℕ) → n ≡ 2 * m + a → m ≡ 2 * k + b → k ≡ 2 * j + c → j ≡ 2 * i + d → i ≡ 2 * h + e → h ≡ f
          → n ≡ a + 2 * b + 4 * c + 8 * d + 16 * e + 32 * f
      whole n m k j i h a b c d e f p q r s t u = omega arith

-- nothing is in the empty set
pub zero_has : (f : ℕ) → has 0 f ≡ false
zero_has f = rw (zero-div (2 ^ f))

-- ---- sets made bit by bit
and_bits : (m n : ℕ) → m < 2 → n < 2 → eqb (bit_and m n) 1 ≡ (eqb m 1 && eqb n 1)
and_bits zero zero a b = refl
and_bits zero (suc zero) a b = refl
and_bits (suc zero) zero a b = refl
and_bits (suc zero) (suc zero) a b = refl
and_bits zero (suc (suc n)) a b = absurd (omega arith)
and_bits (suc zero) (suc (suc n)) a b = absurd (omega arith)
and_bits (suc (suc m)) n a b = absurd (omega arith)

or_bits : (m n : ℕ) → m < 2 → n < 2 → eqb (bit_or m n) 1 ≡ (eqb m 1 || eqb n 1)
or_bits zero zero a b = refl
or_bits zero (suc zero) a b = refl
or_bits (suc zero) zero a b = refl
or_bits (suc zero) (suc zero) a b = refl
or_bits zero (suc (suc n)) a b = absurd (omega arith)
or_bits (suc zero) (suc (suc n)) a b = absurd (omega arith)
or_bits (suc (suc m)) n a b = absurd (omega arith)

pub has_and : (a b f : ℕ) → has (bit_and a b) f ≡ (has a f && has b f)
has_and a b f =
    ap (λ (n : ℕ). eqb (n % 2) 1) (and_shr a b f) ∙ ap (λ (n : ℕ). eqb n 1) (and_mod (a / 2 ^ f) (b / 2 ^ f) 1)
    ∙ and_bits (a / 2 ^ f % 2) (b / 2 ^ f % 2) (omega arith) (omega arith)

pub has_or : (a b f : ℕ) → has (bit_or a b) f ≡ (has a f || has b f)
has_or a b f =
    ap (λ (n : ℕ). eqb (n % 2) 1) (or_shr a b f) ∙ ap (λ (n : ℕ). eqb n 1) (or_mod (a / 2 ^ f) (b / 2 ^ f) 1)
    ∙ or_bits (a / 2 ^ f % 2) (b / 2 ^ f % 2) (omega arith) (omega arith)

-- by one test over the 64 sets
pub has_others : (s : ℕ) → s < 64 → (f : ℕ) → f < 6 → has (63 - s) f ≡ not (has s f)
unfolding every
has_others s h f l =
    ap (λ (n : ℕ). has n f) (eqb→eq (63 - s) (set_of (λ f. not (has s f))) (every_at 64 (λ s. eqb (63 - s) (set_of (λ f. not (has s f)))) tt s h)) ∙ has-set_of (λ f. not (has s f)) f l
