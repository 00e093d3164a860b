-- The digits of a number one by one, from the lowest on: each is found by the zeros below it and taken away. Over the number of digits. Assumes nothing.
use mathlib.Core.Path.{◌≡◌, refl, sym, ap, ◌∙◌, subst}
use mathlib.Core.Bool.{Bool, true, false, ◌&&◌, ◌||◌, true≢false}
use Prim.Native.Nat.{ℕ, zero, suc, ◌+◌, ◌-◌, ◌/◌, ◌%◌, ◌^◌, ◌≤◌, ◌<◌}
use native.Mathlib.Nat.{pow-succ', pow-le-pow_right, div-div-eq-div-mul, div-eq_of_lt, zero-div}
use native.Mathlib.Decide.{dec_lt}
use native.Mathlib.Omega.{arith}
use lib.Bits.{bit_and, bit_or, and_le_r}
use lib.Count.{count_trailing_zeros, under}
use lib.Dec.{eqb, leb}
use borrow.Author.Tests.{eqb-true, ne_eqb, le-leb, lt-leb, leb-true}
use Rattle.rules.specs.Lists.{every}
use Rattle.rules.specs.Cells.{has}
use Rattle.rules.proofs.ListLaws.{split, and_true, every_true}
use Rattle.rules.proofs.Sets.{has_and}

-- digit i + 1 of a number is digit i of its half
pub half : (n i : ℕ) → has n (suc i) ≡ has (n / 2) i
half n i = ap (λ (m : ℕ). eqb (m % 2) 1) (ap (λ (p : ℕ). n / p) (pow-succ' 2 i) ∙ sym (div-div-eq-div-mul n 2 (2 ^ i)))

first : (n : ℕ) → has n 0 ≡ eqb (n % 2) 1
first n = let e : n / 1 ≡ n = omega arith in ap (λ (m : ℕ). eqb (m % 2) 1) e

-- z is the lowest digit of s; the number before s lacks it, and is s above it
pub record Low (s z : ℕ) : Type 0 where
  pub here : has s z ≡ true
  pub below : (i : ℕ) → i < z → has s i ≡ false
  pub lacks : has (s - 1) z ≡ false
  pub above : (i : ℕ) → z < i → has (s - 1) i ≡ has s i

pub low : (k s : ℕ) → s < 2 ^ k → (s ≡ 0 → ⊥) → Low s (count_trailing_zeros k s)
unfolding count_trailing_zeros
low zero s h d = absurd (d (omega arith))
low (suc k) s h d = go (s % 2) refl (omega arith) (low k (s / 2))
  where
    past : (z : ℕ) → (s - 1) / 2 ≡ s / 2 - 1 → Low (s / 2) z → (i : ℕ) → suc z < i → has (s - 1) i ≡ has s i
    past z e r zero l = absurd (omega arith)
    past z e r (suc i) l = half (s - 1) i ∙ ap (λ (n : ℕ). has n i) e ∙ r.above i (omega arith) ∙ sym (half s i)

    under_it : (z : ℕ) → s % 2 ≡ 0 → Low (s / 2) z → (i : ℕ) → i < suc z → has s i ≡ false
    under_it z e r zero l = first s ∙ ap (λ (n : ℕ). eqb n 1) e
    under_it z e r (suc i) l = half s i ∙ r.below i (omega arith)

    odd : s % 2 ≡ 1 → (i : ℕ) → 0 < i → has (s - 1) i ≡ has s i
    odd e zero l = absurd (omega arith)
    odd e (suc i) l = let f : (s - 1) / 2 ≡ s / 2 = omega arith in half (s - 1) i ∙ ap (λ (n : ℕ). has n i) f ∙ sym (half s i)

    go : (b : ℕ) → s % 2 ≡ b → b < 2 → (s / 2 < 2 ^ k → (s / 2 ≡ 0 → ⊥) → Low (s / 2) (count_trailing_zeros k (s / 2))) → Low s (under b (count_trailing_zeros k (s / 2)))
    go zero e l ih =
        let z = count_trailing_zeros k (s / 2) in
        let r = ih (omega (arith, pow-succ' 2 k)) (λ y. d (omega arith)) in
        let f : (s - 1) / 2 ≡ s / 2 - 1 = omega arith in
        record { here = half s z ∙ r.here; below = under_it z e r; lacks = half (s - 1) z ∙ ap (λ (n : ℕ). has n z) f ∙ r.lacks; above = past z f r }
    go (suc zero) e l ih =
        let f : (s - 1) % 2 ≡ 0 = omega arith in
        record { here = first s ∙ ap (λ (n : ℕ). eqb n 1) e; below = λ i l. absurd (omega arith); lacks = first (s - 1) ∙ ap (λ (n : ℕ). eqb n 1) f; above = odd e }
    go (suc (suc b)) e l ih = absurd (omega arith)

-- a number and the one before it have in common what is past the lowest digit
taken : {s z : ℕ} → Low s z → (i : ℕ) → has (bit_and s (s - 1)) i ≡ (leb (z + 1) i && has s i)
taken {s} {z} r i = has_and s (s - 1) i ∙ go (dec_lt i z) (dec_lt z i)
  where
    go : Dec (i < z) → Dec (z < i) → (has s i && has (s - 1) i) ≡ (leb (z + 1) i && has s i)
    go (yes l) q = rw (r.below i l, lt-leb (z + 1) i (omega arith))
    go (no l) (yes g) = rw (r.above i g, le-leb (z + 1) i (omega arith)) (split (λ b. (b && b) ≡ b) (has s i) (λ _. refl) (λ _. refl))
    go (no l) (no g) = let e : i ≡ z = omega arith in rw (e, r.lacks, r.here, lt-leb (z + 1) z (omega arith))

with_last_test : ℕ → Bool
with_last_test s = eqb s 0 || eqb (count_trailing_zeros 32 (bit_or s 32)) (count_trailing_zeros 8 s)

-- the last side, put in, is not lower
pub with_last : (s : ℕ) → s < 64 → (s ≡ 0 → ⊥) → count_trailing_zeros 32 (bit_or s 32) ≡ count_trailing_zeros 8 s
unfolding every count_trailing_zeros with_last_test
with_last s h d =
    let t : with_last_test s ≡ true = every_true 64 with_last_test refl s h in
    eqb-true _ _ (ap (λ (b : Bool). b || eqb (count_trailing_zeros 32 (bit_or s 32)) (count_trailing_zeros 8 s)) (sym (ne_eqb s 0 d)) ∙ t)

-- the digits of a set from f on, of n; k of them are looked at
pub record Rest (k n set f rest : ℕ) : Type 0 where
  pub wide : n ≤ k
  pub few : rest < 2 ^ n
  pub told : (i : ℕ) → i < n → has rest i ≡ (leb f i && has set i)

pub rest_start : {k n set : ℕ} → n ≤ k → set < 2 ^ n → Rest k n set 0 set
rest_start {set = set} w h = record { wide = w; few = h; told = λ i l. ap (λ (b : Bool). b && has set i) (sym (le-leb 0 i (omega arith))) }

pub rest_none : {k n set f rest : ℕ} → Rest k n set f rest → rest ≡ 0 → (i : ℕ) → f ≤ i → i < n → has set i ≡ false
rest_none {set = set} {f} r e i h l =
    ap (λ (b : Bool). b && has set i) (sym (le-leb f i h)) ∙ sym (r.told i l) ∙ ap (λ (n : ℕ). has n i) e ∙ ap (λ (n : ℕ). eqb (n % 2) 1) (zero-div (2 ^ i))

module _ {k n set f rest : ℕ} (r : Rest k n set f rest) (d : rest ≡ 0 → ⊥) {z : ℕ} (e : z ≡ count_trailing_zeros k rest) where
  found : Low rest z
  found = subst (Low rest) (sym e) (low k rest (omega (arith, r.few, pow-le-pow_right {n = 2} (omega arith) r.wide)) d)

  pub rest_below : z < n
  rest_below = go (dec_lt z n)
    where
      go : Dec (z < n) → z < n
      go (yes l) = l
      go (no l) =
          let p = pow-le-pow_right {n = 2} (omega arith) {i = n} {j = z} (omega arith) in
          let q : rest / 2 ^ z ≡ 0 = div-eq_of_lt (omega (arith, r.few)) in
          absurd (true≢false (sym found.here ∙ ap (λ (n : ℕ). eqb (n % 2) 1) q))

  both : (leb f z && has set z) ≡ true
  both = sym (r.told z rest_below) ∙ found.here

  pub rest_from : f ≤ z
  rest_from = leb-true f z (and_true (leb f z) (has set z) both).0

  pub rest_at : has set z ≡ true
  rest_at = (and_true (leb f z) (has set z) both).1

  pub rest_skip : (i : ℕ) → f ≤ i → i < z → has set i ≡ false
  rest_skip i h l = let b = rest_below in ap (λ (b : Bool). b && has set i) (sym (le-leb f i h)) ∙ sym (r.told i (omega arith)) ∙ found.below i l

  pub rest_next : Rest k n set (z + 1) (bit_and rest (rest - 1))
  rest_next =
      record {
        wide = r.wide;
        few = omega (arith, r.few, and_le_r rest (rest - 1));
        told = λ i l. taken found i ∙ ap (λ (b : Bool). leb (z + 1) i && b) (r.told i l) ∙ past i;
      }
    where
      past : (i : ℕ) → (leb (z + 1) i && (leb f i && has set i)) ≡ (leb (z + 1) i && has set i)
      past i =
          split (λ b. leb (z + 1) i ≡ b → (b && (leb f i && has set i)) ≡ (b && has set i)) (leb (z + 1) i)
          (λ t u. let a = leb-true (z + 1) i u in let b = rest_from in ap (λ (b : Bool). b && has set i) (le-leb f i (omega arith))) (λ t u. refl) refl
