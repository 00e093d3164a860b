-- The rules' searches, by the turns of a loop. Assumes nothing.
use mathlib.Core.Path.{◌≡◌, refl, sym, ◌∙◌, subst}
use mathlib.Core.Bool.{Bool, true, false, beq}
use Prim.Native.Nat.{ℕ, suc, ◌+◌, ◌-◌, ◌≤◌, ◌<◌}
use native.Mathlib.Nat.{sub-zero}
use native.Mathlib.Numerals.{add-one}
use native.Mathlib.Omega.{arith}
use lib.Dec.{T}
use lib.Ieee.Bits.{is_true}
use Rattle.rules.specs.Lists.{every, lowest_from, lowest}
use Rattle.rules.proofs.ListLaws.{every_true, every_all}

-- what holds of each, holds of one, and back
pub every_at : (n : ℕ) (p : ℕ → Bool) → T (every n p) → (k : ℕ) → k < n → T (p k)
every_at n p t k h = subst T (sym (every_true n p (is_true (every n p) t) k h)) tt

pub every_of : (n : ℕ) (p : ℕ → Bool) → ((k : ℕ) → k < n → T (p k)) → T (every n p)
every_of n p h = subst T (sym (every_all n p (λ k l. is_true (p k) (h k l)))) tt

-- a search has come to t, and none before it is bad
pub record Searched (n : ℕ) (bad : ℕ → Bool) (t : ℕ) : Type 0 where
  pub within : t ≤ n
  pub left : lowest n bad ≡ lowest_from t (n - t) bad

module _ (n : ℕ) (bad : ℕ → Bool) where
  pub searched : Searched n bad 0
  searched = record { within = omega arith; left = rw sub-zero }

  more : (t : ℕ) → t < n → n - t ≡ suc (n - (t + 1))
  more t h = omega arith

  pub found : (t : ℕ) → t < n → Searched n bad t → bad t ≡ true → t ≡ lowest n bad
  unfolding lowest_from
  found t h s b = sym (s.left ∙ rw (more t h, b))

  pub passed : (t : ℕ) → t < n → Searched n bad t → bad t ≡ false → Searched n bad (t + 1)
  unfolding lowest_from
  passed t h s b = record { within = omega arith; left = s.left ∙ rw (more t h, b, add-one) }

  pub ended : (t : ℕ) → n ≤ t → Searched n bad t → t ≡ lowest n bad
  unfolding lowest_from
  ended t h s = let z : n - t ≡ 0 = omega arith in sym (s.left ∙ rw z)

-- two tests agree below n and m where the computed one says so
pub agree : (n m : ℕ) (p q : ℕ → ℕ → Bool) → T (every n (λ i. every m (λ j. beq (p i j) (q i j)))) → (i j : ℕ) → i < n → j < m → p i j ≡ q i j
agree n m p q t i j I J = same (p i j) (q i j) (every_at m (λ k. beq (p i k) (q i k)) (every_at n (λ k. every m (λ j. beq (p k j) (q k j))) t i I) j J)
  where
    same : (a b : Bool) → T (beq a b) → a ≡ b
    same true true h = refl
    same true false h = absurd h
    same false true h = absurd h
    same false false h = refl
