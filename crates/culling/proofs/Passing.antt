-- A list whose elements are written one by one. Assumes nothing.
use mathlib.Core.Path.{◌≡◌, refl, ◌∙◌}
use mathlib.Core.List.{List}
use Prim.Native.Nat.{ℕ, ◌+◌, ◌<◌}
use native.Mathlib.Omega.{arith}
use lib.ListN.{length, get_or, set, length-set}
use lib.Seq.{get_or-set_same, get_or-set_other}
use borrow.Author.Count.{below_more}

-- the first n are what they ought to be
pub record Passed (rule : ℕ → ℕ) (old sets : List ℕ) (n : ℕ) : Type 0 where
  pub long : length sets ≡ length old
  pub right : (k : ℕ) → k < n → get_or sets k 0 ≡ rule k

pub passed : (rule : ℕ → ℕ) (old : List ℕ) → Passed rule old old 0
passed rule old = record { long = refl; right = λ k h. absurd (omega arith) }

pub pass : (rule : ℕ → ℕ) {old sets : List ℕ} {n : ℕ} (v : ℕ) → Passed rule old sets n → n < length sets → v ≡ rule n → Passed rule old (set sets n v) (n + 1)
pass rule {old} {sets} {n} v p h e = record {
  long = length-set sets n v ∙ p.long;
  right = below_more (λ k. get_or (set sets n v) k 0 ≡ rule k) n
      (λ k l. get_or-set_other sets n k v 0 (λ q. omega arith) ∙ p.right k l) (get_or-set_same sets n v 0 h ∙ e);
}
