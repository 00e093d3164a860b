-- Faces written one after the other: rows in a list of s words a quad, and names in the slots. Assumes nothing.
use mathlib.Core.Path.{◌≡◌, refl, sym, ap, ◌∙◌}
use mathlib.Core.List.{List, [], ◌∷◌, ◌++◌, append-nil, append_assoc}
use Prim.Native.Nat.{ℕ, suc, ◌+◌, ◌*◌, ◌≤◌, ◌<◌}
use native.Mathlib.Numerals.{unary_clauses}
use native.Mathlib.Omega.{arith}
use native.Mathlib.Nat.{mul-le-mul_left}
use lib.ListN.{length, get_or, set, take, length-append, length-set}
use lib.Seq.{length-take-le, take-length}
use Rattle.rules.specs.Cells.{first_vertex}
use Rattle.vav.specs.Rows.{put}
use Rattle.vav.proofs.Laws.{length-put, put_none, take_more}
use Rattle.vav.proofs.Laws.{put_next, stored}
use Rattle.drawing.specs.Written.{rows_of, named}

-- six words, one after the other
pub six_stored : (at a b c d e f : ℕ) (xs : List ℕ) → at + 6 ≤ length xs
    → set (set (set (set (set (set xs at a) (at + 1) b) (at + 2) c) (at + 3) d) (at + 4) e) (at + 5) f ≡ put at (a ∷ b ∷ c ∷ d ∷ e ∷ f ∷ []) xs
six_stored at a b c d e f xs h = simp unary_clauses (stored at (a ∷ b ∷ c ∷ d ∷ e ∷ f ∷ []) xs h)

-- ---- rows
pub rows_append : (row : ℕ → List ℕ) (a b : List ℕ) → rows_of row (a ++ b) ≡ rows_of row a ++ rows_of row b
rows_append row [] b = refl
rows_append row (k ∷ a) b = ap (λ (r : List ℕ). row k ++ r) (rows_append row a b) ∙ sym (append_assoc (row k) (rows_of row a) (rows_of row b))

module _ (s : ℕ) (row : ℕ → List ℕ) (wide : (k : ℕ) → length (row k) ≡ s) where
  pub length-rows : (keys : List ℕ) → length (rows_of row keys) ≡ s * length keys
  length-rows [] = omega arith
  length-rows (k ∷ keys) = length-append (row k) (rows_of row keys) ∙ omega (arith, wide k, length-rows keys)

  -- LAW: rows written where others end
  pub rows_then : (base next : ℕ) (a b old : List ℕ) → next ≡ base + length a → s * base ≤ length old
      → put (s * next) (rows_of row b) (put (s * base) (rows_of row a) old) ≡ put (s * base) (rows_of row (a ++ b)) old
  rows_then base next a b old e h =
      let l : s * next ≡ s * base + length (rows_of row a) = ap (λ (k : ℕ). s * k) e ∙ omega (arith, length-rows a) in
      ap (λ (k : ℕ). put k (rows_of row b) (put (s * base) (rows_of row a) old)) l
      ∙ put_next (s * base) (rows_of row a) (rows_of row b) old h ∙ ap (λ (r : List ℕ). put (s * base) r old) (sym (rows_append row a b))

  pub kept_rows : (base : ℕ) (keys old : List ℕ) → s * (base + length keys) ≤ length old → length (put (s * base) (rows_of row keys) old) ≡ length old
  kept_rows base keys old h = length-put (s * base) (rows_of row keys) old (omega (arith, length-rows keys))

  -- ---- the turns of a loop over the faces
  module _ (base : ℕ) (keys old : List ℕ) where
    -- the rows of the first i faces are written
    pub record Written (i : ℕ) (xs : List ℕ) : Type 0 where
      pub is : xs ≡ put (s * base) (rows_of row (take i keys)) old
      pub kept : length xs ≡ length old

    pub start : Written 0 old
    start = record { is = put_none (s * base) old; kept = refl }

    pub next : {i : ℕ} {xs out : List ℕ} → s * (base + length keys) ≤ length old → i < length keys → Written i xs
        → out ≡ put (s * (base + i)) (row (get_or keys i 0)) xs → Written (i + 1) out
    next {i} {xs} {out} room h w e =
        let k = get_or keys i 0 in
        let l = length-take-le i keys (omega arith) in
        let one : rows_of row (k ∷ []) ≡ row k = append-nil (row k) in
        let low : base ≤ base + length keys = omega arith in
        let far : base + i + 1 ≤ base + length keys = omega arith in
        let u = mul-le-mul_left s low in
        let v = mul-le-mul_left s far in
        let kept = w.kept in
        record {
          is = e ∙ ap (put (s * (base + i)) (row k)) w.is
              ∙ ap (λ (r : List ℕ). put (s * (base + i)) r (put (s * base) (rows_of row (take i keys)) old)) (sym one)
              ∙ rows_then base (base + i) (take i keys) (k ∷ []) old (omega arith) (omega arith)
              ∙ ap (λ (r : List ℕ). put (s * base) (rows_of row r) old) (sym (take_more i keys h));
          kept = ap length e ∙ length-put (s * (base + i)) (row k) xs (omega (arith, wide k)) ∙ kept;
        }

    pub stop : {i : ℕ} {xs : List ℕ} → i ≡ length keys → Written i xs → xs ≡ put (s * base) (rows_of row keys) old
    stop e w = w.is ∙ ap (λ (k : ℕ). put (s * base) (rows_of row (take k keys)) old) e ∙ ap (λ (r : List ℕ). put (s * base) (rows_of row r) old) (take-length keys)

-- ---- names
pub named_then : (q : ℕ) (a b slots : List ℕ) → named (q + length a) b (named q a slots) ≡ named q (a ++ b) slots
named_then q [] b slots = ap (λ (k : ℕ). named k b slots) (omega arith)
named_then q (k ∷ a) b slots =
    let e : q + suc (length a) ≡ suc q + length a = omega arith in
    ap (λ (i : ℕ). named i b (named (suc q) a (set slots k (first_vertex q)))) e ∙ named_then (suc q) a b (set slots k (first_vertex q))

pub kept_named : (q : ℕ) (keys slots : List ℕ) → length (named q keys slots) ≡ length slots
kept_named q [] slots = refl
kept_named q (k ∷ keys) slots = kept_named (suc q) keys (set slots k (first_vertex q)) ∙ length-set slots k (first_vertex q)
