-- Lists that are written row by row, or word by word. Assumes nothing.
use mathlib.Core.Path.{◌≡◌, refl, sym, ap, ◌∙◌}
use mathlib.Core.List.{List, [], ◌∷◌, ◌++◌, append-nil, append_assoc}
use Prim.Native.Nat.{ℕ, zero, suc, ◌+◌, ◌-◌, ◌*◌, ◌≤◌, ◌<◌}
use native.Mathlib.Nat.{add-zero, zero-add, suc-mul, zero-mul, mul-suc}
use native.Mathlib.Numerals.{add-one}
use native.Mathlib.Omega.{arith}
use lib.ListN.{length, get_or, set, take, drop, length-append, length-drop, get_or-append}
use lib.Seq.{length-take-le, drop-cons, drop-drop, set_at, take_at, drop-append-add, get_or-append-add, drop-length}
use Rattle.rules.specs.Lists.{each, table, filled}
use Rattle.rules.proofs.ListLaws.{length-table}
use Rattle.rules.proofs.ListLaws as list

-- a part from a to a + n
pub length_lent : (a n : ℕ) (xs : List ℕ) → a + n ≤ length xs → length (take (a + n - a) (drop a xs)) ≡ n
length_lent a n xs h =
    let e : a + n - a ≡ n = omega arith in rw e (length-take-le n (drop a xs) (rw length-drop (omega arith)))

-- one more row
pub each_more : (n i : ℕ) (p : ℕ → List ℕ) → each (suc n) i p ≡ each n i p ++ p (i + n)
unfolding each
each_more zero i p = rw (append-nil, add-zero)
each_more (suc n) i p =
    ap (λ (r : List ℕ). p i ++ r) (each_more n (suc i) p)
    ∙ sym (append_assoc (p i) (each n (suc i) p) (p (suc i + n)))
    ∙ ap (λ (k : ℕ). (p i ++ each n (suc i) p) ++ p k) (shift i n)
  where
    shift : (i n : ℕ) → suc i + n ≡ i + suc n
    shift i n = omega arith

-- n rows of w words are written, and the rest is as it was
abbrev pub written : ℕ → (ℕ → List ℕ) → ℕ → List ℕ → List ℕ
written w p n xs = each n 0 p ++ drop (n * w) xs

module _ (w : ℕ) (p : ℕ → List ℕ) (wide : (k : ℕ) → length (p k) ≡ w) where
  pub get_d_each : (n i j k : ℕ) → j < n → k < w → get_or (each n i p) (w * j + k) 0 ≡ get_or (p (i + j)) k 0
  unfolding each
  get_d_each zero i j k J K = absurd (none j J)
    where
      none : (j : ℕ) → j < 0 → ⊥
      none j h = omega arith
  get_d_each (suc n) i zero k J K =
      let e : w * 0 + k ≡ k = omega arith in
      rw (e, add-zero) (get_or-append (p i) (each n (suc i) p) 0 k (rw (wide i) K))
  get_d_each (suc n) i (suc j) k J K =
      let e : w * suc j + k ≡ length (p i) + (w * j + k) = omega (arith, mul-suc w j, wide i) in
      let s : suc i + j ≡ i + suc j = omega arith in
      rw e (get_or-append-add (p i) (each n (suc i) p) (w * j + k) 0 ∙ get_d_each n (suc i) j k (omega arith) K
      ∙ ap (λ (m : ℕ). get_or (p m) k 0) s)

  pub written_none : (xs : List ℕ) → xs ≡ written w p 0 xs
  unfolding each
  written_none xs = rw zero-mul

  pub length_written : (n : ℕ) (xs : List ℕ) → n * w ≤ length xs → length (written w p n xs) ≡ length xs
  length_written n xs h = simp (length-append, list.length-each w n 0 p wide, length-drop) (omega arith)

  -- row n was lent, and came back as it should be
  pub written_more : (n : ℕ) (xs out ys : List ℕ) → out ≡ written w p n xs → ys ≡ p n
      → take (n * w) out ++ (ys ++ drop (n * w + w - n * w) (drop (n * w) out)) ≡ written w p (n + 1) xs
  written_more n xs out ys o e =
      let a : n * w + w - n * w ≡ w = omega arith in
      let l = list.length-each w n 0 p wide in
      rw (
        o,
        e,
        a,
        take_at (each n 0 p) (drop (n * w) xs) (n * w) l,
        drop-drop w (n * w) (written w p n xs),
        ← l,
        drop-append-add (each n 0 p) (drop (length (each n 0 p)) xs) w,
      )
      (rw (l, drop-drop w (n * w) xs, add-one n, each_more n 0 p, suc-mul n w, zero-add n)
      (sym (append_assoc (each n 0 p) (p n) (drop (n * w + w) xs))))

-- ---- word by word

pub filled_none : (v : ℕ → ℕ) (xs : List ℕ) → xs ≡ filled 0 v xs
unfolding each
filled_none v xs = refl

pub filled_more : (v : ℕ → ℕ) (n : ℕ) (xs out : List ℕ) → n < length xs → out ≡ filled n v xs → set out n (v n) ≡ filled (n + 1) v xs
filled_more v n xs out h e =
    rw (e, add-one, drop-cons xs n 0, each_more n 0 (λ k. v k ∷ []), zero-add n)
    (set_at (table n v) (get_or xs n 0) (drop (suc n) xs) (v n) n (length-table v n) ∙ sym (append_assoc (table n v) (v n ∷ []) (drop (suc n) xs)))

pub length-filled : (v : ℕ → ℕ) (n : ℕ) (xs out : List ℕ) → n ≤ length xs → out ≡ filled n v xs → length out ≡ length xs
length-filled v n xs out h e = ap length e ∙ simp (length-append, length-table, length-drop) (omega arith)

pub filled_whole : (v : ℕ → ℕ) (n : ℕ) (xs : List ℕ) → length xs ≡ n → filled n v xs ≡ table n v
filled_whole v n xs e = rw (← e, drop-length, append-nil)
