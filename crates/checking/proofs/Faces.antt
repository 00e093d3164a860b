-- WRONG_SET, cell by cell. Assumes nothing.
use mathlib.Core.Path.{◌≡◌, refl, sym, ap, ◌∙◌}
use mathlib.Core.Bool.{Bool, true, false, cond, not}
use mathlib.Core.List.{List}
use Prim.Native.Nat.{ℕ, zero, suc, ◌+◌, ◌*◌, ◌/◌, ◌%◌, ◌^◌, ◌≤◌, ◌<◌}
use native.Mathlib.Numerals.{add-one}
use native.Mathlib.Omega.{arith}
use native.Mathlib.Decide.{dec_lt}
use lib.Dec.{eqb}
use lib.ListN.{length, get_or}
use borrow.Author.Tests.{eqb-true, eqb-false}
use Rattle.rules.specs.Lists.{lowest}
use Rattle.rules.specs.Cells.{has, set_of}
use Rattle.rules.specs.Mesh.{World, Lists, NONE, there, place_of, decode}
use Rattle.rules.specs.Answers.{slot_at, wrong_face, is_filled, unlike}
use Rattle.rules.proofs.ListLaws.{both_ways, lowest_good, lowest_bad, within}
use Rattle.rules.proofs.Searches.{Searched, passed, found}
use Rattle.rules.proofs.Checking.{Book, filled_named, there_of, place_of_lem}
use Rattle.culling.specs.Culling.{world_of}
use Rattle.rules.proofs.Sets.{has-set_of}
use Rattle.culling.proofs.Sides.{set_of_cong, drawn_by}
use Rattle.checking.specs.Faces.{filled_set, bits, four_sets, wrong_slot}

-- ---- searches

pub passed_many : (n : ℕ) (bad : ℕ → Bool) (t k : ℕ) → t + k ≤ n → Searched n bad t → ((f : ℕ) → f < k → bad (t + f) ≡ false) → Searched n bad (t + k)
passed_many n bad t zero h s none = let e : t + 0 ≡ t = omega arith in rw e s
passed_many n bad t (suc k) h s none =
    let before = passed_many n bad t k (omega arith) s (λ f l. none f (omega arith)) in
    let e : t + suc k ≡ t + k + 1 = omega arith in
    rw e (passed n bad (t + k) (omega arith) before (none k (omega arith)))

-- ---- two sets of a cell

like : (a : Bool) → unlike a a ≡ false
like true = refl
like false = refl

pub alike : (a b : Bool) → unlike a b ≡ false → a ≡ b
alike true true e = refl
alike true false e = e
alike false b e = sym e

-- two bits
pub unlike_bits : (x y : ℕ) → x < 2 → y < 2 → not (eqb x y) ≡ unlike (eqb x 1) (eqb y 1)
unlike_bits zero zero h k = refl
unlike_bits zero (suc zero) h k = refl
unlike_bits zero (suc (suc y)) h k = absurd (omega arith)
unlike_bits (suc zero) zero h k = refl
unlike_bits (suc zero) (suc zero) h k = refl
unlike_bits (suc zero) (suc (suc y)) h k = absurd (omega arith)
unlike_bits (suc (suc x)) y h k = absurd (omega arith)

module _ (n c : ℕ) (bad p q : ℕ → Bool) (a b : ℕ) (is : (f : ℕ) → f < 6 → bad (6 * c + f) ≡ unlike (p f) (q f))
    (ea : a ≡ set_of p) (eb : b ≡ set_of q) (fits : 6 * c + 6 ≤ n) (s : Searched n bad (6 * c)) where
  abbrev differs : ℕ → Bool
  differs f = unlike (has a f) (has b f)

  told : (f : ℕ) → f < 6 → differs f ≡ bad (6 * c + f)
  told f h = rw (ea, eb, has-set_of p f h, has-set_of q f h) (sym (is f h))

  -- a cell whose sets are the same
  pub all_like : a ≡ b → Searched n bad (6 * (c + 1))
  all_like e =
      let next : 6 * (c + 1) ≡ 6 * c + 6 = omega arith in
      rw next (passed_many n bad (6 * c) 6 fits s (λ f h. sym (told f h) ∙ rw e (like (has b f))))

  some_unlike : (a ≡ b → ⊥) → lowest 6 differs < 6
  some_unlike d = go (dec_lt (lowest 6 differs) 6)
    where
      go : Dec (lowest 6 differs < 6) → lowest 6 differs < 6
      go (yes h) = h
      go (no h) =
          absurd
          (d (ea ∙ set_of_cong p q (λ f l. alike (p f) (q f) (sym (is f l) ∙ sym (told f l) ∙ lowest_good 6 differs f (omega arith))) ∙ sym eb))

  -- a cell whose sets are not
  pub first_unlike : (a ≡ b → ⊥) → 6 * c + lowest 6 differs ≡ lowest n bad
  first_unlike d =
      let h = some_unlike d in
      found n bad (6 * c + lowest 6 differs) (omega arith)
      (passed_many n bad (6 * c) (lowest 6 differs) (omega arith) s (λ f l. sym (told f (omega arith)) ∙ lowest_good 6 differs f l))
      (sym (told (lowest 6 differs) h) ∙ lowest_bad 6 differs h)

-- a slot that was read
pub slot_is : (slots : List ℕ) (i k : ℕ) → i ≡ k → k < length slots → not (eqb (get_or slots i 0) NONE) ≡ is_filled slots k
slot_is slots i k e h = rw (e, within slots k 0 NONE h)

-- ---- the slots of four cells, a bit each

pub bits_more : (p : ℕ → Bool) (k : ℕ) → bits p (k + 1) ≡ bits p k + cond (p k) (2 ^ k) 0
unfolding bits
bits_more p k = rw add-one

lifted : (b : Bool) (w n : ℕ) → cond b (w * n) 0 ≡ w * cond b n 0
lifted true w n = refl
lifted false w n = omega arith

all_bits : (p : ℕ → Bool) → bits p 24 ≡ set_of p + 64 * set_of (λ f. p (6 + f)) + 4096 * set_of (λ f. p (12 + f)) + 262144 * set_of (λ f. p (18 + f))
unfolding bits
all_bits p = omega (arith, lifted (p 6) 64 1, lifted (p 7) 64 2, lifted (p 8) 64 4, lifted (p 9) 64 8, lifted (p 10) 64 16, lifted (p 11) 64 32, lifted (p 12) 4096 1, lifted (p 13) 4096 2, lifted (p 14) 4096 4, lifted (p 15) 4096 8, lifted (p 16) 4096 16, lifted (p 17) 4096 32, lifted (p 18) 262144 1, lifted (p 19) 262144 2, lifted (p 20) 262144 4, lifted (p 21) 262144 8, lifted (p 22) 262144 16, lifted (p 23) 262144 32)

pub four_cells : (slots : List ℕ) (c : ℕ) → bits (λ k. is_filled slots (6 * c + k)) 24 ≡ four_sets (λ i. filled_set slots (c + i))
four_cells slots c =
    all_bits (λ k. is_filled slots (6 * c + k)) ∙ (λ i. cell 0 i + 64 * cell 1 i + 4096 * cell 2 i + 262144 * cell 3 i)
  where
    cell : (n : ℕ) → set_of (λ f. is_filled slots (6 * c + (6 * n + f))) ≡ filled_set slots (c + n)
    cell n =
        set_of_cong (λ f. is_filled slots (6 * c + (6 * n + f))) (λ f. is_filled slots (6 * (c + n) + f))
        (λ f h. let e : 6 * c + (6 * n + f) ≡ 6 * (c + n) + f = omega arith in ap (is_filled slots) e)

-- four sets side by side are the same, each for itself
pub four_same : (a b : ℕ → ℕ) → ((i : ℕ) → i < 4 → a i < 64) → ((i : ℕ) → b i < 64) → four_sets a ≡ four_sets b → (i : ℕ) → i < 4 → a i ≡ b i
four_same a b A B e i h =
    go i h (A 0 (omega arith)) (A 1 (omega arith)) (A 2 (omega arith)) (A 3 (omega arith)) (B 0) (B 1) (B 2) (B 3)
  where
    go : (i : ℕ) → i < 4 → a 0 < 64 → a 1 < 64 → a 2 < 64 → a 3 < 64 → b 0 < 64 → b 1 < 64 → b 2 < 64 → b 3 < 64 → a i ≡ b i
    go zero h a0 a1 a2 a3 b0 b1 b2 b3 = omega (arith, e)
    go (suc zero) h a0 a1 a2 a3 b0 b1 b2 b3 = omega (arith, e)
    go (suc (suc zero)) h a0 a1 a2 a3 b0 b1 b2 b3 = omega (arith, e)
    go (suc (suc (suc zero))) h a0 a1 a2 a3 b0 b1 b2 b3 = omega (arith, e)
    go (suc (suc (suc (suc i)))) h a0 a1 a2 a3 b0 b1 b2 b3 = absurd (omega arith)

-- a side of two sets that are the same
pub same_side : (p q : ℕ → Bool) → set_of p ≡ set_of q → (f : ℕ) → f < 6 → unlike (p f) (q f) ≡ false
same_side p q e f h =
    let same : p f ≡ q f = sym (has-set_of p f h) ∙ ap (λ (n : ℕ). has n f) e ∙ has-set_of q f h in
    rw same (like (q f))

-- cells with no wrong face
pub cells_like : (n : ℕ) (bad : ℕ → Bool) (x m : ℕ) → 6 * (x + m) ≤ n → Searched n bad (6 * x)
    → ((i : ℕ) → i < m → (f : ℕ) → f < 6 → bad (6 * (x + i) + f) ≡ false) → Searched n bad (6 * (x + m))
cells_like n bad x m h s none =
    let all : 6 * (x + m) ≡ 6 * x + 6 * m = omega arith in
    rw all
    (passed_many n bad (6 * x) (6 * m) (omega arith) s
    (λ k l. let e : 6 * x + k ≡ 6 * (x + k / 6) + k % 6 = omega arith in
    ap bad e ∙ none (k / 6) (omega arith) (k % 6) (omega arith)))

-- ---- a face is there exactly if its slot is filled

module _ (n : ℕ) (tint : Bool) (B : Lists) (Q : ℕ) (room : 6 * n ≤ length B.slots) (book : Book n B Q) where
  pub there_filled : (k : ℕ) → k < 6 * n → there k (decode tint Q B) ≡ is_filled B.slots k
  there_filled k h = go (eqb (slot_at B k) NONE) refl
    where
      go : (t : Bool) → eqb (slot_at B k) NONE ≡ t → there k (decode tint Q B) ≡ not t
      go true e =
          both_ways (there k (decode tint Q B))
          (λ t. let i = place_of_lem n B Q tint k t in
          let none = eqb-true (slot_at B k) NONE e in
          let named = ap (slot_at B) (sym i.1) ∙ book.named (place_of k (decode tint Q B)) i.0 in
          omega arith)
      go false e = let i = filled_named n B Q room book k h (eqb-false (slot_at B k) NONE e) in rw i.3 at (there_of n B Q tint i.0 i.1)

  pub face_slot : (W : World) (outer g : List ℕ) (k : ℕ) → k < 6 * n
      → wrong_slot (world_of W.size W.kinds W.covers) outer g B.slots k ≡ wrong_face W outer g (decode tint Q B) k
  unfolding wrong_face
  face_slot W outer g k h = rw (there_filled k h, drawn_by W outer g (k / 6) (k % 6))
