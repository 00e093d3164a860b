-- What an entry tells of a side; its four sets as one, and the deeds of that; the keys around its cell. Assumes nothing.
use mathlib.Core.Path.{◌≡◌, refl, sym, ap, ◌∙◌, subst}
use mathlib.Core.Bool.{Bool, true}
use mathlib.Core.List.{List, [], ◌∷◌, ◌++◌, append_assoc, append-nil}
use mathlib.Core.Option.{Option, none, some}
use Prim.Native.Nat.{ℕ, zero, suc, ◌+◌, ◌-◌, ◌*◌, ◌/◌, ◌%◌, ◌≤◌, ◌<◌}
use native.Mathlib.Omega.{arith}
use lib.Dec.{eqb}
use lib.ListN.{length}
use Rattle.rules.specs.Lists.{each, only, count}
use Rattle.rules.specs.Cells.{Size, cells, opposite, neighbour, key_of, has}
use Rattle.rules.specs.Update.{Entry}
use Rattle.rules.proofs.ListLaws.{All, all_append, all_each, all_if, each_same, count_each, get_d_table}
use Rattle.rules.proofs.Index.{count_le}
use Rattle.rules.proofs.Neighbours.{beside, opposite_lt, opposite_twice}
use Rattle.face.proofs.Lowest.{half}
use Rattle.util.specs.Grid.{Within}
use borrow.Author.Tests.{lt-ltb, le-ltb}
use Rattle.steps.specs.Steps.{Deed}
use Rattle.works.specs.declared.Work.{Work}
use Rattle.works.specs.Sets.{set_in, packed, key_or, key_around, keys_around, key_met, cutting, type_drawn, deed_by, part_deeds, deed_by_side, deed_at, deeds}

-- ---- four sets as one
module _ (r a : ℕ) (h : r < 64) where
  low_has : (f : ℕ) → f < 6 → has (r + 64 * a) f ≡ has r f
  low_has zero l = let z : (r + 64 * a) / 1 % 2 ≡ r / 1 % 2 = omega arith in ap (λ (n : ℕ). eqb n 1) z
  low_has (suc zero) l = let z : (r + 64 * a) / 2 % 2 ≡ r / 2 % 2 = omega arith in ap (λ (n : ℕ). eqb n 1) z
  low_has (suc (suc zero)) l = let z : (r + 64 * a) / 4 % 2 ≡ r / 4 % 2 = omega arith in ap (λ (n : ℕ). eqb n 1) z
  low_has (suc (suc (suc zero))) l = let z : (r + 64 * a) / 8 % 2 ≡ r / 8 % 2 = omega arith in ap (λ (n : ℕ). eqb n 1) z
  low_has (suc (suc (suc (suc zero)))) l = let z : (r + 64 * a) / 16 % 2 ≡ r / 16 % 2 = omega arith in ap (λ (n : ℕ). eqb n 1) z
  low_has (suc (suc (suc (suc (suc zero))))) l = let z : (r + 64 * a) / 32 % 2 ≡ r / 32 % 2 = omega arith in ap (λ (n : ℕ). eqb n 1) z
  low_has (suc (suc (suc (suc (suc (suc f)))))) l = absurd (omega arith)

  high_has : (i : ℕ) → has (r + 64 * a) (6 + i) ≡ has a i
  high_has i =
      let n = r + 64 * a in
      let z : 6 + i ≡ suc (suc (suc (suc (suc (suc i))))) = omega arith in
      let e : n / 2 / 2 / 2 / 2 / 2 / 2 ≡ a = omega arith in
      ap (has n) z ∙ half n _ ∙ half (n / 2) _ ∙ half (n / 2 / 2) _ ∙ half (n / 2 / 2 / 2) _ ∙ half (n / 2 / 2 / 2 / 2) _ ∙ half (n / 2 / 2 / 2 / 2 / 2) i ∙ ap (λ (m : ℕ). has m i) e

-- LAW: a side of a part is one of the 24
has_packed : (w : Work) → ((j : ℕ) → set_in w j < 64) → (j f : ℕ) → j < 4 → f < 6 → has (packed w) (6 * j + f) ≡ has (set_in w j) f
has_packed w few zero f _ l = let z : 6 * 0 + f ≡ f = omega arith in ap (has (packed w)) z ∙ low_has w.own _ (few 0) f l
has_packed w few (suc zero) f _ l = high_has w.own _ (few 0) f ∙ low_has w.shown _ (few 1) f l
has_packed w few (suc (suc zero)) f _ l =
    let z : 6 * 2 + f ≡ 6 + (6 + f) = omega arith in ap (has (packed w)) z ∙ high_has w.own _ (few 0) (6 + f) ∙ high_has w.shown _ (few 1) f ∙ low_has w.drawn _ (few 2) f l
has_packed w few (suc (suc (suc zero))) f _ l =
    let z : 6 * 3 + f ≡ 6 + (6 + (6 + f)) = omega arith in
    ap (has (packed w)) z ∙ high_has w.own _ (few 0) (6 + (6 + f)) ∙ high_has w.shown _ (few 1) (6 + f) ∙ high_has w.drawn w.hidden (few 2) f
has_packed w few (suc (suc (suc (suc j)))) f b l = absurd (omega arith)

-- LAW: the deeds of the 24 are those of the four parts
pub deeds_parts : (keys : List ℕ) (e : Entry) (w : Work) → ((j : ℕ) → set_in w j < 64)
    → deeds keys e (packed w) ≡ part_deeds keys e w.own 0 ++ (part_deeds keys e w.shown 1 ++ (part_deeds keys e w.drawn 2 ++ part_deeds keys e w.hidden 3))
unfolding each
deeds_parts keys e w few =
    each_same 24 0 (deed_at keys e (packed w)) (λ i. only (has (set_in w (i / 6)) (i % 6)) (deed_by_side keys e i))
    (λ i _ l. ap (λ (b : Bool). only b (deed_by_side keys e i)) (ap (has (packed w)) (omega arith) ∙ has_packed w few (i / 6) (i % 6) (omega arith) (omega arith)))
    ∙ simp (append_assoc, append-nil)

module _ (keys : List ℕ) (e : Entry) where
  -- LAW: an entry's work is 24 deeds at most
  pub all_few : (sides : ℕ) → length (deeds keys e sides) ≤ 24
  unfolding count
  all_few sides = omega (arith, count_each (has sides) (deed_by_side keys e) 24 0, count_le 24 (has sides))

  -- LAW: what holds at each face of the four sets holds of every deed
  pub all_deeds : (P : Deed → Type 0) (w : Work) → ((j : ℕ) → set_in w j < 64) → ((j f : ℕ) → j < 4 → f < 6 → has (set_in w j) f ≡ true → P (deed_by (cutting j) (type_drawn e j f) (key_met keys j f))) → All P (deeds keys e (packed w))
  all_deeds P w few holds =
      subst (All P) (sym (deeds_parts keys e w few))
      (all_append P (of 0) (of 1 ++ (of 2 ++ of 3)) (part 0 (omega arith)) (all_append P (of 1) (of 2 ++ of 3) (part 1 (omega arith)) (all_append P (of 2) (of 3) (part 2 (omega arith)) (part 3 (omega arith)))))
    where
      of : ℕ → List Deed
      of j = part_deeds keys e (set_in w j) j

      part : (j : ℕ) → j < 4 → All P (part_deeds keys e (set_in w j) j)
      part j a =
          all_each P 6 0 (λ f. only (has (set_in w j) f) (deed_by (cutting j) (type_drawn e j f) (key_met keys j f)))
          (λ f _ b. all_if P (has (set_in w j) f) (deed_by (cutting j) (type_drawn e j f) (key_met keys j f)) (holds j f a (omega arith)))

-- ---- the keys around a cell
-- the facing side of a neighbour, if the grid has it
abbrev pub facing : ℕ → Option ℕ → List ℕ
facing f none = []
facing f (some n) = key_of n (opposite f) ∷ []

module _ (s : Size) (c : ℕ) where
  -- LAW: a part meets the cell's own sides, or its neighbours' facing ones
  pub own_key : (j f : ℕ) → j % 2 ≡ 0 → f < 6 → key_met (keys_around s c) j f ≡ key_of c f
  own_key j f e l =
      let z : 6 * (j % 2) + f ≡ f = omega arith in
      get_d_table (key_around s c) 12 (6 * (j % 2) + f) 0 (omega arith) ∙ rw (z, lt-ltb f 6 l)

  pub near_key : (j f : ℕ) → j % 2 ≡ 1 → f < 6 → key_met (keys_around s c) j f ≡ key_or f (neighbour s c f)
  near_key j f e l =
      let z : 6 * (j % 2) + f - 6 ≡ f = omega arith in
      get_d_table (key_around s c) 12 (6 * (j % 2) + f) 0 (omega arith) ∙ rw (le-ltb (6 * (j % 2) + f) 6 (omega arith), z)

  -- LAW: a facing side is another cell's, within the grid
  pub near_all : Within s → c < cells s → (P : ℕ → Type 0) (f : ℕ) → f < 6 → ((k : ℕ) → k < 6 * cells s → (k / 6 ≡ c → ⊥) → opposite (k % 6) ≡ f → P k) → All P (facing f (neighbour s c f))
  near_all w h P f l holds = go (neighbour s c f) refl
    where
      go : (o : Option ℕ) → neighbour s c f ≡ o → All P (facing f o)
      go none q = tt
      go (some n) q =
          let x = beside s w.sides.wide w.sides.long c h f n q in
          let i = x.inside in
          let b = opposite_lt f l in
          let z : key_of n (opposite f) % 6 ≡ opposite f = omega arith in
          (holds (key_of n (opposite f)) (omega arith) (λ y. x.other (omega arith)) (ap opposite z ∙ opposite_twice f), tt)
