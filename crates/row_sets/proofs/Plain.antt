-- Laws of culling by bytes: the byte formula is the rule where every code is plain. Assumes nothing.
use mathlib.Core.Path.{◌≡◌, refl, sym, ap, ap₂, ◌∙◌, subst}
use mathlib.Core.Logic.{inl, inr}
use mathlib.Core.Bool.{Bool, true, false, false≢true, cond, not, ◌&&◌, ◌||◌}
use mathlib.Core.List.{List}
use mathlib.Core.Option.{Option, none, some}
use Prim.Native.Nat.{ℕ, zero, suc, ◌+◌, ◌-◌, ◌*◌, ◌≤◌, ◌<◌}
use native.Mathlib.Omega.{arith}
use lib.Bits.{bit_and, bit_or, and_lt, or_lt}
use lib.Dec.{eqb, ltb, leb}
use lib.ListN.{length, get_or, set, length-set}
use lib.Seq.{get_or-set_same, get_or-set_other}
use borrow.Author.Count.{below_more}
use borrow.Author.Tests.{ltb-true, ltb-false, leb-true, leb-false, eq-eqb, ne_eqb}
use Rattle.rules.specs.Lists.{member}
use Rattle.rules.specs.Cells.{Size, Triple, cells, coordinates, opposite, only_if, neighbour, has, set_of}
use Rattle.rules.specs.Mesh.{type_at, shown, drawn}
use Rattle.rules.proofs.ListLaws.{within}
use Rattle.rules.proofs.Sets.{set_of_lt, set_is, has-set_of, has_and, has_or, has_others}
use Rattle.rules.proofs.Neighbours.{beside}
use Rattle.util.specs.Grid.{cords_of, Within, Starts}
use Rattle.util.proofs.Rows.{row_end, row_cords}
use Rattle.util.proofs.Neighbors.{steps}
use Rattle.culling.specs.Culling.{world_of, outer_set, Whole}
use Rattle.culling.proofs.Sides.{set_of_cong}
use Rattle.culling.proofs.Passing.{Passed}
use Rattle.row_sets.specs.declared.Codes.{Codes}
use Rattle.row_sets.specs.declared.around.Around.{Around}
use Rattle.row_sets.specs.Plainly.{Plainly, Plain, Along}
use Rattle.row_sets.specs.Around.{is_row_face, RowBeside, is_there, RowsOf}
use Rattle.row_sets.specs.Rows.{code_of, plain_set, plain_shown, plain_at, Beside}

-- ---- faces of a set that is made bit by bit

-- LAW: a side is kept and open, or not kept and not in the outer set
pub formula_is : (p : ℕ → Bool) (seen keep outer : ℕ) → seen ≡ set_of p → keep < 64 → outer < 64
    → bit_or (bit_and seen keep) (63 - bit_or keep outer) ≡ set_of (λ f. cond (has keep f) (p f) (not (has outer f)))
formula_is p seen keep outer e k o =
    let l : seen < 64 = omega (arith, e, set_of_lt p) in
    set_is (λ f. cond (has keep f) (p f) (not (has outer f))) (bit_or (bit_and seen keep) (63 - bit_or keep outer))
    (or_lt 6 (bit_and seen keep) (63 - bit_or keep outer) (and_lt 6 seen keep l k) (omega arith))
    (λ f h. has_or (bit_and seen keep) (63 - bit_or keep outer) f
    ∙ ap₂ (λ (a b : Bool). a || b) (has_and seen keep f ∙ ap (λ (a : Bool). a && has keep f) (ap (λ (n : ℕ). has n f) e ∙ has-set_of p f h))
    (has_others (bit_or keep outer) (or_lt 6 keep outer k o) f h ∙ ap not (has_or keep outer f))
    ∙ tidy (p f) (has keep f) (has outer f))
  where
    tidy : (p k o : Bool) → ((p && k) || not (k || o)) ≡ cond k p (not o)
    tidy true true o = refl
    tidy true false o = refl
    tidy false true o = refl
    tidy false false o = refl

-- ---- the cells beside a cell whose coordinates are known

abbrev is_on : Size → Triple → ℕ → Bool
is_on s v zero = ltb (v.y + 1) s.h
is_on s v (suc zero) = ltb 0 v.y
is_on s v (suc (suc zero)) = ltb (v.x + 1) s.w
is_on s v (suc (suc (suc zero))) = ltb 0 v.x
is_on s v (suc (suc (suc (suc zero)))) = ltb (v.z + 1) s.l
is_on s v (suc (suc (suc (suc (suc f))))) = ltb 0 v.z

abbrev toward : Size → ℕ → ℕ → ℕ
toward s c zero = c + s.l * s.w
toward s c (suc zero) = c - s.l * s.w
toward s c (suc (suc zero)) = c + 1
toward s c (suc (suc (suc zero))) = c - 1
toward s c (suc (suc (suc (suc zero)))) = c + s.w
toward s c (suc (suc (suc (suc (suc f))))) = c - s.w

here_is : (s : Size) (c f : ℕ) → f < 6 → neighbour s c f ≡ only_if (is_on s (coordinates s c) f) (toward s c f)
unfolding neighbour
here_is s c zero h = refl
here_is s c (suc zero) h = refl
here_is s c (suc (suc zero)) h = refl
here_is s c (suc (suc (suc zero))) h = refl
here_is s c (suc (suc (suc (suc zero)))) h = refl
here_is s c (suc (suc (suc (suc (suc zero))))) h = refl
here_is s c (suc (suc (suc (suc (suc (suc f)))))) h = absurd (omega arith)

beside_cell : (s : Size) (c : ℕ) {v : Triple} → v ≡ coordinates s c → (f : ℕ) → f < 6 → neighbour s c f ≡ only_if (is_on s v f) (toward s c f)
beside_cell s c e f h = here_is s c f h ∙ ap (λ (v : Triple). only_if (is_on s v f) (toward s c f)) (sym e)

-- ---- the rows beside a row

abbrev shift : ℕ → Option ℕ → Option ℕ
shift x none = none
shift x (some n) = some (n + x)

shifted : (x : ℕ) (b : Bool) (m n : ℕ) → (b ≡ true → m ≡ n + x) → only_if b m ≡ shift x (only_if b n)
shifted x true m n e = ap some (e refl)
shifted x false m n e = refl

module _ (s : Size) {c y z : ℕ} (in_limits : Within s) (starts : Starts s c y z) where
  -- what is beside a cell of the row is as far on as the cell
  moved : (x : ℕ) → x < s.w → (f : ℕ) → f < 6 → is_row_face f ≡ true → neighbour s (c + x) f ≡ shift x (neighbour s c f)
  moved x wide f h t =
      beside_cell s (c + x) (row_cords s in_limits starts x wide) f h ∙ go f h t ∙ sym (ap (shift x) (beside_cell s c starts.cords f h))
    where
      go : (f : ℕ) → f < 6 → is_row_face f ≡ true → only_if (is_on s (cords_of x y z) f) (toward s (c + x) f) ≡ shift x (only_if (is_on s (cords_of 0 y z) f) (toward s c f))
      go zero h t = shifted x (ltb (y + 1) s.h) _ _ (λ e. omega arith)
      go (suc zero) h t = shifted x (ltb 0 y) _ _ (λ e. let l = (steps s c in_limits starts.inside starts.cords).bottom (ltb-true 0 y e) in omega arith)
      go (suc (suc zero)) h t = absurd (false≢true t)
      go (suc (suc (suc zero))) h t = absurd (false≢true t)
      go (suc (suc (suc (suc zero)))) h t = shifted x (ltb (z + 1) s.l) _ _ (λ e. omega arith)
      go (suc (suc (suc (suc (suc f))))) h t = shifted x (ltb 0 z) _ _ (λ e. let l = (steps s c in_limits starts.inside starts.cords).forward (ltb-true 0 z e) in omega arith)

  pub beside_none : (f : ℕ) → f < 6 → is_row_face f ≡ true → neighbour s c f ≡ none → RowBeside s c f c
  beside_none f h t e = record {
    fits = row_end s in_limits starts;
    is = λ x k. moved x k f h t ∙ ap (shift x) e ∙ sym (ap (λ (b : Bool). only_if (not b) (c + x)) (eq-eqb c c refl));
  }

  pub beside_some : (f r : ℕ) → f < 6 → is_row_face f ≡ true → neighbour s c f ≡ some r → RowBeside s c f r
  beside_some f r h t e =
      let w = in_limits.sides.wide in
      let l = in_limits.sides.long in
      let there : (x : ℕ) → x < s.w → neighbour s (c + x) f ≡ some (r + x) = λ x k. moved x k f h t ∙ ap (shift x) e in
      let end = row_end s in_limits starts in
      let inside : c + (s.w - 1) < cells s = omega arith in
      record {
        fits = omega (arith, (beside s w l (c + (s.w - 1)) inside f (r + (s.w - 1)) (there (s.w - 1) (omega arith))).inside);
        is = λ x k. there x k ∙ sym (ap (λ (b : Bool). only_if (not b) (r + x)) (ne_eqb r c (beside s w l c starts.inside f r e).other));
      }

-- ---- a cell of a row

-- a side by its byte, where the byte is read at the neighbour or is not kept
side : (full outer : ℕ) (g : List ℕ) (f code n : ℕ) (b keep : Bool) → keep ≡ b → (b ≡ true → code ≡ get_or g n 0)
    → cond keep (ltb code full) (not (has outer f)) ≡ plain_shown full outer g f (only_if b n)
side full outer g f code n true keep k to = ap (λ (t : Bool). cond t (ltb code full) (not (has outer f))) k ∙ ap (λ (m : ℕ). ltb m full) (to refl)
side full outer g f code n false keep k to = ap (λ (t : Bool). cond t (ltb code full) (not (has outer f))) k

is_there_lem : (b : Bool) (m n : ℕ) → only_if b m ≡ some n → (b ≡ true) × (m ≡ n)
is_there_lem true m n e = (refl, cc)
is_there_lem false m n e = absurd (let z : ◌≡◌ {A = ℕ} 0 1 = cc in omega arith)

abbrev codes_at : Around → List ℕ → ℕ → ℕ → ℕ → Codes
codes_at rows g x right left = record {
  up = get_or g (rows.up + x) 0;
  down = get_or g (rows.down + x) 0;
  right = get_or g right 0;
  left = get_or g left 0;
  back = get_or g (rows.back + x) 0;
  forward = get_or g (rows.forward + x) 0;
}

module _ (size : Size) (in_limits : Within size) (rows : Around) (r : RowsOf size rows) where
  abbrev place : ℕ → ℕ → ℕ
  place x zero = rows.up + x
  place x (suc zero) = rows.down + x
  place x (suc (suc zero)) = rows.at + x + 1
  place x (suc (suc (suc zero))) = rows.at + x - 1
  place x (suc (suc (suc (suc zero)))) = rows.back + x
  place x (suc (suc (suc (suc (suc f))))) = rows.forward + x

  beside_it : (x f : ℕ) → x < size.w → f < 6 → neighbour size (rows.at + x) f ≡ only_if (is_there size rows x f) (place x f)
  beside_it x zero w h = r.up.is x w
  beside_it x (suc zero) w h = r.down.is x w
  beside_it x (suc (suc zero)) w h = beside_cell size (rows.at + x) (row_cords size in_limits r.starts x w) 2 h
  beside_it x (suc (suc (suc zero))) w h = beside_cell size (rows.at + x) (row_cords size in_limits r.starts x w) 3 h
  beside_it x (suc (suc (suc (suc zero)))) w h = r.back.is x w
  beside_it x (suc (suc (suc (suc (suc zero))))) w h = r.forward.is x w
  beside_it x (suc (suc (suc (suc (suc (suc f)))))) w h = absurd (omega arith)

  pub kept_sides : (along : List ℕ) (x : ℕ) → Along size.w along → x < size.w → rows.sides + get_or along x 0 ≡ set_of (is_there size rows x)
  kept_sides along x a h = omega (arith, r.sides, a.sides x h)

  -- LAW: the formula, with the neighbours' codes read at these places, is the rule by bytes
  pub cell_is_plain : (full outer : ℕ) (g : List ℕ) {x right left keep : ℕ} → Beside size rows x right left → keep ≡ set_of (is_there size rows x)
      → plain_set full keep outer (get_or g (rows.at + x) 0) (code_of (codes_at rows g x right left)) ≡ plain_at size full outer g (rows.at + x)
  unfolding plain_set plain_at
  cell_is_plain full outer g {x} {right} {left} {keep} p e =
      ap (λ (n : ℕ). cond (leb full (get_or g (rows.at + x) 0)) n 0)
      (set_of_cong _ (λ f. plain_shown full outer g f (neighbour size (rows.at + x) f))
      (λ f h. side full outer g f _ (place x f) (is_there size rows x f) (has keep f) (ap (λ (n : ℕ). has n f) e ∙ has-set_of (is_there size rows x) f h) (read f h)
      ∙ ap (plain_shown full outer g f) (sym (beside_it x f p.wide h))))
    where
      read : (f : ℕ) → f < 6 → is_there size rows x f ≡ true → code_of (codes_at rows g x right left) f ≡ get_or g (place x f) 0
      read zero h t = refl
      read (suc zero) h t = refl
      read (suc (suc zero)) h t = ap (λ (n : ℕ). get_or g n 0) (p.on (ltb-true _ _ t))
      read (suc (suc (suc zero))) h t = ap (λ (n : ℕ). get_or g n 0) (p.off (ltb-true _ _ t))
      read (suc (suc (suc (suc zero)))) h t = refl
      read (suc (suc (suc (suc (suc f))))) h t = refl

  -- ---- rows of plain codes
  module _ (clear full : ℕ) (g : List ℕ) where
    abbrev PlainFrom : ℕ → Type 0
    PlainFrom start = (k : ℕ) → k < size.w → Plain clear full (get_or g (start + k) 0)

    abbrev Plainest : Type 0
    Plainest = (x : ℕ) → x < size.w → Plain clear full (get_or g (rows.at + x) 0)
        × ((f n : ℕ) → f < 6 → neighbour size (rows.at + x) f ≡ some n → Plain clear full (get_or g n 0))

    pub plain_around : PlainFrom rows.at → PlainFrom rows.up → PlainFrom rows.down → PlainFrom rows.back → PlainFrom rows.forward → Plainest
    plain_around own above below behind before x wide = (own x wide, λ f n h e. let t = is_there_lem _ _ _ (sym (beside_it x f wide h) ∙ e) in move t.1 (at_place f h t.0))
      where
        move : {m n : ℕ} → m ≡ n → Plain clear full (get_or g m 0) → Plain clear full (get_or g n 0)
        move e p = subst (λ (n : ℕ). Plain clear full (get_or g n 0)) e p

        at_place : (f : ℕ) → f < 6 → is_there size rows x f ≡ true → Plain clear full (get_or g (place x f) 0)
        at_place zero h t = above x wide
        at_place (suc zero) h t = below x wide
        at_place (suc (suc zero)) h t = move (omega arith) (own (x + 1) (ltb-true _ _ t))
        at_place (suc (suc (suc zero))) h t = let i : 0 < x = ltb-true _ _ t in move (omega arith) (own (x - 1) (omega arith))
        at_place (suc (suc (suc (suc zero)))) h t = behind x wide
        at_place (suc (suc (suc (suc (suc f))))) h t = before x wide

-- ---- plain codes

-- which types are full, and which leave a side to be seen
module _ (kinds covers : List ℕ) (clear full : ℕ) (p : Plainly kinds covers clear full) (t : ℕ) (typed : t < length kinds) (plain : Plain clear full t) where
  pub full_is_cube : leb full t ≡ eqb (get_or kinds t 0) 1
  full_is_cube = go (leb full t) refl plain
    where
      go : (b : Bool) → leb full t ≡ b → Plain clear full t → leb full t ≡ eqb (get_or kinds t 0) 1
      go true e q = e ∙ sym (eq-eqb _ _ (p.from.kind t (leb-true _ _ e) typed))
      go false e (inl q) = e ∙ sym (ne_eqb _ _ (p.below.kind t q))
      go false e (inr q) = absurd (let l : t < full = leb-false full t e in omega arith)

  pub open_is_shown : (f : ℕ) → f < 6 → ltb t full ≡ not (has (get_or covers t 0) (opposite f))
  open_is_shown f h = go (ltb t full) refl plain
    where
      ends : (f : ℕ) → f < 6 → (not (has 63 (opposite f)) ≡ false) × (not (has 0 (opposite f)) ≡ true)
      ends zero h = (refl, refl)
      ends (suc zero) h = (refl, refl)
      ends (suc (suc zero)) h = (refl, refl)
      ends (suc (suc (suc zero))) h = (refl, refl)
      ends (suc (suc (suc (suc zero)))) h = (refl, refl)
      ends (suc (suc (suc (suc (suc zero))))) h = (refl, refl)
      ends (suc (suc (suc (suc (suc (suc f)))))) h = absurd (omega arith)

      go : (b : Bool) → ltb t full ≡ b → Plain clear full t → ltb t full ≡ not (has (get_or covers t 0) (opposite f))
      go true e (inl q) = e ∙ sym (ap (λ (n : ℕ). not (has n (opposite f))) (p.below.cover t q) ∙ (ends f h).1)
      go true e (inr q) = absurd (let l : t < full = ltb-true t full e in omega arith)
      go false e q = e ∙ sym (ap (λ (n : ℕ). not (has n (opposite f))) (p.from.cover t (ltb-false _ _ e) typed) ∙ (ends f h).0)

-- LAW: the rule by bytes is the rule of culling, for a cell whose code is plain and whose neighbours' are
module _ (s : Size) (kinds covers : List ℕ) (clear full : ℕ) (p : Plainly kinds covers clear full) (g : List ℕ)
    (typed : (k : ℕ) → k < length g → get_or g k 0 < length kinds) (faces : List ℕ) where
  pub plain_is_drawn : (c : ℕ) → c < length g → Plain clear full (get_or g c 0)
      → ((f n : ℕ) → f < 6 → neighbour s c f ≡ some n → (n < length g) × Plain clear full (get_or g n 0))
      → plain_at s full (outer_set faces) g c ≡ set_of (drawn (world_of s kinds covers) faces g c)
  unfolding plain_at
  plain_is_drawn c h own beside =
      go (leb full (get_or g c 0)) refl
      (sym (full_is_cube kinds covers clear full p (get_or g c 0) (typed c h) own ∙ ap (λ (t : ℕ). eqb (get_or kinds t 0) 1) (within g c 0 255 h)))
    where
      seen : (f : ℕ) → f < 6 → (o : Option ℕ) → neighbour s c f ≡ o → plain_shown full (outer_set faces) g f o ≡ shown (world_of s kinds covers) faces g f o
      seen f l none e = ap not (has-set_of (λ f. member f faces) f l)
      seen f l (some n) e =
          let b = beside f n l e in
          open_is_shown kinds covers clear full p (get_or g n 0) (typed n b.0) b.1 f l
          ∙ ap (λ (t : ℕ). not (has (get_or covers t 0) (opposite f))) (within g n 0 255 b.0)

      go : (b : Bool) → leb full (get_or g c 0) ≡ b → eqb (get_or kinds (type_at g c) 0) 1 ≡ leb full (get_or g c 0)
          → cond (leb full (get_or g c 0)) (set_of (λ f. plain_shown full (outer_set faces) g f (neighbour s c f))) 0 ≡ set_of (drawn (world_of s kinds covers) faces g c)
      go true e cube =
          ap (λ (b : Bool). cond b (set_of (λ f. plain_shown full (outer_set faces) g f (neighbour s c f))) 0) e
          ∙ set_of_cong _ (drawn (world_of s kinds covers) faces g c)
          (λ f l. seen f l (neighbour s c f) refl ∙ sym (ap (λ (b : Bool). b && shown (world_of s kinds covers) faces g f (neighbour s c f)) (cube ∙ e)))
      go false e cube =
          ap (λ (b : Bool). cond b (set_of (λ f. plain_shown full (outer_set faces) g f (neighbour s c f))) 0) e
          ∙ set_of_cong (λ f. false) (drawn (world_of s kinds covers) faces g c)
          (λ f l. sym (ap (λ (b : Bool). b && shown (world_of s kinds covers) faces g f (neighbour s c f)) (cube ∙ e)))

-- ---- no odd types, no odd codes

-- ---- types, one by one

-- the first n of a block lie at x and on
pub record Stored (old : List ℕ) (x : ℕ) (block sets : List ℕ) (n : ℕ) : Type 0 where
  pub long : length sets ≡ length old
  pub kept : (k : ℕ) → k < x → get_or sets k 0 ≡ get_or old k 0
  pub here : (i : ℕ) → i < n → get_or sets (x + i) 0 ≡ get_or block i 0

pub stored : (old : List ℕ) (x : ℕ) (block : List ℕ) → Stored old x block old 0
stored old x block = record { long = refl; kept = λ k h. refl; here = λ i h. absurd (omega arith) }

pub store : {old : List ℕ} {x : ℕ} {block sets : List ℕ} {n : ℕ} (v : ℕ) → Stored old x block sets n → x + n < length sets → v ≡ get_or block n 0
    → Stored old x block (set sets (x + n) v) (n + 1)
store {old} {x} {block} {sets} {n} v p h e = record {
  long = length-set sets (x + n) v ∙ p.long;
  kept = λ k l. get_or-set_other sets (x + n) k v 0 (λ q. omega arith) ∙ p.kept k l;
  here = below_more (λ i. get_or (set sets (x + n) v) (x + i) 0 ≡ get_or block i 0) n
      (λ i l. get_or-set_other sets (x + n) (x + i) v 0 (λ q. omega arith) ∙ p.here i l) (get_or-set_same sets (x + n) v 0 h ∙ e);
}

-- a block stored at a place that was reached
pub fill : (rule : ℕ → ℕ) (block : List ℕ) {old sets new : List ℕ} {x start : ℕ} → Passed rule old sets x → start ≤ x
    → (length new ≡ length sets) × ((k : ℕ) → k < start → get_or new k 0 ≡ get_or sets k 0) × ((i : ℕ) → i < 16 → get_or new (start + i) 0 ≡ get_or block i 0)
    → ((i : ℕ) → i < 16 → get_or block i 0 ≡ rule (start + i)) → Passed rule old new (start + 16)
fill rule block {old} {sets} {new} {x} {start} p h s b = record { long = s.0 ∙ p.long; right = λ k l. go k l (ltb k start) refl }
  where
    go : (k : ℕ) → k < start + 16 → (t : Bool) → ltb k start ≡ t → get_or new k 0 ≡ rule k
    go k l true t = let m : k < start = ltb-true k start t in s.1 k m ∙ p.right k (omega arith)
    go k l false t =
        let m : start ≤ k = ltb-false k start t in
        let i : k - start < 16 = omega arith in
        let e : start + (k - start) ≡ k = omega arith in
        ap (λ (n : ℕ). get_or new n 0) (sym e) ∙ s.2 (k - start) i ∙ b (k - start) i ∙ ap rule e

-- LAW: a row of plain codes is drawn as the rule says
pub row_is_drawn : (s : Size) (rows : Around) (clear full outer : ℕ) (g kinds covers : List ℕ) → RowsOf s rows → Whole s g (length covers) → length covers ≡ length kinds
    → Plainly kinds covers clear full
    → ((x : ℕ) → x < s.w → Plain clear full (get_or g (rows.at + x) 0)
    × ((f n : ℕ) → f < 6 → neighbour s (rows.at + x) f ≡ some n → Plain clear full (get_or g n 0)))
    → (faces : List ℕ) → outer ≡ outer_set faces → (x : ℕ) → x < s.w
    → plain_at s full outer g (rows.at + x) ≡ set_of (drawn (world_of s kinds covers) faces g (rows.at + x))
row_is_drawn s rows clear full outer g kinds covers r w both known plain faces e x h =
    let c : rows.at + x < cells s = omega (arith, r.fits) in
    ap (λ (o : ℕ). plain_at s full o g (rows.at + x)) e
    ∙ plain_is_drawn s kinds covers clear full known g (λ k l. omega (arith, w.typed k l, both)) faces (rows.at + x)
    (omega (arith, w.whole)) (plain x h).0
    (λ f n l q. (omega (arith, w.whole, (beside s w.within.sides.wide w.within.sides.long (rows.at + x) c f n q).inside), (plain x h).1 f n l q))
