-- Laws of a face's corners, of what moves a position, and of the words of an attribute of a quad. Assumes nothing.
use mathlib.Core.Path.{◌≡◌, sym, ap, subst, ◌∙◌}
use mathlib.Core.Bool.{Bool, true, false, cond, ◌&&◌}
use mathlib.Core.List.{List, [], ◌∷◌, ◌++◌}
use Prim.Native.Nat.{ℕ, zero, suc, ◌+◌, ◌-◌, ◌*◌, ◌/◌, ◌%◌, ◌≤◌, ◌<◌}
use native.Mathlib.Nat.{mul-le-mul_left, zero-add}
use native.Mathlib.Omega.{arith}
use lib.Dec.{T, eqb, ltb}
use lib.ListN.{length, get_or, take, drop}
use lib.Seq.{take_at, drop_at}
use lib.Ieee.Fits.{and_l, and_r}
use borrow.Author.Tests.{le-ltb}
use Rattle.rules.specs.Lists.{each, table, part}
use Rattle.rules.specs.Cells.{Triple, along}
use Rattle.rules.specs.Floats.{finite}
use Rattle.rules.specs.Types.{moved_word, order, quad_word, quad_words}
use Rattle.rules.specs.Mesh.{normal, attribute_in}
use Rattle.rules.specs.Mesh as rules
use Rattle.rules.proofs.ListLaws.{length-row, get_d_row, length-table, length-each, each_same, each_split}
use Rattle.rules.proofs.Rows.{get_d_each}
use Rattle.rules.proofs.Attributes.{length_part, part_part, length_attribute, attribute_each}
use Rattle.vav.specs.declared.Attribute.{Attribute}
use Rattle.vav.specs.declared.Attribute.TheVariants.{Position, Normal, Uv, Colour}
use Rattle.vav.specs.Attributes.{attribute_of}
use Rattle.vav.proofs.Laws.{part_at, part_lent}
use Rattle.quads.specs.Quads.{corners_of, Has, FourVertices, Corners, Drawable}

-- ---- corners

pub order_below : (i : ℕ) → i < 4 → get_or order i 0 < 4
unfolding order
order_below zero h = omega arith
order_below (suc zero) h = omega arith
order_below (suc (suc zero)) h = omega arith
order_below (suc (suc (suc zero))) h = omega arith
order_below (suc (suc (suc (suc i)))) h = absurd (omega arith)

-- corner v, of n words, lies within them
pub corner_within : (n v : ℕ) → v < 4 → n * v + n ≤ 4 * n
corner_within n v h = omega (arith, mul-le-mul_left n h)

-- a word of a face's corners is a word of its cube
corner_word : (cube : List ℕ) (n f v k : ℕ) → v < 4 → k < n → get_or (corners_of cube n f) (n * v + k) 0 ≡ get_or cube (n * (4 * f + v) + k) 0
corner_word cube n f v k low K =
    let e : 4 * n * f + (n * v + k) ≡ n * (4 * f + v) + k = omega arith in
    part_at (4 * n * f) (4 * n) cube (n * v + k) (omega (arith, corner_within n v low)) ∙ ap (λ (j : ℕ). get_or cube j 0) e

-- LAW: the quad of a face is drawn from the face's corners alone
pub quad_of_corners : (cube : List ℕ) (n : ℕ) (d : Triple) (f : ℕ) (a : Triple) → quad_words (corners_of cube n f) n d 0 a ≡ quad_words cube n d f a
unfolding quad_words quad_word
quad_of_corners cube n d f a =
    each_same 4 0 (λ i. table n (quad_word (corners_of cube n f) n d 0 a i)) (λ i. table n (quad_word cube n d f a i))
    (λ i _ I. each_same n 0 (λ k. quad_word (corners_of cube n f) n d 0 a i k ∷ []) (λ k. quad_word cube n d f a i k ∷ [])
    (λ k _ K. let z : 4 * 0 + get_or order i 0 ≡ get_or order i 0 = omega arith in
    ap (λ (w : ℕ). cond (ltb k 3) (moved_word w (along a k) (along d k)) w ∷ [])
    (ap (λ (v : ℕ). get_or (corners_of cube n f) (n * v + k) 0) z ∙ corner_word cube n f (get_or order i 0) k (order_below i (omega arith)) (omega arith))))

-- ---- face f of type t, by its number among the faces of all types
module _ (cubes : List ℕ) (n t f : ℕ) (below : f < 6) where
  -- its corners end within the registry
  pub corners_end : 24 * n * t + 24 * n ≤ length cubes → 4 * n * (6 * t + f) + 4 * n ≤ length cubes
  corners_end h = let m : 4 * n * (f + 1) ≤ 4 * n * 6 = mul-le-mul_left (4 * n) (omega arith) in omega arith

  -- and are what is lent of it
  pub corners_lent : take (4 * n * (6 * t + f) + 4 * n - 4 * n * (6 * t + f)) (drop (4 * n * (6 * t + f)) cubes) ≡ corners_of (part (24 * n * t) (24 * n) cubes) n f
  corners_lent =
      let e : 24 * n * t + 4 * n * f ≡ 4 * n * (6 * t + f) = omega arith in
      let m : 4 * n * (f + 1) ≤ 4 * n * 6 = mul-le-mul_left (4 * n) (omega arith) in
      part_lent (4 * n * (6 * t + f)) (4 * n) cubes ∙ sym (part_part (24 * n * t) (24 * n) (4 * n * f) (4 * n) cubes (omega arith) ∙ ap (λ (j : ℕ). part j (4 * n) cubes) e)

pub drawable_corners : {cube : List ℕ} {n : ℕ} {a d : Triple} (f : ℕ) → f < 6 → Drawable cube n a d → Corners (corners_of cube n f) n a d
drawable_corners {cube} {n} f h d =
    let m : 4 * n * (f + 1) ≤ 4 * n * 6 = mul-le-mul_left (4 * n) (omega arith) in
    let l = length_part (4 * n * f) (4 * n) cube (omega (arith, d.words.whole)) in
    record {
      words = record { least = d.words.least; most = d.words.most; whole = omega arith };
      placed = λ i axis I A. subst (λ (w : ℕ). T (finite w)) (sym (corner_word cube n f i axis I (omega (arith, d.words.least)))) (d.placed (4 * f + i) axis (omega arith) A);
      finite = d.finite;
      x = d.x;
      y = d.y;
      z = d.z;
    }

-- ---- what moves a position

along_of : (P : ℕ → Type 0) (v : Triple) (k : ℕ) → P v.x → P v.y → P v.z → P (along v k)
along_of P v k x y z = first (eqb k 0) (eqb k 1)
  where
    first : (a b : Bool) → P (cond a v.x (cond b v.y v.z))
    first true b = x
    first false true = y
    first false false = z

module _ {corners : List ℕ} {n : ℕ} {a d : Triple} (h : Corners corners n a d) where
  finite_x : T (finite d.x)
  finite_x = and_l (finite d.x) (finite d.y) (and_l (finite d.x && finite d.y) (finite d.z) h.finite)

  finite_y : T (finite d.y)
  finite_y = and_r (finite d.x) (finite d.y) (and_l (finite d.x && finite d.y) (finite d.z) h.finite)

  finite_z : T (finite d.z)
  finite_z = and_r (finite d.x && finite d.y) (finite d.z) h.finite

  pub finite_along : (k : ℕ) → T (finite (along d k))
  finite_along k = along_of (λ x. T (finite x)) d k finite_x finite_y finite_z

  pub low_along : (k : ℕ) → along a k ≤ 1024
  low_along k = along_of (λ x. x ≤ 1024) a k h.x h.y h.z

-- ---- the words of an attribute

-- a part of a table
part_table : (at w n : ℕ) (v : ℕ → ℕ) → at + w ≤ n → part at w (table n v) ≡ each w at (λ k. v k ∷ [])
part_table at w n v h =
    let e : n ≡ at + (w + (n - at - w)) = omega arith in
    let z : 0 + at ≡ at = omega arith in
    let p : ℕ → List ℕ = λ k. v k ∷ [] in
    ap (λ (m : ℕ). part at w (each m 0 p)) e
    ∙ ap (part at w) (each_split at (w + (n - at - w)) 0 p ∙ ap (λ (i : ℕ). each at 0 p ++ each (w + (n - at - w)) i p) z
    ∙ ap (λ (r : List ℕ). each at 0 p ++ r) (each_split w (n - at - w) at p))
    ∙ ap (take w) (drop_at (each at 0 p) (each w at p ++ each (n - at - w) (at + w) p) at (length-row v at 0))
    ∙ take_at (each w at p) (each (n - at - w) (at + w) p) w (length-row v w at)

module _ (cube : List ℕ) (n : ℕ) (d : Triple) (f : ℕ) (a : Triple) where
  pub length_quad : length (quad_words cube n d f a) ≡ 4 * n
  unfolding quad_words
  length_quad = length-each n 4 0 (λ i. table n (quad_word cube n d f a i)) (λ i. length-table (quad_word cube n d f a i) n)

  module _ (b : rules.Attribute) (has : Has n b) where
    abbrev quad_row : ℕ → List ℕ
    quad_row i = each b.width b.start (λ k. quad_word cube n d f a i k ∷ [])

    pub length_row_of : length (attribute_in n b 4 (quad_words cube n d f a)) ≡ 4 * b.width
    length_row_of = length_attribute n b has 4 (quad_words cube n d f a) (omega (arith, length_quad)) ∙ omega arith

    -- LAW: an attribute of a quad is the vertices' words of it, one vertex after the other
    attribute_words : attribute_in n b 4 (quad_words cube n d f a) ≡ each 4 0 quad_row
    unfolding quad_words
    attribute_words =
        attribute_each n b has 4 (λ i. table n (quad_word cube n d f a i)) (λ i _. length-table (quad_word cube n d f a i) n)
        ∙ each_same 4 0 (λ i. part b.start b.width (table n (quad_word cube n d f a i))) quad_row
        (λ i _ l. part_table b.start b.width n (quad_word cube n d f a i) has)

    -- its words, one by one
    pub word_at : (i k : ℕ) → i < 4 → k < b.width → get_or (attribute_in n b 4 (quad_words cube n d f a)) (b.width * i + k) 0 ≡ quad_word cube n d f a i (b.start + k)
    word_at i k I K =
        ap (λ (ws : List ℕ). get_or ws (b.width * i + k) 0) attribute_words
        ∙ get_d_each b.width quad_row (λ i. length-row (quad_word cube n d f a i) b.width b.start) 4 0 i k I K
        ∙ ap (λ (j : ℕ). get_or (quad_row j) k 0) (zero-add i) ∙ get_d_row (quad_word cube n d f a i) b.width b.start k 0 K

-- word j is a float of a vertex
pub record Split (b : rules.Attribute) (j : ℕ) : Type 0 where
  pub wide : 1 ≤ b.width
  pub vertex : j / b.width < 4
  pub float : j % b.width < b.width
  pub whole : b.width * (j / b.width) + j % b.width ≡ j

pub split_word : (b : Attribute) (j : ℕ) → j < 4 * (attribute_of b).width → Split (attribute_of b) j
split_word Position j h = record { wide = omega arith; vertex = omega arith; float = omega arith; whole = omega arith }
split_word Normal j h = record { wide = omega arith; vertex = omega arith; float = omega arith; whole = omega arith }
split_word Uv j h = record { wide = omega arith; vertex = omega arith; float = omega arith; whole = omega arith }
split_word Colour j h = record { wide = omega arith; vertex = omega arith; float = omega arith; whole = omega arith }

-- ---- a normal is the corner's words
pub normal_word : (corners : List ℕ) (n : ℕ) (d a : Triple) (i k : ℕ) → FourVertices corners n → i < 4 → k < 3
    → get_or (attribute_in n normal 4 (quad_words corners n d 0 a)) (3 * i + k) 0 ≡ get_or corners (n * get_or order i 0 + 3 + k) 0
unfolding quad_word
normal_word corners n d a i k v I K =
    let z : 4 * 0 + get_or order i 0 ≡ get_or order i 0 = omega arith in
    let e : n * get_or order i 0 + (3 + k) ≡ n * get_or order i 0 + 3 + k = omega arith in
    word_at corners n d 0 a normal (omega (arith, v.least)) i k I K
    ∙ rw (le-ltb (3 + k) 3 (omega arith), z) (ap (λ (j : ℕ). get_or corners j 0) e)
