-- WRONG_VERTEX, word by word. Assumes nothing.
use mathlib.Core.Path.{◌≡◌, sym, ap, subst, ◌∙◌}
use mathlib.Core.Bool.{Bool, true, false, cond, not, ◌||◌, true≢false}
use mathlib.Core.List.{List}
use Prim.Native.Nat.{ℕ, zero, suc, ◌+◌, ◌-◌, ◌*◌, ◌≤◌, ◌<◌}
use native.Mathlib.Nat.{mul-suc}
use native.Mathlib.Numerals.{add-one}
use native.Mathlib.Decide.{ℕ_discrete}
use native.Mathlib.Omega.{arith}
use lib.Dec.{T}
use lib.ListN.{length, get_or, take, drop}
use lib.Seq.{ext_get_or}
use Rattle.rules.specs.Lists.{part, row, lowest, same}
use Rattle.rules.specs.Cells.{Triple, coordinates, code, code_in, cell_in}
use Rattle.rules.specs.Floats.{finite3}
use Rattle.rules.specs.Types.{floats, cube_of, quad_words}
use Rattle.rules.specs.Mesh.{Attribute, position, normal, uv, colour, type_at, Vertices, HasList, of_positions, of_normals, of_uvs, of_colours}
use Rattle.rules.proofs.ListLaws.{split, both_ways, or_false, lowest_bad, same_true, same_refl, within}
use Rattle.rules.proofs.Searches.{Searched, searched, passed}
use Rattle.rules.proofs.Neighbours.{inside_of}
use Rattle.voxel_mesh.proofs.Shapes.{few, row_within}
use Rattle.rules.proofs.Attributes.{length_part}
use Rattle.rules.proofs.Rows.{length_lent}
use Rattle.rules.specs.Calls.{Scene}
use Rattle.quads.specs.Quads.{corners_of, Corners}
use Rattle.quads.proofs.Writing.{quad_of_corners, corners_end, corners_lent, drawable_corners}
use Rattle.comparing.specs.Quads.{Linking, quad_words_at, other_row, other_quad, IsQuad}

-- ---- two lists that agree up to a place

abbrev pub Agreed : List ℕ → List ℕ → ℕ → Type 0
Agreed xs ys m = (k : ℕ) → k < m → get_or xs k 0 ≡ get_or ys k 0

pub agreed_same : (xs ys : List ℕ) (s : ℕ) → length xs ≡ s → length ys ≡ s → Agreed xs ys s → same xs ys ≡ true
agreed_same xs ys s a b e = rw (ext_get_or 0 xs ys (a ∙ sym b) (λ k h. e k (omega arith))) (same_refl ys)

pub agreed_not : (xs ys : List ℕ) (k : ℕ) → (get_or xs k 0 ≡ get_or ys k 0 → ⊥) → same xs ys ≡ false
agreed_not xs ys k d = both_ways (same xs ys) (λ e. d (ap (λ (l : List ℕ). get_or l k 0) (same_true xs ys e)))

-- ---- a search past those that are known not to differ
module _ (n : ℕ) (bad : ℕ → Bool) where
  pub searched_from : (s : ℕ) → s ≤ n → ((k : ℕ) → k < s → bad k ≡ false) → Searched n bad s
  searched_from zero l good = searched n bad
  searched_from (suc s) l good = rw (← add-one) (passed n bad s (omega arith) (searched_from s (omega arith) (λ k h. good k (omega arith))) (good s (omega arith)))

  pub lowest_past : (s : ℕ) → s ≤ n → ((k : ℕ) → k < s → bad k ≡ false) → s ≤ lowest n bad
  lowest_past zero l good = omega arith
  lowest_past (suc s) l good = go (ℕ_discrete s (lowest n bad)) (lowest_past s (omega arith) (λ k h. good k (omega arith)))
    where
      go : Dec (s ≡ lowest n bad) → s ≤ lowest n bad → suc s ≤ lowest n bad
      go (yes e) h = absurd (true≢false (sym (lowest_bad n bad (omega arith)) ∙ ap bad (sym e) ∙ good s (omega arith)))
      go (no d) h = omega arith

-- a part that is lent
pub lent_is : (a n : ℕ) (xs : List ℕ) → take (a + n - a) (drop a xs) ≡ part a n xs
lent_is a n xs = let e : a + n - a ≡ n = omega arith in rw e

pub row_next : (n v : ℕ) → n * (v + 1) ≡ n * v + n
row_next n v = rw add-one (mul-suc n v)

-- ---- the quad that a link names

module _ (S : Scene) (g : List ℕ) (link : ℕ) where
  -- what was read of it: the number of its face, and the coordinates
  pub record Named (m : ℕ) (a : Triple) : Type 0 where
    pub face : m ≡ 6 * type_at g (cell_in link) + code (code_in link)
    pub at : a ≡ coordinates S.size (cell_in link)

  -- the part of the registry that is lent for a face, n floats a vertex
  abbrev pub corners_at : ℕ → ℕ → List ℕ
  corners_at n m = take (4 * n * m + 4 * n - 4 * n * m) (drop (4 * n * m) S.types.cubes)

  pub side_below : code (code_in link) < 6
  side_below = omega arith

  pub named_corners : {m : ℕ} {a : Triple} → Named m a → corners_at (floats S.types) m ≡ corners_of (cube_of S.types (type_at g (cell_in link))) (floats S.types) (code (code_in link))
  named_corners r = ap (corners_at (floats S.types)) r.face ∙ corners_lent S.types.cubes (floats S.types) (type_at g (cell_in link)) (code (code_in link)) side_below

  pub named_words : {n m : ℕ} {a : Triple} → n ≡ floats S.types → Named m a → quad_words (corners_at n m) n S.d 0 a ≡ quad_words_at S g link
  named_words {m = m} {a = a} e r =
      ap (λ (k : ℕ). quad_words (corners_at k m) k S.d 0 a) e
      ∙ (λ i. quad_words (named_corners r i) (floats S.types) S.d 0 (r.at i))
      ∙ quad_of_corners (cube_of S.types (type_at g (cell_in link))) (floats S.types) S.d (code (code_in link)) (coordinates S.size (cell_in link))

module _ (S : Scene) (g links : List ℕ) (count : ℕ) (ok : Linking S g links count) (q : ℕ) (h : q < count) where
  abbrev link : ℕ
  link = get_or links q 0

  cube_within : 24 * floats S.types * type_at g (cell_in link) + 24 * floats S.types ≤ length S.types.cubes
  cube_within =
      let c : cell_in link < length g = omega (arith, ok.inside q h, ok.whole) in
      rw (within g (cell_in link) 255 0 c) (ok.stretch (cell_in link) c)

  pub corners_within : {n m : ℕ} {a : Triple} → n ≡ floats S.types → Named S g link m a → 4 * n * m + 4 * n ≤ length S.types.cubes
  corners_within e r = rw (e, r.face) (corners_end S.types.cubes (floats S.types) (type_at g (cell_in link)) (code (code_in link)) (side_below S g link) cube_within)

  pub drawable : T (finite3 S.d) → {n m : ℕ} {a : Triple} → n ≡ floats S.types → Named S g link m a → Corners (corners_at S g link n m) n a S.d
  drawable fin e r =
      let few = few S.types.coloured in
      let sides = ok.within.sides in
      let i = inside_of S.size (cell_in link) sides.wide sides.long (ok.inside q h) in
      let all = length_part (24 * floats S.types * type_at g (cell_in link)) (24 * floats S.types) S.types.cubes cube_within in
      rw (e, named_corners S g link r, r.at) (drawable_corners (code (code_in link)) (side_below S g link) (record {
        words = record { least = few.0; most = few.1; whole = omega arith };
        placed = ok.placed q h;
        finite = fin;
        x = omega (arith, i.x, sides.widest);
        y = omega (arith, i.y, sides.highest);
        z = omega (arith, i.z, sides.longest);
      }))

-- row q of a list of s words a quad
pub row_inside : (s q count : ℕ) (list : List ℕ) → q < count → s * count ≤ length list → s * q + s ≤ length list
row_inside s q count list h room = omega (arith, row_within s q count h)

pub length_row_in : (s q count : ℕ) (list : List ℕ) → q < count → s * count ≤ length list → length (row s list q) ≡ s
length_row_in s q count list h room = (rw (lent_is (s * q) s list) at (length_lent (s * q) s list (row_inside s q count list h room)))

-- ---- the lists of the attributes
pub each_list_lem : (coloured : Bool) (vs : Vertices) (P : Attribute → List ℕ → Type 0) → P position vs.positions → P normal vs.normals → P uv vs.uvs → (coloured ≡ true → P colour vs.colours)
    → (a : Attribute) (xs : List ℕ) → HasList coloured vs a xs → P a xs
each_list_lem coloured vs P p n u c a xs of_positions = p
each_list_lem coloured vs P p n u c a xs of_normals = n
each_list_lem coloured vs P p n u c a xs of_uvs = u
each_list_lem coloured vs P p n u c a xs (of_colours e) = c e

-- a quad differs where any of its rows does
module _ (S : Scene) (g : List ℕ) (vs : Vertices) (links : List ℕ) (q : ℕ) where
  abbrev other : Attribute → List ℕ → Bool
  other a xs = other_row S a g xs links q

  abbrev others : Bool
  others = other position vs.positions || other normal vs.normals || other uv vs.uvs

  pub right_quad : IsQuad S.types.coloured vs q (quad_words_at S g (get_or links q 0)) → other_quad S g vs links q ≡ false
  right_quad is =
      let p = ap not (is position vs.positions of_positions) in
      let n = ap not (is normal vs.normals of_normals) in
      let u = ap not (is uv vs.uvs of_uvs) in
      split (λ b. cond b (others || other colour vs.colours) others ≡ false) S.types.coloured
      (λ e. let c = ap not (is colour vs.colours (of_colours e)) in λ i. p i || n i || u i || c i)
      (λ e i. p i || n i || u i)

  right_plain : other_quad S g vs links q ≡ false → others ≡ false
  right_plain = split (λ b. cond b (others || other colour vs.colours) others ≡ false → others ≡ false) S.types.coloured
      (λ _ e. (or_false others (other colour vs.colours) e).0) (λ _ e. e)

  pub right_rows : other_quad S g vs links q ≡ false → (a : Attribute) (xs : List ℕ) → HasList S.types.coloured vs a xs → other a xs ≡ false
  right_rows e =
      let three = or_false _ _ (right_plain e) in
      let two = or_false _ _ three.0 in
      each_list_lem S.types.coloured vs (λ a xs. other a xs ≡ false) two.0 two.1 three.1
      (λ t. (or_false others (other colour vs.colours) (subst (λ b. cond b (others || other colour vs.colours) others ≡ false) t e)).1)
