-- How quads lie in the lists: what is read back is what was laid. Assumes nothing.
use mathlib.Core.Path.{◌≡◌, refl, sym, ap, ◌∙◌}
use mathlib.Core.Logic.{◌≢◌}
use mathlib.Core.Bool.{Bool, true, false, not}
use mathlib.Core.List.{List, [], ◌∷◌, ◌++◌, append_assoc}
use Prim.Native.Nat.{ℕ, zero, suc, ◌+◌, ◌-◌, ◌*◌, ◌/◌, ◌%◌, ◌≤◌, ◌<◌}
use native.Mathlib.Omega.{arith}
use lib.Dec.{eqb}
use lib.ListN.{length, get_or, drop, replicate, length-append, length-drop, length-replicate, get_or-append}
use lib.Seq.{get_or-take, get_or-drop, take_at, drop-append-add}
use borrow.Author.Tests.{eq-eqb, ne_eqb, eqb-true}
use Rattle.rules.specs.Lists.{only, table, row, is_nil}
use Rattle.rules.specs.Cells.{UNIT, cell_in, code_in, key_in, link_of}
use Rattle.rules.specs.Cube.{floats_of}
use Rattle.rules.specs.Mesh.{Quad, at, there, place_of, Attribute, HasList, quad_in, Lists, NONE, pattern, rows, laid, slot_of, slotted, row_of, attribute_laid, layout, decoded, decode}
use Rattle.rules.specs.Update.{blank}
use Rattle.rules.specs.Answers.{slot_at}
use Rattle.rules.proofs.ListLaws.{All, all_at, length-table, get_d_table, table_is}
use Rattle.rules.proofs.Attributes.{length_attribute, inside_of, of_each, quad_of_attributes}
use Rattle.rules.proofs.Quads.{Once, placed, absent, lone}

-- ---- link words
pub key_of_link : (k : ℕ) → k < 3221225472 → key_in (link_of k) ≡ k
key_of_link k h =
    let a : link_of k % UNIT ≡ k / 6 = omega arith in
    let b : link_of k / UNIT ≡ 5 - k % 6 = omega arith in
    rw (a, b) (omega arith)

pub link_of_key : (v : ℕ) → code_in v ≤ 5 → link_of (key_in v) ≡ v
link_of_key v h =
    let a : key_in v / 6 ≡ v % UNIT = omega arith in
    let b : key_in v % 6 ≡ 5 - v / UNIT = omega arith in
    rw (a, b) (omega arith)

pub link_inside : (k c : ℕ) → k < 3221225472 → k < 6 * c → (code_in (link_of k) ≤ 5) × (cell_in (link_of k) < c)
link_inside k c h l = let a : link_of k % UNIT ≡ k / 6 = omega arith in (omega arith, rw a (omega arith))

-- ---- rows

-- each row of a mesh has s words
abbrev pub Sized : ℕ → (ℕ → Quad → List ℕ) → List Quad → Type 0
Sized s enc m = All (λ x. (i : ℕ) → length (enc i x) ≡ s) m

pub length-rows : (s : ℕ) (enc : ℕ → Quad → List ℕ) (i : ℕ) (m : List Quad) → Sized s enc m → length (rows enc i m) ≡ s * length m
length-rows s enc i [] h = omega arith
length-rows s enc i (x ∷ m) h =
    length-append (enc i x) (rows enc (suc i) m) ∙ omega (arith, h.0 i, length-rows s enc (suc i) m h.1)

pub row_of_rows : (s : ℕ) (enc : ℕ → Quad → List ℕ) (i : ℕ) (m : List Quad) (rest : List ℕ) (q : ℕ) → Sized s enc m → q < length m
    → row s (rows enc i m ++ rest) q ≡ enc (i + q) (get_or m q blank)
row_of_rows s enc i [] rest q h l = absurd (omega arith)
row_of_rows s enc i (x ∷ m) rest zero h l =
    let z : s * 0 ≡ 0 = omega arith in
    let j : i + 0 ≡ i = omega arith in
    rw (z, j, append_assoc (enc i x) (rows enc (suc i) m) rest) (take_at (enc i x) (rows enc (suc i) m ++ rest) s (h.0 i))
row_of_rows s enc i (x ∷ m) rest (suc q) h l =
    let z : s * suc q ≡ length (enc i x) + s * q = omega (arith, h.0 i) in
    let j : i + suc q ≡ suc i + q = omega arith in
    rw (z, j, append_assoc (enc i x) (rows enc (suc i) m) rest, drop-append-add (enc i x) (rows enc (suc i) m ++ rest) (s * q))
    (row_of_rows s enc (suc i) m rest q h.1 (omega arith))

-- a list of s words a quad, laid out
module _ (s : ℕ) (enc : ℕ → Quad → List ℕ) (highest : ℕ) (m : List Quad) (old : List ℕ) (sized : Sized s enc m) where
  pub row_laid : (q : ℕ) → q < length m → row s (laid s enc highest m old) q ≡ enc q (get_or m q blank)
  unfolding laid
  row_laid q h =
      row_of_rows s enc 0 m (replicate (s * (highest - length m)) 0 ++ drop (s * highest) old) q sized h
      ∙ ap (λ (i : ℕ). enc i (get_or m q blank)) (omega arith)

  pub length-laid : length m ≤ highest → s * highest ≤ length old → length (laid s enc highest m old) ≡ length old
  unfolding laid
  length-laid a b =
      let r = length-rows s enc 0 m sized in
      let z : length {A = ℕ} (replicate (s * (highest - length m)) 0) ≡ s * (highest - length m) = length-replicate (s * (highest - length m)) 0 in
      let p : length m + (highest - length m) ≡ highest = omega arith in
      let e : s * length m + s * (highest - length m) ≡ s * highest = omega (arith, ap (λ (k : ℕ). s * k) p) in
      simp (length-append, length-drop, z, r) (omega arith)

-- a word of a list of rows
pub row_at : (s : ℕ) (xs : List ℕ) (q k : ℕ) → k < s → get_or (row s xs q) k 0 ≡ get_or xs (s * q + k) 0
row_at s xs q k h = get_or-take s (drop (s * q) xs) k 0 h ∙ get_or-drop (s * q) xs k 0

pub row_one : (xs : List ℕ) (q : ℕ) → get_or xs q 0 ≡ get_or (row 1 xs q) 0 0
row_one xs q = let e : q ≡ 1 * q + 0 = omega arith in ap (λ (j : ℕ). get_or xs j 0) e ∙ sym (row_at 1 xs q 0 (omega arith))

-- ---- the lists

-- a quad of a mesh of n faces and s words a quad
abbrev pub Fits : ℕ → ℕ → Quad → Type 0
Fits n s q = (q.key < n) × (length q.words ≡ s)

abbrev pub key_at : List Quad → ℕ → ℕ
key_at m q = (get_or m q blank).key

fixed_sized : (s : ℕ) (enc : ℕ → Quad → List ℕ) → ((i : ℕ) (x : Quad) → length (enc i x) ≡ s) → (m : List Quad) → Sized s enc m
fixed_sized s enc h [] = tt
fixed_sized s enc h (x ∷ m) = (λ i. h i x, fixed_sized s enc h m)

-- the links
module _ (n s highest : ℕ) (m : List Quad) (old : List ℕ) (fits : All (Fits n s) m) where
  abbrev pub links_laid : List ℕ
  links_laid = laid 1 (λ q x. link_of x.key ∷ []) highest m old

  one_word : Sized 1 (λ q x. link_of x.key ∷ []) m
  one_word = fixed_sized 1 (λ q x. link_of x.key ∷ []) (λ i x. refl) m

  pub links_at : (q : ℕ) → q < length m → get_or links_laid q 0 ≡ link_of (key_at m q)
  links_at q h = row_one links_laid q ∙ ap (λ (r : List ℕ). get_or r 0 0) (row_laid 1 (λ q x. link_of x.key ∷ []) highest m old one_word q h)

  pub keys_at : n ≤ 3221225472 → (q : ℕ) → q < length m → key_in (get_or links_laid q 0) ≡ key_at m q
  keys_at hn q h = let f = (all_at (Fits n s) m q blank fits h).0 in ap key_in (links_at q h) ∙ key_of_link (key_at m q) (omega arith)

  pub length-links : length m ≤ highest → highest ≤ length old → length links_laid ≡ length old
  length-links low h = length-laid 1 (λ q x. link_of x.key ∷ []) highest m old one_word low (omega arith)

-- each attribute's row has its four vertices' floats
pub rows_sized : (tint : Bool) (a : Attribute) → a.start + a.width ≤ floats_of tint → (n : ℕ) (m : List Quad) → All (Fits n (4 * floats_of tint)) m
    → Sized (4 * a.width) (λ q x. row_of tint a x) m
rows_sized tint a inside n [] h = tt
rows_sized tint a inside n (x ∷ m) h =
    (λ i. length_attribute (floats_of tint) a inside 4 x.words (omega (arith, h.0.1)) ∙ omega arith, rows_sized tint a inside n m h.1)

module _ (n : ℕ) (tint : Bool) (highest : ℕ) (hn : n ≤ 3221225472) (m : List Quad) (B : Lists) (fits : All (Fits n (4 * floats_of tint)) m) where
  abbrev after : Lists
  after = layout n tint highest m B

  -- an attribute's list has the attribute of each quad at its place
  pub attribute_at : (a : Attribute) (xs : List ℕ) → HasList tint B.vertices a xs → (q : ℕ) → q < length m
      → row (4 * a.width) (attribute_laid tint highest m a xs) q ≡ row_of tint a (get_or m q blank)
  attribute_at a xs l = row_laid (4 * a.width) (λ q x. row_of tint a x) highest m xs (rows_sized tint a (inside_of tint B.vertices a xs l) n m fits)

  pub vertices_at : (q : ℕ) → q < length m → quad_in tint after.vertices q ≡ (get_or m q blank).words
  vertices_at q h =
      quad_of_attributes tint after.vertices q (get_or m q blank).words (all_at (Fits n (4 * floats_of tint)) m q blank fits h).1
      (λ a ys l. let x = of_each tint B.vertices (attribute_laid tint highest m) a ys l in
      ap (λ (r : List ℕ). row (4 * a.width) r q) x.2 ∙ attribute_at a x.0 x.1 q h)

  pub triangles_at : (q : ℕ) → q < length m → row 6 after.triangles q ≡ pattern q
  triangles_at = row_laid 6 (λ q x. pattern q) highest m B.triangles (fixed_sized 6 (λ q x. pattern q) (λ i x. refl) m)

  -- LAW: what is laid out decodes to itself
  pub decode_layout : decode tint (length m) after ≡ m
  decode_layout =
      table_is (decoded tint after) (length m) m blank refl
      (λ q h. let k = sym (keys_at n (4 * floats_of tint) highest m B.links fits hn q h) in let w = sym (vertices_at q h) in λ i. record { key = k i; words = w i })

  module _ (low : length m ≤ highest) where
    pub length_attributes : (a : Attribute) (xs : List ℕ) → HasList tint B.vertices a xs → 4 * a.width * highest ≤ length xs
        → length (attribute_laid tint highest m a xs) ≡ length xs
    length_attributes a xs l =
        length-laid (4 * a.width) (λ q x. row_of tint a x) highest m xs (rows_sized tint a (inside_of tint B.vertices a xs l) n m fits) low

    pub length-triangles : 6 * highest ≤ length B.triangles → length after.triangles ≡ length B.triangles
    length-triangles = length-laid 6 (λ q x. pattern q) highest m B.triangles (fixed_sized 6 (λ q x. pattern q) (λ i x. refl) m) low

  module _ (room : n ≤ length B.slots) where
    pub length-slots : length after.slots ≡ length B.slots
    unfolding slotted
    length-slots =
        let t : length (table n (slot_of m)) ≡ n = length-table (slot_of m) n in
        length-append (table n (slot_of m)) (drop n B.slots) ∙ rw (t, length-drop n B.slots) (omega arith)

    pub slots_at : (k : ℕ) → k < n → slot_at after k ≡ slot_of m k
    unfolding slotted
    slots_at k h =
        let t : length (table n (slot_of m)) ≡ n = length-table (slot_of m) n in
        get_or-append (table n (slot_of m)) (drop n B.slots) NONE k (omega arith) ∙ get_d_table (slot_of m) n k NONE h

-- ---- places

-- a quad's face is there
pub one_le : (m : List Quad) (q k : ℕ) → q < length m → key_at m q ≡ k → 1 ≤ length (at k m)
one_le [] q k h e = absurd (omega arith)
one_le (x ∷ m) zero k h e = rw (eq-eqb k x.key (sym e)) (omega arith)
one_le (x ∷ m) (suc q) k h e = rw (length-append (only (eqb k x.key) x.words) (at k m)) (omega (arith, one_le m q k (omega arith) e))

pub is_there_lem : (m : List Quad) (q k : ℕ) → q < length m → key_at m q ≡ k → there k m ≡ true
is_there_lem m q k h e = go (at k m) (one_le m q k h e)
  where
    go : (x : List (List ℕ)) → 1 ≤ length x → not (is_nil x) ≡ true
    go [] l = absurd (omega arith)
    go (y ∷ x) l = refl

two_le : (m : List Quad) (p q k : ℕ) → p < q → q < length m → key_at m p ≡ k → key_at m q ≡ k → 2 ≤ length (at k m)
two_le [] p q k l h a b = absurd (omega arith)
two_le (x ∷ m) zero zero k l h a b = absurd (omega arith)
two_le (x ∷ m) zero (suc q) k l h a b = rw (eq-eqb k x.key (sym a)) (omega (arith, one_le m q k (omega arith) b))
two_le (x ∷ m) (suc p) zero k l h a b = absurd (omega arith)
two_le (x ∷ m) (suc p) (suc q) k l h a b =
    rw (length-append (only (eqb k x.key) x.words) (at k m)) (omega (arith, two_le m p q k (omega arith) (omega arith) a b))

abbrev pub Distinct : List Quad → Type 0
Distinct m = (p q : ℕ) → p < q → q < length m → key_at m p ≢ key_at m q

pub distinct_of_once : (m : List Quad) → Once m → Distinct m
distinct_of_once m h p q l hq e = let a = two_le m p q (key_at m q) l hq e refl in let b = h (key_at m q) in omega arith

pub once_of_distinct : (m : List Quad) → Distinct m → Once m
once_of_distinct [] d k = omega arith
once_of_distinct (x ∷ m) d k = go (eqb k x.key) refl (there k m) refl (once_of_distinct m (λ p q l h. d (suc p) (suc q) (omega arith) (omega arith)) k)
  where
    go : (b : Bool) → eqb k x.key ≡ b → (t : Bool) → there k m ≡ t → length (at k m) ≤ 1 → length (only b x.words ++ at k m) ≤ 1
    go false e t n r = r
    go true e false n r = rw (absent k m n) (omega arith)
    go true e true n r =
        let p = placed k m n in let w = p.within in
        absurd (d 0 (suc (place_of k m)) (omega arith) (omega arith) (sym (eqb-true k x.key e) ∙ sym p.key))

-- the place of a quad's face is the quad's
pub place_is : (m : List Quad) (q : ℕ) → Distinct m → q < length m → place_of (key_at m q) m ≡ q
place_is [] q d h = absurd (omega arith)
place_is (x ∷ m) zero d h = rw (eq-eqb x.key x.key refl)
place_is (x ∷ m) (suc q) d h =
    rw (ne_eqb (key_at m q) x.key (λ e. d 0 (suc q) (omega arith) (omega arith) (sym e)))
    (ap suc (place_is m q (λ a b l r. d (suc a) (suc b) (omega arith) (omega arith)) (omega arith)))

-- what a face has, where a quad of it stands
pub at_there : (m : List Quad) (q : ℕ) → Once m → q < length m → at (key_at m q) m ≡ (get_or m q blank).words ∷ []
at_there [] q o h = absurd (omega arith)
at_there (x ∷ m) zero o h =
    let e : at x.key (x ∷ m) ≡ x.words ∷ at x.key m = rw (eq-eqb x.key x.key refl) in
    let l = lone [] (at x.key m) x.words (rw e at (o x.key)) in e ∙ rw l.1
at_there (x ∷ m) (suc q) o h =
    let d = distinct_of_once (x ∷ m) o in
    let n = ne_eqb (key_at m q) x.key (λ e. d 0 (suc q) (omega arith) (omega arith) (sym e)) in
    rw n (at_there m q (once_of_distinct m (λ a b l r. d (suc a) (suc b) (omega arith) (omega arith))) (omega arith))
