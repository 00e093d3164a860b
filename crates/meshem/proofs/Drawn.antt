-- The rows of cells before a cell are drawn: what each list holds then, a row more, and the whole mesh. Assumes nothing.
use mathlib.Core.Path.{◌≡◌, refl, sym, ap, ◌∙◌}
use mathlib.Core.Bool.{Bool}
use mathlib.Core.List.{List, ◌∷◌, [], ◌++◌, map}
use Prim.Native.Nat.{ℕ, ◌+◌, ◌-◌, ◌*◌, ◌/◌, ◌%◌, ◌≤◌}
use native.Mathlib.Omega.{arith}
use lib.ListN.{length, take, drop, replicate, length-map}
use Rattle.rules.specs.Lists.{each}
use Rattle.rules.specs.Cells.{cells, link_of}
use Rattle.rules.specs.Types.{floats}
use Rattle.rules.specs.Mesh.{Quad, Attribute, Vertices, HasList, each_list, Lists, NONE, pattern, type_at, laid, slotted, row_of, attribute_laid, layout, lists_of}
use Rattle.rules.specs.Calls.{Scene, world, faces, fresh_mesh}
use Rattle.rules.proofs.ListLaws.{All}
use Rattle.rules.proofs.Attributes.{inside_of, each_list_lem, each_again, each_stays}
use Rattle.vav.specs.Rows.{put}
use Rattle.vav.proofs.Laws.{put_none}
use Rattle.culling.specs.Culling.{world_of, outer_set}
use Rattle.drawing.specs.Written.{rows_of, link_row, word_row, named, side_of, side_row, rows_written, Long}
use Rattle.drawing.proofs.Sides.{InRow, side_rows, row_wide}
use Rattle.drawing.proofs.Lengths.{Alike, each_alike}
use Rattle.drawing.proofs.Patterns.{length_patterns}
use Rattle.drawing.proofs.Turns.{rows_then, kept_rows, named_then, kept_named}
use Rattle.drawing.proofs.Laid.{rows_laid, places_laid, slots_named}
use Rattle.listing.specs.Fresh.{set_at, faces_of, asked, keys_of, Entered}
use Rattle.listing.proofs.Sets.{named_set}
use Rattle.listing.proofs.Rows.{asked_moved, asked_on}
use Rattle.listing.proofs.Keys.{length_keys, keys_none, keys_on, keys_all, keys_like}
use Rattle.meshem.proofs.Faces.{rising_first, quad_on, quads_of_keys, asked_fresh}
use Rattle.meshem.proofs.Turns.{set_world}

module _ (S : Scene) (g : List ℕ) (sets : ℕ → ℕ) where
  abbrev tint : Bool
  tint = S.types.coloured

  words_wide : (b : Attribute) → b.start + b.width ≤ floats S.types → (k : ℕ) → length (word_row S b g k) ≡ 4 * b.width
  words_wide b has k = row_wide S b has (type_at g (k / 6)) (k % 6) (k / 6)

  -- the cells before c are drawn in an attribute's list
  abbrev pub rows_drawn : ℕ → Attribute → List ℕ → List ℕ
  rows_drawn c b xs = put (4 * b.width * 0) (rows_of (word_row S b g) (keys_of sets 0 c)) xs

  module _ (vs₀ : Vertices) (ls₀ ss₀ : List ℕ) where
    -- the cells before c are drawn, and `base` is the next place
    pub record Drawn (c base : ℕ) (vertices : Vertices) (links slots : List ℕ) : Type 0 where
      pub count : base ≡ asked sets 0 c
      pub vertices_are : vertices ≡ each_list tint (rows_drawn c) vs₀
      pub links_are : links ≡ put (1 * 0) (rows_of link_row (keys_of sets 0 c)) ls₀
      pub slots_are : slots ≡ named 0 (keys_of sets 0 c) ss₀

    pub begun : Drawn 0 0 vs₀ ls₀ ss₀
    unfolding asked
    begun =
        let e = sym (keys_none sets 0) in
        record {
          count = refl;
          vertices_are = sym (each_stays tint vs₀) ∙ each_list_lem tint vs₀ (λ b xs. xs) (rows_drawn 0)
              (λ b xs l. put_none (4 * b.width * 0) xs ∙ ap (λ (r : List ℕ). put (4 * b.width * 0) (rows_of (word_row S b g) r) xs) e);
          links_are = put_none (1 * 0) ls₀ ∙ ap (λ (r : List ℕ). put (1 * 0) (rows_of link_row r) ls₀) e;
          slots_are = ap (λ (r : List ℕ). named 0 r ss₀) e;
        }

    -- a row more: its faces, in each list from `base` on
    pub row_more : {c base n : ℕ} (w : ℕ) {vs vs₁ : Vertices} {ls ss ts ls₁ ss₁ ts₁ keys : List ℕ} → Drawn c base vs ls ss → n ≡ asked sets c w → keys ≡ keys_of sets c w → All (InRow g c) keys
        → Entered base (side_of g c) keys ls ss ts ls₁ ss₁ ts₁ 0 n → vs₁ ≡ rows_written S c (take n ts₁) base vs → Drawn (c + w) (base + n) vs₁ ls₁ ss₁
    row_more {c} {base} {n} w {vs} {vs₁} {ls} {ss} {ts} {ls₁} {ss₁} {ts₁} {keys} d e k inside t v =
        let before = keys_of sets 0 c in
        let at : base ≡ 0 + length before = omega (arith, d.count, length_keys sets c 0) in
        let on : base + 0 ≡ base = omega arith in
        let z : 0 + c ≡ c = omega arith in
        let all : before ++ keys ≡ keys_of sets 0 (c + w) =
        ap (λ (r : List ℕ). before ++ r) k ∙ ap (λ (i : ℕ). before ++ keys_of sets i w) (sym z) ∙ sym (keys_on sets c w 0) in
        record {
          count = omega (arith, d.count, e, asked_on sets c w);
          vertices_are = v ∙ ap (rows_written S c (take n ts₁) base) d.vertices_are
              ∙ each_again tint vs₀ (λ b xs. put (4 * b.width * base) (rows_of (side_row S b c) (take n ts₁)) xs) (rows_drawn c)
              ∙ each_list_lem tint vs₀ (λ b xs. put (4 * b.width * base) (rows_of (side_row S b c) (take n ts₁)) (rows_drawn c b xs)) (rows_drawn (c + w))
              (λ b xs l. ap (λ (r : List ℕ). put (4 * b.width * base) (rows_of (side_row S b c) r) (rows_drawn c b xs)) t.sides
              ∙ ap (λ (r : List ℕ). put (4 * b.width * base) r (rows_drawn c b xs)) (side_rows S b g c keys inside)
              ∙ rows_then (4 * b.width) (word_row S b g) (words_wide b (inside_of tint vs₀ b xs l)) 0 base before keys xs at (let y : 4 * b.width * 0 ≡ 0 = omega arith in omega arith)
              ∙ ap (λ (r : List ℕ). put (4 * b.width * 0) (rows_of (word_row S b g) r) xs) all);
          links_are = t.links ∙ (λ i. put (1 * on i) (rows_of link_row keys) (d.links_are i))
              ∙ rows_then 1 link_row (λ i. refl) 0 base before keys ls₀ at (omega arith)
              ∙ ap (λ (r : List ℕ). put (1 * 0) (rows_of link_row r) ls₀) all;
          slots_are = t.slots ∙ (λ i. named ((on ∙ at) i) keys (d.slots_are i)) ∙ named_then 0 before keys ss₀ ∙ ap (λ (r : List ℕ). named 0 r ss₀) all;
        }

-- ---- the sets that the code finds are those of the fresh mesh
module _ (S : Scene) (outer g : List ℕ) (culling by : Bool) (set : ℕ) (mode : by ≡ culling) (named_by : set ≡ outer_set outer) where
  abbrev pub found : ℕ → ℕ
  found = set_at by (world_of S.size S.types.kinds S.types.covers) (faces_of set) g

  found_is : (c : ℕ) → found c ≡ set_at culling (world S) outer g c
  found_is c = set_world S by (faces_of set) g c ∙ rw (mode, named_by) (named_set culling (world S) outer g c)

  pub found_asked : asked found 0 (cells S.size) ≡ length (fresh_mesh S outer g culling)
  found_asked = asked_moved found (set_at culling (world S) outer g) (cells S.size) 0 0 (λ x h. found_is (0 + x)) ∙ asked_fresh S outer g culling

  found_quads : map (quad_on (world S) g) (keys_of found 0 (cells S.size)) ≡ fresh_mesh S outer g culling
  found_quads =
      ap (map (quad_on (world S) g)) (keys_like found (set_at culling (world S) outer g) (cells S.size) 0 (λ k a b. found_is k)) ∙ quads_of_keys S outer g culling

  -- LAW: when every quad is drawn, the lists are the layout of the fresh mesh
  pub drawn_all : (B : Lists) {c base Q : ℕ} {vs : Vertices} {T ls ss ss₀ : List ℕ} → c ≤ cells S.size → Q ≤ base → Q ≡ length (fresh_mesh S outer g culling)
      → Drawn S g found B.vertices B.links ss₀ c base vs ls ss
      → ss₀ ≡ replicate (faces S) NONE ++ drop (faces S) B.slots → T ≡ put (6 * 0) (each (Q - 0) 0 pattern) B.triangles
      → lists_of vs T ls ss ≡ layout (faces S) S.types.coloured (length (fresh_mesh S outer g culling)) (fresh_mesh S outer g culling) B
  unfolding slotted
  drawn_all B {c} {base} {Q} {vs} {T} {ls} {ss} {ss₀} h whole q d bare t =
      let m = fresh_mesh S outer g culling in
      let keys = keys_of found 0 (cells S.size) in
      let e : keys_of found 0 c ≡ keys = keys_all found c (cells S.size) h (omega (arith, d.count, q, found_asked)) in
      let quad = quad_on (world S) g in
      let f = found_quads in
      let n : length keys ≡ length m = sym (length-map keys quad) ∙ ap length f in
      let v = d.vertices_are
      ∙ each_list_lem S.types.coloured B.vertices (rows_drawn S g found c) (attribute_laid S.types.coloured (length m) m)
      (λ b xs l. ap (λ (r : List ℕ). put (4 * b.width * 0) (rows_of (word_row S b g) r) xs) e
      ∙ rows_laid (4 * b.width) (row_of S.types.coloured b) quad keys xs (words_wide S g found b (inside_of S.types.coloured B.vertices b xs l))
      ∙ (λ i. laid (4 * b.width) (λ q x. row_of S.types.coloured b x) (n i) (f i) xs)) in
      let p = t ∙ ap (λ (i : ℕ). put (6 * 0) (each (i - 0) 0 pattern) B.triangles) q
      ∙ places_laid 6 pattern m B.triangles length_patterns in
      let l = d.links_are ∙ ap (λ (r : List ℕ). put (1 * 0) (rows_of link_row r) B.links) e ∙ links_laid keys B.links
      ∙ (λ i. laid 1 (λ q x. link_of x.key ∷ []) (n i) (f i) B.links) in
      let s = d.slots_are ∙ (λ i. named 0 (e i) (bare i))
      ∙ slots_named (faces S) quad (λ k. again k) (drop (faces S) B.slots) keys (rising_first found (cells S.size))
      ∙ ap (λ (r : List Quad). slotted (faces S) r B.slots) f in
      λ i. lists_of (v i) (p i) (l i) (s i)
    where
      again : (k : ℕ) → 6 * (k / 6) + k % 6 ≡ k
      again k = omega arith

      links_same : (keys : List ℕ) → rows_of link_row keys ≡ rows_of (λ k. link_of (6 * (k / 6) + k % 6) ∷ []) keys
      links_same [] = refl
      links_same (k ∷ keys) = λ i. link_of (sym (again k) i) ∷ links_same keys i

      links_laid : (keys old : List ℕ)
          → put (1 * 0) (rows_of link_row keys) old ≡ laid 1 (λ q x. link_of x.key ∷ []) (length keys) (map (quad_on (world S) g) keys) old
      links_laid keys old =
          ap (λ (r : List ℕ). put (1 * 0) r old) (links_same keys) ∙ rows_laid 1 (λ x. link_of x.key ∷ []) (quad_on (world S) g) keys old (λ k. refl)
