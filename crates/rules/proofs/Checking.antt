-- The check accepts exactly the right meshes. Assumes nothing.
use mathlib.Core.Path.{◌≡◌, refl, sym, ap, ◌∙◌}
use mathlib.Core.Logic.{◌≢◌}
use mathlib.Core.Bool.{Bool, true, false, cond, not, ◌||◌, true≢false}
use mathlib.Core.List.{List, [], ◌∷◌}
use Prim.Native.Nat.{ℕ, ◌*◌, ◌/◌, ◌%◌, ◌≤◌, ◌<◌}
use native.Mathlib.Omega.{arith}
use native.Mathlib.Decide.{dec_lt}
use lib.Dec.{eqb, leb, ltb}
use lib.ListN.{length, get_or}
use borrow.Author.Tests.{eqb-true, eq-eqb, ltb-false, le-ltb, leb-false, lt-leb}
use Rattle.rules.specs.Lists.{table, row, same, lowest}
use Rattle.rules.specs.Cells.{cells, cell_in, code_in, key_of, first_vertex}
use Rattle.rules.specs.Cube.{floats_of}
use Rattle.rules.specs.Mesh.{Quad, World, quad_in, Lists, NONE, type_at, drawn, at, there, place_of, pattern, decoded, decode, layout, slot_of}
use Rattle.rules.specs.Update.{blank}
use Rattle.rules.specs.Answers.{Verdict, fine, refuse, ◌then◌, refuse_if, refuse_lowest, slot_at, bad_link, slots_filled, BAD_LINKS, BAD_TRIANGLES, wrong_face, WRONG_SET, wrong_vertex, WRONG_VERTEX}
use Rattle.rules.specs.Check.{linked, Right}
use Rattle.rules.proofs.ListLaws.{All, all_at, both_ways, or_false, not_true, lowest_none, lowest_good, same_true, same_refl, length-table, get_d_table}
use Rattle.rules.proofs.Quads.{Once, placed, absent}
use Rattle.rules.proofs.Laying.{Fits, key_at, Distinct, link_inside, keys_at, links_at, vertices_at, triangles_at, length-slots, slots_at, is_there_lem, at_there, place_is, distinct_of_once, once_of_distinct}
use Rattle.rules.proofs.Index.{Named, no_other, no_more}
use Rattle.rules.proofs.Views.{Sound}
use Rattle.rules.proofs.Mending.{Shows, not_drawn}

-- ---- verdicts
pub then_fine : (a b : Verdict) → (a then b) ≡ fine → (a ≡ fine) × (b ≡ fine)
unfolding ◌then◌
then_fine fine b e = (refl, e)
then_fine (refuse n p) b e = let z : ◌≡◌ {A = ℕ} 0 1 = cc in absurd (omega arith)

pub fine_then : {a b : Verdict} → a ≡ fine → b ≡ fine → (a then b) ≡ fine
unfolding ◌then◌
fine_then p q = rw p q

pub if_fine : (b : Bool) (n p : ℕ) → refuse_if b n p ≡ fine → b ≡ false
unfolding refuse_if
if_fine true n p e = let z : ◌≡◌ {A = ℕ} 0 1 = cc in absurd (omega arith)
if_fine false n p e = refl

pub fine_if : (b : Bool) (n p : ℕ) → b ≡ false → refuse_if b n p ≡ fine
unfolding refuse_if
fine_if b n p e = rw e

pub lowest_fine : (number n : ℕ) (bad : ℕ → Bool) → refuse_lowest number n bad ≡ fine → (k : ℕ) → k < n → bad k ≡ false
lowest_fine number n bad e k h =
    let l = ltb-false (lowest n bad) n (if_fine (ltb (lowest n bad) n) number (lowest n bad) e) in lowest_good n bad k (omega arith)

pub fine_lowest : (number n : ℕ) (bad : ℕ → Bool) → ((k : ℕ) → k < n → bad k ≡ false) → refuse_lowest number n bad ≡ fine
fine_lowest number n bad h =
    fine_if (ltb (lowest n bad) n) number (lowest n bad) (le-ltb (lowest n bad) n (omega (arith, lowest_none n bad h)))

-- ---- links, slots and triangles
pub record Book (n : ℕ) (B : Lists) (Q : ℕ) : Type 0 where
  pub codes : (q : ℕ) → q < Q → code_in (get_or B.links q 0) ≤ 5
  pub inside : (q : ℕ) → q < Q → cell_in (get_or B.links q 0) < n
  pub named : (q : ℕ) → q < Q → slot_at B (linked B q) ≡ first_vertex q
  pub few : slots_filled (6 * n) B ≤ Q
  pub triangles : (q : ℕ) → q < Q → row 6 B.triangles q ≡ pattern q

module _ (n : ℕ) (B : Lists) (Q : ℕ) where
  link_fine : (q : ℕ) → bad_link n B q ≡ false
      → (code_in (get_or B.links q 0) ≤ 5) × (cell_in (get_or B.links q 0) < n) × (slot_at B (linked B q) ≡ first_vertex q)
  unfolding bad_link
  link_fine q e =
      let a = or_false (ltb 5 (code_in (get_or B.links q 0)) || leb n (cell_in (get_or B.links q 0))) (not (eqb (slot_at B (linked B q)) (first_vertex q))) e in
      let b = or_false (ltb 5 (code_in (get_or B.links q 0))) (leb n (cell_in (get_or B.links q 0))) a.0 in (
        ltb-false 5 (code_in (get_or B.links q 0)) b.0,
        leb-false n (cell_in (get_or B.links q 0)) b.1,
        eqb-true (slot_at B (linked B q)) (first_vertex q) (not_true _ a.1),
      )

  fine_link : (q : ℕ) → code_in (get_or B.links q 0) ≤ 5 → cell_in (get_or B.links q 0) < n → slot_at B (linked B q) ≡ first_vertex q
      → bad_link n B q ≡ false
  unfolding bad_link
  fine_link q a b d = rw (le-ltb 5 (code_in (get_or B.links q 0)) a, lt-leb n (cell_in (get_or B.links q 0)) b, eq-eqb (slot_at B (linked B q)) (first_vertex q) d)

  pub book_of_fine : (BAD_LINKS n B Q then BAD_TRIANGLES B Q) ≡ fine → Book n B Q
  unfolding BAD_LINKS
  book_of_fine e =
      let t = then_fine (refuse_lowest 11 Q (bad_link n B) then refuse_if (ltb Q (slots_filled (6 * n) B)) 11 Q) (BAD_TRIANGLES B Q) e in
      let l = then_fine (refuse_lowest 11 Q (bad_link n B)) (refuse_if (ltb Q (slots_filled (6 * n) B)) 11 Q) t.0 in
      let k : (q : ℕ) → q < Q → bad_link n B q ≡ false = lowest_fine 11 Q (bad_link n B) l.0 in
      record {
        codes = λ q h. (link_fine q (k q h)).0;
        inside = λ q h. (link_fine q (k q h)).1;
        named = λ q h. (link_fine q (k q h)).2;
        few = ltb-false Q (slots_filled (6 * n) B) (if_fine (ltb Q (slots_filled (6 * n) B)) 11 Q l.1);
        triangles = λ q h. same_true (row 6 B.triangles q) (pattern q)
            (not_true (same (row 6 B.triangles q) (pattern q)) (lowest_fine 12 Q (λ q. not (same (row 6 B.triangles q) (pattern q))) t.1 q h));
      }

  pub fine_of_book : Book n B Q → (BAD_LINKS n B Q then BAD_TRIANGLES B Q) ≡ fine
  unfolding BAD_LINKS
  fine_of_book b =
      fine_then (fine_then
      (fine_lowest 11 Q (bad_link n B) (λ q h. fine_link q (b.codes q h) (b.inside q h) (b.named q h)))
      (fine_if (ltb Q (slots_filled (6 * n) B)) 11 Q (le-ltb Q (slots_filled (6 * n) B) b.few)))
      (fine_lowest 12 Q (λ q. not (same (row 6 B.triangles q) (pattern q)))
      (λ q h. rw (b.triangles q h, same_refl (pattern q))))

  -- what the links name: places in the grid, distinct, and their slots full
  pub names_of : 6 * n ≤ length B.slots → ((q : ℕ) → q < Q → code_in (get_or B.links q 0) ≤ 5)
      → ((q : ℕ) → q < Q → cell_in (get_or B.links q 0) < n) → ((q : ℕ) → q < Q → slot_at B (linked B q) ≡ first_vertex q)
      → Named (6 * n) B.slots (table Q (linked B))
  names_of room codes inside named =
      record {
        room = room;
        below = λ q h. let l = len q h in rw (key q l) (let a = codes q l in let b = inside q l in omega arith);
        full = λ q h. let l = len q h in rw (key q l) (λ e. let a = named q l in omega arith);
        apart = λ p q l h. let b = len q h in let a : p < Q = omega arith in
            rw (key p a, key q b) (λ e. let x = named p a in let y = named q b in let z = ap (slot_at B) e in omega arith);
      }
    where
      len : (q : ℕ) → q < length (table Q (linked B)) → q < Q
      len q h = omega (arith, length-table (linked B) Q)

      key : (q : ℕ) → q < Q → get_or (table Q (linked B)) q 0 ≡ linked B q
      key q h = get_d_table (linked B) Q q 0 h

  -- each filled slot names a quad of its face
  pub filled_named : 6 * n ≤ length B.slots → Book n B Q → (k : ℕ) → k < 6 * n → slot_at B k ≢ NONE
      → (q : ℕ) × (q < Q) × (slot_at B k ≡ first_vertex q) × (linked B q ≡ k)
  filled_named room b k h d =
      let len = length-table (linked B) Q in
      let i = no_other (table Q (linked B)) (6 * n) B.slots (names_of room b.codes b.inside b.named) (omega (arith, b.few)) k h d in
      let l : i.0 < Q = omega (arith, i.1) in
      let e : linked B i.0 ≡ k = sym (get_d_table (linked B) Q i.0 0 l) ∙ i.2 in
      (i.0, l, ap (slot_at B) (sym e) ∙ b.named i.0 l, e)

  pub few_filled : 6 * n ≤ length B.slots → ((q : ℕ) → q < Q → code_in (get_or B.links q 0) ≤ 5)
      → ((q : ℕ) → q < Q → cell_in (get_or B.links q 0) < n) → ((q : ℕ) → q < Q → slot_at B (linked B q) ≡ first_vertex q)
      → ((k : ℕ) → k < 6 * n → slot_at B k ≢ NONE → (q : ℕ) × (q < Q) × (slot_at B k ≡ first_vertex q) × (linked B q ≡ k))
      → slots_filled (6 * n) B ≤ Q
  few_filled room codes inside named naming =
      let len = length-table (linked B) Q in
      let m = no_more (table Q (linked B)) (6 * n) B.slots (names_of room codes inside named)
      (λ k h d. let i = naming k h d in (i.0, omega (arith, i.1), get_d_table (linked B) Q i.0 0 i.1 ∙ i.3)) in
      omega arith

  -- the quads read back are the links' faces, in their places
  pub length-decode : (tint : Bool) → length (decode tint Q B) ≡ Q
  length-decode tint = length-table (decoded tint B) Q

  pub key_decode : (tint : Bool) (q : ℕ) → q < Q → key_at (decode tint Q B) q ≡ linked B q
  key_decode tint q h = ap (λ (x : Quad). x.key) (get_d_table (decoded tint B) Q q blank h)

  pub words_decode : (tint : Bool) (q : ℕ) → q < Q → (get_or (decode tint Q B) q blank).words ≡ quad_in tint B.vertices q
  words_decode tint q h = ap (λ (x : Quad). x.words) (get_d_table (decoded tint B) Q q blank h)

  pub distinct_decode : (tint : Bool) → ((p q : ℕ) → p < q → q < Q → linked B p ≢ linked B q) → Distinct (decode tint Q B)
  distinct_decode tint d p q l h e =
      let b : q < Q = omega (arith, length-decode tint) in
      d p q l b (sym (key_decode tint p (omega arith)) ∙ e ∙ key_decode tint q b)

  pub there_of : (tint : Bool) (q : ℕ) → q < Q → there (linked B q) (decode tint Q B) ≡ true
  there_of tint q h = is_there_lem (decode tint Q B) q (linked B q) (omega (arith, length-decode tint)) (key_decode tint q h)

  pub place_of_lem : (tint : Bool) (k : ℕ) → there k (decode tint Q B) ≡ true → (place_of k (decode tint Q B) < Q) × (linked B (place_of k (decode tint Q B)) ≡ k)
  place_of_lem tint k e =
      let p = placed k (decode tint Q B) e in
      let w = p.within in
      let l : place_of k (decode tint Q B) < Q = omega (arith, length-decode tint) in (l, sym (key_decode tint (place_of k (decode tint Q B)) l) ∙ p.key)

-- ---- the faces
module _ (W : World) (outer g : List ℕ) (tint : Bool) (B : Lists) (Q : ℕ) (room : 6 * cells W.size ≤ length B.slots) where
  N : ℕ
  N = cells W.size

  face_fine : (k : ℕ) → wrong_face W outer g (decode tint Q B) k ≡ false → there k (decode tint Q B) ≡ drawn W outer g (k / 6) (k % 6)
  unfolding wrong_face
  face_fine k = go (drawn W outer g (k / 6) (k % 6)) (there k (decode tint Q B))
    where
      go : (a b : Bool) → cond a (not b) b ≡ false → b ≡ a
      go true true e = refl
      go true false e = absurd (true≢false e)
      go false b e = e

  fine_face : (k : ℕ) → there k (decode tint Q B) ≡ drawn W outer g (k / 6) (k % 6) → wrong_face W outer g (decode tint Q B) k ≡ false
  unfolding wrong_face
  fine_face k e = rw e (go (drawn W outer g (k / 6) (k % 6)))
    where
      go : (a : Bool) → cond a (not a) a ≡ false
      go true = refl
      go false = refl

  vertex_fine : (q : ℕ) → wrong_vertex W g (decoded tint B q) ≡ false
      → quad_in tint B.vertices q ≡ W.words_of (type_at g (linked B q / 6)) (linked B q % 6) (linked B q / 6)
  unfolding wrong_vertex
  vertex_fine q e = same_true (quad_in tint B.vertices q) (W.words_of (type_at g (linked B q / 6)) (linked B q % 6) (linked B q / 6)) (not_true _ e)

  fine_vertex : (q : ℕ) → quad_in tint B.vertices q ≡ W.words_of (type_at g (linked B q / 6)) (linked B q % 6) (linked B q / 6)
      → wrong_vertex W g (decoded tint B q) ≡ false
  unfolding wrong_vertex
  fine_vertex q e = rw (e, same_refl (W.words_of (type_at g (linked B q / 6)) (linked B q % 6) (linked B q / 6)))

  -- LAW: no refusal of 11, 12, 15 or 16 is given exactly if the mesh is right
  pub right_of_fine : (BAD_LINKS (cells W.size) B Q then BAD_TRIANGLES B Q) ≡ fine
      → (WRONG_SET W outer g (decode tint Q B) then WRONG_VERTEX W g (decoded tint B) Q) ≡ fine → Right W outer g tint B Q
  right_of_fine eb ef =
      let b = book_of_fine (cells W.size) B Q eb in
      let t = then_fine (WRONG_SET W outer g (decode tint Q B)) (WRONG_VERTEX W g (decoded tint B) Q) ef in
      let set : (k : ℕ) → k < 6 * cells W.size → there k (decode tint Q B) ≡ drawn W outer g (k / 6) (k % 6) =
      λ k h. face_fine k (lowest_fine 15 (6 * cells W.size) (wrong_face W outer g (decode tint Q B)) t.0 k h) in
      record {
        each_shown = λ c f hc hf d.
            let u : key_of c f / 6 ≡ c = omega arith in
            let v : key_of c f % 6 ≡ f = omega arith in
            let r : there (key_of c f) (decode tint Q B) ≡ true = set (key_of c f) (omega arith) ∙ rw (u, v) d in let i = place_of_lem N B Q tint (key_of c f) r in (place_of (key_of c f) (decode tint Q B), i.0, i.1);
        inside = λ q h. (b.codes q h, b.inside q h);
        no_other = λ q h. let x = b.codes q h in let y = b.inside q h in sym (set (linked B q) (omega arith)) ∙ there_of N B Q tint q h;
        once = λ p q l h e. let x = b.named p (omega arith) in let y = b.named q h in let z = ap (slot_at B) e in omega arith;
        vertices = λ q h. vertex_fine q (lowest_fine 16 Q (λ q. wrong_vertex W g (decoded tint B q)) t.1 q h);
        triangles = b.triangles;
        named = b.named;
        naming = filled_named (cells W.size) B Q room b;
      }

  pub book_of_right : Right W outer g tint B Q → Book (cells W.size) B Q
  book_of_right r =
      record {
        codes = λ q h. (r.inside q h).0;
        inside = λ q h. (r.inside q h).1;
        named = r.named;
        few = few_filled (cells W.size) B Q room (λ q h. (r.inside q h).0) (λ q h. (r.inside q h).1) r.named r.naming;
        triangles = r.triangles;
      }

  there_is_drawn : Right W outer g tint B Q → (k : ℕ) → k < 6 * cells W.size → there k (decode tint Q B) ≡ drawn W outer g (k / 6) (k % 6)
  there_is_drawn r k h = go (drawn W outer g (k / 6) (k % 6)) refl
    where
      go : (d : Bool) → drawn W outer g (k / 6) (k % 6) ≡ d → there k (decode tint Q B) ≡ d
      go true e =
          let i = r.each_shown (k / 6) (k % 6) (omega arith) (omega arith) e in
          is_there_lem (decode tint Q B) i.0 k (omega (arith, i.1, length-decode N B Q tint)) (key_decode N B Q tint i.0 i.1 ∙ i.2 ∙ omega arith)
      go false e = both_ways (there k (decode tint Q B)) (λ t. let i = place_of_lem N B Q tint k t in true≢false (sym (r.no_other (place_of k (decode tint Q B)) i.0) ∙ rw i.1 e))

  pub fine_of_right : Right W outer g tint B Q
      → ((BAD_LINKS (cells W.size) B Q then BAD_TRIANGLES B Q) ≡ fine) × ((WRONG_SET W outer g (decode tint Q B) then WRONG_VERTEX W g (decoded tint B) Q) ≡ fine)
  fine_of_right r = (
    fine_of_book (cells W.size) B Q (book_of_right r),
    fine_then
        (fine_lowest 15 (6 * cells W.size) (wrong_face W outer g (decode tint Q B)) (λ k h. fine_face k (there_is_drawn r k h)))
        (fine_lowest 16 Q (λ q. wrong_vertex W g (decoded tint B q)) (λ q h. fine_vertex q (r.vertices q h))),
  )

  -- a right mesh, read back, shows what culling shows
  pub shows_of_right : Sound W → length g ≡ cells W.size → Right W outer g tint B Q → Shows W outer g (decode tint Q B)
  unfolding Shows
  shows_of_right snd hg r c f hf = go (drawn W outer g c f) refl
    where
      once : Once (decode tint Q B)
      once = once_of_distinct (decode tint Q B) (distinct_decode N B Q tint r.once)

      in_grid : drawn W outer g c f ≡ true → c < cells W.size
      in_grid d = on (dec_lt c (cells W.size))
        where
          on : Dec (c < cells W.size) → c < cells W.size
          on (yes h) = h
          on (no h) = absurd (true≢false (sym d ∙ not_drawn W snd outer g c f (omega arith)))

      go : (d : Bool) → drawn W outer g c f ≡ d → at (key_of c f) (decode tint Q B) ≡ cond d (W.words_of (type_at g c) f c ∷ []) []
      go true d =
          let i = r.each_shown c f (in_grid d) hf d in
          let k = key_decode N B Q tint i.0 i.1 ∙ i.2 in
          let u : linked B i.0 / 6 ≡ c = omega (arith, i.2) in
          let v : linked B i.0 % 6 ≡ f = omega (arith, i.2) in
          (rw k at (at_there (decode tint Q B) i.0 once (omega (arith, i.1, length-decode N B Q tint))))
          ∙ ap (λ (w : List ℕ). w ∷ []) (words_decode N B Q tint i.0 i.1 ∙ rw (u, v) at (r.vertices i.0 i.1))
      go false d =
          absent (key_of c f) (decode tint Q B)
          (both_ways (there (key_of c f) (decode tint Q B))
          (λ t. let i = place_of_lem N B Q tint (key_of c f) t in
          let q : ℕ = place_of (key_of c f) (decode tint Q B) in
          let u : linked B q / 6 ≡ c = omega (arith, i.1) in
          let v : linked B q % 6 ≡ f = omega (arith, i.1) in
          true≢false (sym (rw (u, v) at (r.no_other q i.0)) ∙ d)))

-- ---- a mesh that has no face twice, laid out: links, slots and triangles are right
module _ (n : ℕ) (tint : Bool) (highest : ℕ) (m : List Quad) (B : Lists) (hn : 6 * n ≤ 3221225472) (fits : All (Fits (6 * n) (4 * floats_of tint)) m) (room : 6 * n ≤ length B.slots)
    (once : Once m) where
  abbrev after : Lists
  after = layout (6 * n) tint highest m B

  laid_key : (q : ℕ) → q < length m → linked after q ≡ key_at m q
  laid_key = keys_at (6 * n) (4 * floats_of tint) highest m B.links fits hn

  laid_slot : (k : ℕ) → k < 6 * n → slot_at after k ≡ slot_of m k
  laid_slot = slots_at (6 * n) tint highest hn m B fits room

  laid_found : (k : ℕ) → there k m ≡ true → (q : ℕ) × (q < length m) × (place_of k m ≡ q) × (linked after q ≡ k)
  laid_found k e = let p = placed k m e in (place_of k m, p.within, refl, laid_key (place_of k m) p.within ∙ p.key)

  laid_inside : (q : ℕ) → q < length m → (code_in (get_or after.links q 0) ≤ 5) × (cell_in (get_or after.links q 0) < n)
  laid_inside q h =
      let b = (all_at (Fits (6 * n) (4 * floats_of tint)) m q blank fits h).0 in
      rw (links_at (6 * n) (4 * floats_of tint) highest m B.links fits q h) (link_inside (key_at m q) n (omega arith) b)

  laid_once : (p q : ℕ) → p < q → q < length m → linked after p ≢ linked after q
  laid_once p q l h = rw (laid_key p (omega arith), laid_key q h) (distinct_of_once m once p q l h)

  laid_named : (q : ℕ) → q < length m → slot_at after (linked after q) ≡ first_vertex q
  laid_named q h =
      let b = (all_at (Fits (6 * n) (4 * floats_of tint)) m q blank fits h).0 in
      rw (laid_key q h) (laid_slot (key_at m q) b ∙ rw (is_there_lem m q (key_at m q) h refl, place_is m q (distinct_of_once m once) h))

  laid_naming : (k : ℕ) → k < 6 * n → slot_at after k ≢ NONE
      → (q : ℕ) × (q < length m) × (slot_at after k ≡ first_vertex q) × (linked after q ≡ k)
  laid_naming k h d = go (there k m) refl
    where
      go : (t : Bool) → there k m ≡ t
          → (q : ℕ) × (q < length m) × (slot_at (layout (6 * n) tint highest m B) k ≡ first_vertex q) × (linked (layout (6 * n) tint highest m B) q ≡ k)
      go true e = let i = laid_found k e in (i.0, i.1, laid_slot k h ∙ rw (e, i.2), i.3)
      go false e = absurd (d (laid_slot k h ∙ rw e))

  -- LAW: what is laid out passes 11 and 12
  pub book_of_laid : Book n (layout (6 * n) tint highest m B) (length m)
  book_of_laid =
      let slots = length-slots (6 * n) tint highest hn m B fits room in
      record {
        codes = λ q h. (laid_inside q h).0;
        inside = λ q h. (laid_inside q h).1;
        named = laid_named;
        few = few_filled n after (length m) (omega arith) (λ q h. (laid_inside q h).0) (λ q h. (laid_inside q h).1) laid_named laid_naming;
        triangles = triangles_at (6 * n) tint highest hn m B fits;
      }

-- ---- a mesh that shows what culling shows, laid out, is right
module _ (W : World) (outer g : List ℕ) (tint : Bool) (highest : ℕ) (m : List Quad) (B : Lists) (hn : 6 * cells W.size ≤ 3221225472)
    (fits : All (Fits (6 * cells W.size) (4 * floats_of tint)) m) (room : 6 * cells W.size ≤ length B.slots) where
  pub right_of_shows : Shows W outer g m → Once m → Right W outer g tint (layout (6 * cells W.size) tint highest m B) (length m)
  unfolding Shows
  right_of_shows sh once =
      let n = cells W.size in
      let key = laid_key n tint highest m B hn fits room once in
      record {
        each_shown = λ c f hc hf d. let i = laid_found n tint highest m B hn fits room once (key_of c f) (rw (sh c f hf, d)) in (i.0, i.1, i.3);
        inside = laid_inside n tint highest m B hn fits room once;
        no_other = λ q h. rw (key q h) (both q h).0;
        once = laid_once n tint highest m B hn fits room once;
        vertices = λ q h. rw (key q h) (vertices_at (6 * n) tint highest hn m B fits q h ∙ (both q h).1);
        triangles = triangles_at (6 * n) tint highest hn m B fits;
        named = laid_named n tint highest m B hn fits room once;
        naming = laid_naming n tint highest m B hn fits room once;
      }
    where
      one_of : (b : Bool) (x y : List ℕ) → cond b (x ∷ []) [] ≡ y ∷ [] → (b ≡ true) × (y ≡ x)
      one_of true x y e = (refl, (cc))
      one_of false x y e = let z : ◌≡◌ {A = ℕ} 0 1 = cc in absurd (omega arith)

      both : (q : ℕ) → q < length m
          → (drawn W outer g (key_at m q / 6) (key_at m q % 6) ≡ true)
          × ((get_or m q blank).words ≡ W.words_of (type_at g (key_at m q / 6)) (key_at m q % 6) (key_at m q / 6))
      both q h =
          let e : key_of (key_at m q / 6) (key_at m q % 6) ≡ key_at m q = omega arith in
          one_of (drawn W outer g (key_at m q / 6) (key_at m q % 6)) _ (get_or m q blank).words
          (sym (sh (key_at m q / 6) (key_at m q % 6) (omega arith)) ∙ rw e (at_there m q once h))
