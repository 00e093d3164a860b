-- The demands on meshes, as theorems on the calls' rules. Assumes nothing.
use mathlib.Core.Path.{◌≡◌, refl, sym, ap, ◌∙◌, subst}
use mathlib.Core.Logic.{◌≢◌, ◌↔◌}
use mathlib.Core.Bool.{Bool, true, false, cond, not, ◌||◌, false≢true}
use mathlib.Core.List.{List, [], ◌∷◌}
use mathlib.Core.Option.{Option, none, some}
use Prim.Native.Nat.{ℕ, ◌+◌, ◌*◌, ◌/◌, ◌≤◌, ◌<◌, min}
use native.Mathlib.Omega.{arith}
use native.Mathlib.Decide.{ℕ_discrete}
use lib.Dec.{eqb, leb, ltb}
use lib.ListN.{length, get_or, set, length-set}
use lib.Seq.{get_or-set_same, get_or-set_other}
use borrow.Author.Tests.{eqb-true, eq-eqb, ltb-false, le-ltb, leb-false, lt-leb}
use Rattle.rules.specs.Lists.{only, member}
use Rattle.rules.specs.Cells.{cells, key_of}
use Rattle.rules.specs.Types.{floats, quad_word, quad_words, cube_of}
use Rattle.rules.specs.Mesh.{Quad, Attribute, position, normal, uv, colour, Vertices, HasList, of_positions, of_normals, of_uvs, of_colours, each_list, attribute_laid, Lists, lists_of, type_at, drawn, all_sides, culled, at, decode, layout, mesh_by}
use Rattle.rules.specs.Update.{ENTRY_BYTES, Change, Broken, Added, Sides, Replaced, Entry, entry_at, Tested, work, Course, blank, u32_at, empty_type, grid_by, grid_after, grid_log, TrueBy, Honest, Mends, AddsAlike}
use Rattle.rules.specs.Answers.{Verdict, fine, refuse, ◌then◌, refuse_if, refuse_lowest, out_of, bad_limits, BAD_SIZE, BAD_GRID, bad_counts, bad_type, BAD_TYPES, BAD_NUMBER, NOT_A_CUBE, BAD_OUTER, BAD_CELL, SHORT_SLOTS, room_of, BAD_COUNT, bad_bytes, bad_former, bad_entry, BAD_ENTRY, NO_ROOM}
use Rattle.rules.specs.Check.{linked, Holds, Right}
use Rattle.rules.specs.Calls.{Answer, answered, Scene, words_in, world, span, faces, room, types_verdict, fresh_mesh, input_verdict, mesh_verdict, meshed_by, mesh_grid, lent_verdict, update_verdict, entries_of, course, course_answer, update_by, update_mesh, open_verdict, book_verdict, face_verdict, check_verdict, check_by, check_mesh}
use Rattle.rules.proofs.ListLaws.{All, all_of, all_each, split, both_ways, or_false, not_true, length-table, length-each}
use Rattle.rules.proofs.Attributes.{lies, length_quad}
use Rattle.rules.proofs.Laying.{Fits, length_attributes, length-triangles, length-links, length-slots, once_of_distinct, decode_layout}
use Rattle.rules.proofs.Checking.{then_fine, fine_then, if_fine, fine_if, lowest_fine, fine_lowest, Book, book_of_fine, fine_of_book, book_of_laid, length-decode, key_decode, words_decode, distinct_decode, right_of_fine, fine_of_right, shows_of_right, right_of_shows}
use Rattle.rules.proofs.Views.{Sound}
use Rattle.rules.proofs.Mending.{Shows, sides_once, no_side, not_drawn, fresh_sides, fresh_shows}
use Rattle.rules.proofs.Ordered.{fresh_order}
use Rattle.rules.proofs.Courses.{fits_fresh, fits_new, Sane, course_sane, mends_log, length_log}
use Rattle.rules.proofs.Refusals.{Within, given, MESH, UPDATE_FIRST, CHECK, mesh_numbers, update_numbers, check_numbers, zero_fine}

-- ---- what the refusals leave
module _ (S : Scene) where
  -- words of a quad
  pub words_sized : (t f c : ℕ) → length (words_in S t f c) ≡ span S
  unfolding quad_words
  words_sized t f c = length-each (floats S.types) 4 0 _ (λ i. length-table (quad_word (cube_of S.types t) (floats S.types) S.d f _ i) (floats S.types))

  -- sizes within their limits
  pub record Limits : Type 0 where
    pub wide : 0 < S.size.w
    pub long : 0 < S.size.l
    pub small : cells S.size ≤ 1048576

  out_false : (n low high : ℕ) → out_of n low high ≡ false → (low ≤ n) × (n ≤ high)
  out_false n low high e = let a = or_false (ltb n low) (ltb high n) e in (ltb-false n low a.0, ltb-false high n a.1)

  pub limits : BAD_SIZE S.size ≡ fine → Limits
  unfolding bad_limits
  limits e =
      let f = if_fine (bad_limits S.size) 2 0 e in
      let a = or_false (out_of S.size.w 1 1024 || out_of S.size.h 1 1024 || out_of S.size.l 1 1024) (ltb 1048576 (cells S.size)) f in
      let b = or_false (out_of S.size.w 1 1024 || out_of S.size.h 1 1024) (out_of S.size.l 1 1024) a.0 in
      let c = or_false (out_of S.size.w 1 1024) (out_of S.size.h 1 1024) b.0 in
      record {
        wide = (out_false S.size.w 1 1024 c.0).0;
        long = (out_false S.size.l 1 1024 b.1).0;
        small = ltb-false 1048576 (cells S.size) a.1;
      }

  pub sound : BAD_SIZE S.size ≡ fine → types_verdict S ≡ fine → Sound (world S)
  unfolding BAD_TYPES bad_counts
  sound es et =
      let l = limits es in
      let t = then_fine (BAD_TYPES S.types) (BAD_NUMBER S.d S.centre 0 then NOT_A_CUBE S.types S.centre) et in
      let u = then_fine (refuse_if (bad_counts S.types) 3 255) (refuse_lowest 3 (length S.types.kinds) (bad_type S.types)) t.0 in
      let f = if_fine (bad_counts S.types) 3 255 u.0 in
      let a = or_false (out_of (length S.types.kinds) 1 255 || not (eqb (length S.types.covers) (length S.types.kinds))) _ f in
      let b = or_false (out_of (length S.types.kinds) 1 255) (not (eqb (length S.types.covers) (length S.types.kinds))) a.0 in
      let k = (out_false (length S.types.kinds) 1 255 b.0).1 in
      let c = eqb-true (length S.types.covers) (length S.types.kinds) (not_true _ b.1) in
      record { wide = l.wide; long = l.long; few = k; few_sets = omega arith }

  -- room for r quads is room in each list
  pub record Room (B : Lists) (r : ℕ) : Type 0 where
    pub vertices : (a : Attribute) (xs : List ℕ) → HasList S.types.coloured B.vertices a xs → 4 * a.width * r ≤ length xs
    pub triangles : 6 * r ≤ length B.triangles
    pub links : r ≤ length B.links

  pub room_for : (B : Lists) (r : ℕ) → r ≤ room S B → Room B r
  unfolding room_of
  room_for B r h = let l = (least S.types.coloured h).0 in record { vertices = each_has; triangles = omega arith; links = omega arith }
    where
      vs : Vertices
      vs = B.vertices

      others : ℕ
      others = min (length vs.positions / 12) (min (length vs.normals / 12) (min (length vs.uvs / 8) (min (length B.triangles / 6) (length B.links))))

      least : (b : Bool) → r ≤ cond b (min (length vs.colours / 16) others) others → (r ≤ others) × (b ≡ true → r ≤ length vs.colours / 16)
      least true l = (omega arith, λ e. omega arith)
      least false l = (l, λ e. absurd (false≢true e))

      each_has : (a : Attribute) (xs : List ℕ) → HasList S.types.coloured B.vertices a xs → 4 * a.width * r ≤ length xs
      each_has _ _ of_positions = let l = (least S.types.coloured h).0 in omega arith
      each_has _ _ of_normals = let l = (least S.types.coloured h).0 in omega arith
      each_has _ _ of_uvs = let l = (least S.types.coloured h).0 in omega arith
      each_has _ _ (of_colours e) = let l = (least S.types.coloured h).1 e in omega arith

  -- lists that become others of their lengths have the same room
  same_room : (B : Lists) (f : Attribute → List ℕ → List ℕ) (ts ls ss : List ℕ)
      → ((a : Attribute) (xs : List ℕ) → HasList S.types.coloured B.vertices a xs → length (f a xs) ≡ length xs)
      → length ts ≡ length B.triangles → length ls ≡ length B.links
      → room S (lists_of (each_list S.types.coloured f B.vertices) ts ls ss) ≡ room S B
  unfolding room_of
  same_room B f ts ls ss h t l =
      rw (h position vs.positions of_positions, h normal vs.normals of_normals, h uv vs.uvs of_uvs, t, l) (counted _ S.types.coloured refl)
    where
      vs : Vertices
      vs = B.vertices

      counted : (others : ℕ) (b : Bool) → S.types.coloured ≡ b
          → cond b (min (length (cond b (f colour vs.colours) vs.colours) / 16) others) others ≡ cond b (min (length vs.colours / 16) others) others
      counted others true e = rw (h colour vs.colours (of_colours e))
      counted others false e = refl

-- ---- a mesh laid out in lent lists
module _ (S : Scene) (B : Lists) (highest : ℕ) (m : List Quad) (size_fine : BAD_SIZE S.size ≡ fine) (slots-fine : SHORT_SLOTS S.size B ≡ fine)
    (sane : Sane (faces S) (span S) (room S B) m highest) where
  abbrev after : Lists
  after = layout (faces S) S.types.coloured highest m B

  small : faces S ≤ 3221225472
  small = let l = (limits S size_fine).small in omega arith

  slots_room : faces S ≤ length B.slots
  slots_room = ltb-false (length B.slots) (faces S) (if_fine (ltb (length B.slots) (faces S)) 9 0 slots-fine)

  slots_kept : length after.slots ≡ length B.slots
  slots_kept = length-slots (faces S) S.types.coloured highest small m B sane.fits slots_room

  room_kept : room S after ≡ room S B
  room_kept =
      let r = room_for S B highest sane.within in
      same_room S B (attribute_laid S.types.coloured highest m) after.triangles after.links after.slots
      (λ a xs l. length_attributes (faces S) S.types.coloured highest small m B sane.fits sane.reached a xs l (r.vertices a xs l))
      (length-triangles (faces S) S.types.coloured highest small m B sane.fits sane.reached r.triangles)
      (length-links (faces S) (span S) highest m B.links sane.fits sane.reached r.links)

  -- LAW: it passes 9 to 12
  pub laid_lent : lent_verdict S (layout (faces S) S.types.coloured highest m B) (length m) ≡ fine
  laid_lent =
      fine_then (fine_if (ltb (length after.slots) (faces S)) 9 0 (le-ltb (length after.slots) (faces S) (omega (arith, slots_kept, slots_room))))
      (fine_then (fine_if (ltb (room S after) (length m)) 10 0 (le-ltb (room S after) (length m) (omega (arith, room_kept, sane.reached, sane.within))))
      (fine_of_book (cells S.size) after (length m)
      (book_of_laid (cells S.size) S.types.coloured highest m B small sane.fits slots_room sane.once)))

  -- LAW: it is accepted, if it shows what culling shows
  pub laid_accepted : (outer g : List ℕ) → BAD_GRID S.size g ≡ fine → types_verdict S ≡ fine → BAD_OUTER outer ≡ fine
      → BAD_CELL S.types g ≡ fine → Shows (world S) outer g m → check_verdict S outer g (layout (faces S) S.types.coloured highest m B) (length m) ≡ fine
  laid_accepted outer g grid-fine types-fine outer-fine cells-fine sh =
      let l = then_fine (SHORT_SLOTS S.size after) _ laid_lent in
      let c = then_fine (BAD_COUNT (room S after) (length m)) (book_verdict S after (length m)) l.1 in
      fine_then
      (fine_then (fine_then size_fine (fine_then grid-fine (fine_then types-fine (fine_then outer-fine (fine_then cells-fine l.0))))) c.0)
      (fine_then c.1
      (fine_of_right (world S) outer g S.types.coloured after (length m) (omega (arith, slots_kept, slots_room))
      (right_of_shows (world S) outer g S.types.coloured highest m B small sane.fits slots_room sh sane.once)).1)

-- ---- DEMAND 3, first half: the check accepts exactly the right meshes

-- an answer of 0 is a verdict with nothing to refuse
accepted : (S : Scene) (outer g : List ℕ) (B : Lists) (Q : ℕ) → (check_mesh S outer g B Q).number ≡ 0 → check_verdict S outer g B Q ≡ fine
accepted S outer g B Q e = zero_fine CHECK refl (check_verdict S outer g B Q) (check_numbers S outer g B Q) e

pub accepts_exactly : (S : Scene) (outer g : List ℕ) (B : Lists) (Q : ℕ) → open_verdict S outer g B Q ≡ fine
    → (check_mesh S outer g B Q ≡ answered 0 0) ↔ Right (world S) outer g S.types.coloured B Q
accepts_exactly S outer g B Q eo = (λ e. right e, λ r. ap check_by (fine_then eo (fine_then (book r).0 (book r).1)))
  where
    slots_room : faces S ≤ length B.slots
    slots_room =
        let a = (then_fine (BAD_SIZE S.size) _ (then_fine (input_verdict S outer g B) _ eo).0).1 in
        let b = (then_fine (BAD_GRID S.size g) _ a).1 in
        let c = (then_fine (types_verdict S) _ b).1 in
        let d = (then_fine (BAD_OUTER outer) _ c).1 in
        let h = (then_fine (BAD_CELL S.types g) (SHORT_SLOTS S.size B) d).1 in
        ltb-false (length B.slots) (faces S) (if_fine (ltb (length B.slots) (faces S)) 9 0 h)

    book : Right (world S) outer g S.types.coloured B Q → (book_verdict S B Q ≡ fine) × (face_verdict S outer g B Q ≡ fine)
    book r = fine_of_right (world S) outer g S.types.coloured B Q slots_room r

    right : check_mesh S outer g B Q ≡ answered 0 0 → Right (world S) outer g S.types.coloured B Q
    right e =
        let v = accepted S outer g B Q (ap (λ (a : Answer). a.number) e) in
        let b = (then_fine (open_verdict S outer g B Q) _ v).1 in
        let c = then_fine (book_verdict S B Q) (face_verdict S outer g B Q) b in
        right_of_fine (world S) outer g S.types.coloured B Q slots_room c.0 c.1

-- ---- fresh meshes
module _ (S : Scene) (outer g : List ℕ) (culling : Bool) (B : Lists) (accepted : mesh_verdict S outer g culling B ≡ fine) where
  abbrev fresh : List Quad
  fresh = fresh_mesh S outer g culling

  -- the sides that the algorithm draws
  abbrev drawn_by : Bool → ℕ → ℕ → Bool
  drawn_by c = cond c (drawn (world S) outer g) (all_sides (world S) g)

  -- what was asked, one by one
  record Opened : Type 0 where
    size : BAD_SIZE S.size ≡ fine
    grid : BAD_GRID S.size g ≡ fine
    types : types_verdict S ≡ fine
    faces_named : BAD_OUTER outer ≡ fine
    cells : BAD_CELL S.types g ≡ fine
    slots : SHORT_SLOTS S.size B ≡ fine
    room : length fresh ≤ room S B

  opened : Opened
  opened =
      let v = then_fine (input_verdict S outer g B) (NO_ROOM (room S B) (length fresh)) accepted in
      let a = then_fine (BAD_SIZE S.size) _ v.0 in
      let b = then_fine (BAD_GRID S.size g) _ a.1 in
      let c = then_fine (types_verdict S) _ b.1 in
      let d = then_fine (BAD_OUTER outer) _ c.1 in
      let f = then_fine (BAD_CELL S.types g) (SHORT_SLOTS S.size B) d.1 in
      record {
        size = a.0;
        grid = b.0;
        types = c.0;
        faces_named = d.0;
        cells = f.0;
        slots = f.1;
        room = ltb-false (room S B) (length fresh) (if_fine (ltb (room S B) (length fresh)) 14 0 v.1);
      }

  snd : Sound (world S)
  snd = sound S opened.size opened.types

  whole : length g ≡ cells S.size
  whole = eqb-true (length g) (cells S.size) (not_true _ (if_fine (not (eqb (length g) (cells S.size))) 2 0 opened.grid))

  fresh_is : (c : Bool) → fresh_mesh S outer g c ≡ mesh_by (world S) (drawn_by c) g
  fresh_is true = refl
  fresh_is false = refl

  none_beyond : (c : Bool) (n f : ℕ) → cells S.size ≤ n → drawn_by c n f ≡ false
  none_beyond true n f h = not_drawn (world S) snd outer g n f (omega (arith, whole))
  none_beyond false n f h = no_side (world S) snd g n f (omega (arith, whole))

  sides : (c f : ℕ) → f < 6 → at (key_of c f) fresh ≡ only (drawn_by culling c f) (words_in S (type_at g c) f c)
  sides = rw (fresh_is culling) (fresh_sides (world S) g (drawn_by culling) (none_beyond culling))

  pub fresh_sane : Sane (faces S) (span S) (room S B) fresh (length fresh)
  fresh_sane =
      record {
        fits = rw (fresh_is culling) (fits_fresh (world S) snd (span S) (words_sized S) (drawn_by culling) g);
        once = sides_once (world S) (drawn_by culling) g fresh sides;
        reached = omega arith;
        within = opened.room;
      }

  -- LAW: a fresh mesh of either algorithm, laid out, holds exactly the sides that the algorithm draws, once each, in order, with their words
  pub fresh_holds : let m = fresh_mesh S outer g culling in
      Holds (world S) (cond culling (drawn (world S) outer g) (all_sides (world S) g)) g (decode S.types.coloured (length m) (layout (faces S) S.types.coloured (length m) m B))
  fresh_holds =
      let small = (limits S opened.size).small in
      subst (Holds (world S) (drawn_by culling) g) (sym (decode_layout (faces S) S.types.coloured (length fresh) (omega arith) fresh B fresh_sane.fits))
      (record { sides = sides; order = rw (fresh_is culling) (fresh_order (world S) (drawn_by culling) g) })

  -- LAW: and passes 9 to 12
  pub fresh_lent : let m = fresh_mesh S outer g culling in lent_verdict S (layout (faces S) S.types.coloured (length m) m B) (length m) ≡ fine
  fresh_lent = laid_lent S B (length fresh) fresh opened.size opened.slots fresh_sane

-- ---- DEMAND 3: every culled fresh mesh passes for its own outer list
pub fresh_accepted : (S : Scene) (outer g : List ℕ) (B : Lists) → (mesh_grid S outer g true B).answer.number ≡ 0
    → check_mesh S outer g (mesh_grid S outer g true B).lists (mesh_grid S outer g true B).answer.quads ≡ answered 0 0
fresh_accepted S outer g B e = go (mesh_verdict S outer g true B) refl e
  where
    passes : mesh_verdict S outer g true B ≡ fine → check_verdict S outer g (layout (faces S) S.types.coloured (length (culled (world S) outer g)) (culled (world S) outer g) B) (length (culled (world S) outer g)) ≡ fine
    passes v =
        let o = opened S outer g true B v in
        laid_accepted S B (length (culled (world S) outer g)) (culled (world S) outer g) o.size o.slots (fresh_sane S outer g true B v) outer g
        o.grid o.types o.faces_named o.cells (fresh_shows (world S) (snd S outer g true B v) outer g (whole S outer g true B v))

    go : (v : Verdict) → mesh_verdict S outer g true B ≡ v → (meshed_by v S (culled (world S) outer g) B).answer.number ≡ 0
        → check_mesh S outer g (meshed_by v S (culled (world S) outer g) B).lists (meshed_by v S (culled (world S) outer g) B).answer.quads ≡ answered 0 0
    go fine v e = ap check_by (passes v)
    go (refuse n p) v e = absurd (refused_not_zero n p v e)
      where
        refused_not_zero : (n p : ℕ) → mesh_verdict S outer g true B ≡ refuse n p → n ≡ 0 → ⊥
        refused_not_zero n p v e =
            let f = zero_fine MESH refl (mesh_verdict S outer g true B) (mesh_numbers S outer g true B) (ap (λ (x : Verdict). (check_by x).number) v ∙ e) in
            let z : ◌≡◌ {A = ℕ} 0 1 = cc in omega arith

-- ---- DEMAND 3, second half: a mended mesh passes

-- codes of the grid stay types
codes_after : (S : Scene) (g : List ℕ) (e : Entry) (k : Change) → e.type < length S.types.kinds → TrueBy (world S) g e k
    → ((c : ℕ) → c < length g → get_or g c 0 < length S.types.kinds)
    → (c : ℕ) → c < length (grid_by (world S) g e k) → get_or (grid_by (world S) g e k) c 0 < length S.types.kinds
codes_after S g e k listed h codes c l = go k h l
  where
    on : (t : ℕ) → t < length S.types.kinds → c < length (set g e.cell t) → get_or (set g e.cell t) c 0 < length S.types.kinds
    on t ht l = at_cell (ℕ_discrete c e.cell)
      where
        n : length (set g e.cell t) ≡ length g
        n = length-set g e.cell t

        at_cell : Dec (c ≡ e.cell) → get_or (set g e.cell t) c 0 < length S.types.kinds
        at_cell (yes q) = rw (q, get_or-set_same g e.cell t 0 (omega (arith, n))) ht
        at_cell (no d) = rw (get_or-set_other g e.cell c t 0 d) (codes c (omega (arith, n)))

    go : (k : Change) → TrueBy (world S) g e k → c < length (grid_by (world S) g e k) → get_or (grid_by (world S) g e k) c 0 < length S.types.kinds
    go Broken h l = on (empty_type (world S)) h.1 l
    go Added h l = on e.type listed l
    go Sides h l = absurd h
    go Replaced h l = on e.type listed l

codes_log : (S : Scene) (g : List ℕ) (es : List Entry) → All (λ e. e.type < length S.types.kinds) es → Honest (world S) g es
    → ((c : ℕ) → c < length g → get_or g c 0 < length S.types.kinds)
    → (c : ℕ) → c < length (grid_log (world S) es g) → get_or (grid_log (world S) es g) c 0 < length S.types.kinds
codes_log S g [] listed h codes = codes
codes_log S g (e ∷ es) listed h codes =
    codes_log S (grid_after (world S) g e) es listed.1 h.2 (codes_after S g e e.change listed.0 h.1 codes)

-- a lent mesh that passes 9 to 12 is one, in its room
module _ (S : Scene) (B : Lists) (Q : ℕ) (size_fine : BAD_SIZE S.size ≡ fine) (slots-fine : SHORT_SLOTS S.size B ≡ fine)
    (count-fine : BAD_COUNT (room S B) Q ≡ fine) (book-fine : book_verdict S B Q ≡ fine) where
  book : Book (cells S.size) B Q
  book = book_of_fine (cells S.size) B Q book-fine

  counted : Q ≤ room S B
  counted = ltb-false (room S B) Q (if_fine (ltb (room S B) Q) 10 0 count-fine)

  pub lent_sane : Sane (faces S) (span S) (room S B) (decode S.types.coloured Q B) Q
  lent_sane =
      record {
        fits = all_of (Fits (faces S) (span S)) (decode S.types.coloured Q B) blank fit;
        once = once_of_distinct (decode S.types.coloured Q B) (distinct_decode (cells S.size) B Q S.types.coloured apart);
        reached = omega (arith, length-decode (cells S.size) B Q S.types.coloured);
        within = counted;
      }
    where
      apart : (p q : ℕ) → p < q → q < Q → linked B p ≢ linked B q
      apart p q l h e =
          let x = book.named p (omega arith) in let y = book.named q h in
          let z = ap (λ (k : ℕ). get_or B.slots k 4294967295) e in omega arith

      fit : (q : ℕ) → q < length (decode S.types.coloured Q B) → Fits (faces S) (span S) (get_or (decode S.types.coloured Q B) q blank)
      fit q h =
          let l : q < Q = omega (arith, length-decode (cells S.size) B Q S.types.coloured) in
          let x = book.codes q l in let y = book.inside q l in
          let r = (room_for S B Q counted).vertices in (
            rw (key_decode (cells S.size) B Q S.types.coloured q l) (omega arith),
            rw (words_decode (cells S.size) B Q S.types.coloured q l)
                (length_quad S.types.coloured B.vertices q (lies S.types.coloured B.vertices Q r q l)),
          )

-- the entries of an accepted log: the grid has their cells, and the table their types
entry_known : (n types : ℕ) (log : List ℕ) → BAD_ENTRY n types log ≡ fine → (k : ℕ) → k < length log / ENTRY_BYTES
    → ((entry_at log k).cell < n) × ((entry_at log k).type < types)
unfolding BAD_ENTRY bad_entry entry_at
entry_known n types log e k h =
    let a = (then_fine (refuse_lowest 13 (length log / ENTRY_BYTES) (bad_entry n types log)) _ e).0 in
    let b = lowest_fine 13 (length log / ENTRY_BYTES) (bad_entry n types log) a k h in
    let at = ENTRY_BYTES * k in
    let named = leb 16777216 k || leb n (u32_at log at) || ltb 3 (get_or log (at + 4) 0) || leb types (get_or log (at + 5) 0) in
    let c = (or_false named _ (or_false (named || bad_bytes types log at) _ (or_false (named || bad_bytes types log at || bad_former types log at) _ b).0).0).0 in
    let d = or_false (leb 16777216 k || leb n (u32_at log at) || ltb 3 (get_or log (at + 4) 0)) (leb types (get_or log (at + 5) 0)) c in
    let f = (or_false (leb 16777216 k || leb n (u32_at log at)) (ltb 3 (get_or log (at + 4) 0)) d.0).0 in
    (leb-false n (u32_at log at) (or_false (leb 16777216 k) (leb n (u32_at log at)) f).1, leb-false types (get_or log (at + 5) 0) d.1)

pub entry_inside : (n types : ℕ) (log : List ℕ) → BAD_ENTRY n types log ≡ fine → (k : ℕ) → k < length log / ENTRY_BYTES → (entry_at log k).cell < n
entry_inside n types log e k h = (entry_known n types log e k h).0

pub entries_inside : (n types : ℕ) (log : List ℕ) → BAD_ENTRY n types log ≡ fine → All (λ e. e.cell < n) (entries_of log)
entries_inside n types log e =
    all_each (λ (x : Entry). x.cell < n) (length log / ENTRY_BYTES) 0 (λ k. entry_at log k ∷ []) (λ k a b. ((entry_known n types log e k (omega arith)).0, tt))

entries_listed : (n types : ℕ) (log : List ℕ) → BAD_ENTRY n types log ≡ fine → All (λ e. e.type < types) (entries_of log)
entries_listed n types log e =
    all_each (λ (x : Entry). x.type < types) (length log / ENTRY_BYTES) 0 (λ k. entry_at log k ∷ []) (λ k a b. ((entry_known n types log e k (omega arith)).1, tt))

-- ---- what a log leaves
module _ (tested : Tested) (S : Scene) (log : List ℕ) (B : Lists) (Q : ℕ) (accepted : update_verdict S log B Q ≡ fine) where
  abbrev ran : Course
  ran = course tested S log B Q

  -- what was asked, one by one
  pub record Asked : Type 0 where
    pub size : BAD_SIZE S.size ≡ fine
    pub types : types_verdict S ≡ fine
    pub slots : SHORT_SLOTS S.size B ≡ fine
    pub count : BAD_COUNT (room S B) Q ≡ fine
    pub book : book_verdict S B Q ≡ fine
    pub entries : BAD_ENTRY (cells S.size) (length S.types.kinds) log ≡ fine

  pub asked_of : Asked
  asked_of =
      let a = then_fine (BAD_SIZE S.size) _ accepted in
      let t = then_fine (types_verdict S) _ a.1 in
      let l = then_fine (lent_verdict S B Q) (BAD_ENTRY (cells S.size) (length S.types.kinds) log) t.1 in
      let s = then_fine (SHORT_SLOTS S.size B) _ l.0 in
      let c = then_fine (BAD_COUNT (room S B) Q) (book_verdict S B Q) s.1 in
      record { size = a.0; types = t.0; slots = s.0; count = c.0; book = c.1; entries = l.1 }

  pub ran_sane : Sane (faces S) (span S) (room S B) (course tested S log B Q).quads (course tested S log B Q).highest
  ran_sane =
      let a = asked_of in
      course_sane (faces S) (span S) (room S B) (λ k. work tested (world S) (entry_at log k)) 0 (length log / ENTRY_BYTES) (decode S.types.coloured Q B) 0 Q
      (λ j x y. fits_new (world S) (sound S a.size a.types) (span S) (words_sized S) tested (entry_at log j)
      (entry_inside (cells S.size) (length S.types.kinds) log a.entries j (omega arith)) (entry_at log j).change)
      (lent_sane S B Q a.size a.slots a.count a.book)

  -- LAW: whatever the log, what it leaves passes 9 to 12 again
  pub ran_lent : let c = course tested S log B Q in lent_verdict S (layout (faces S) S.types.coloured c.highest c.quads B) (length c.quads) ≡ fine
  ran_lent = laid_lent S B ran.highest ran.quads asked_of.size asked_of.slots ran_sane

-- LAW: so do lists and count after an update that tells 0 or 14
pub left_lent : (tested : Tested) (S : Scene) (log : List ℕ) (B : Lists) (Q : ℕ) → let o = update_mesh tested S log B Q in
    member o.answer.number (0 ∷ 14 ∷ []) ≡ true → lent_verdict S o.lists o.answer.quads ≡ fine
left_lent tested S log B Q = go (update_verdict S log B Q) refl (update_numbers S log B Q)
  where
    c : Course
    c = course tested S log B Q

    counted : (o : Option ℕ) → (course_answer c o).quads ≡ length c.quads
    counted none = refl
    counted (some k) = refl

    -- 0 and 14 are no refusal of what is lent
    neither : (n : ℕ) → member n UPDATE_FIRST ≡ true → member n (0 ∷ 14 ∷ []) ≡ false
    neither n h =
        both_ways (member n (0 ∷ 14 ∷ []))
        (λ t. split (λ b. eqb n 0 ≡ b → cond b true (cond (eqb n 14) true false) ≡ true → ⊥) (eqb n 0)
        (λ x e r. false≢true (ap (λ (i : ℕ). member i UPDATE_FIRST) (sym (eqb-true n 0 e)) ∙ h))
        (λ x e r. split (λ b. eqb n 14 ≡ b → cond b true false ≡ true → ⊥) (eqb n 14)
        (λ y f s. false≢true (ap (λ (i : ℕ). member i UPDATE_FIRST) (sym (eqb-true n 14 f)) ∙ h)) (λ y f s. false≢true s) refl r) refl t)

    go : (v : Verdict) → update_verdict S log B Q ≡ v → Within UPDATE_FIRST v → member (update_by v S c B).answer.number (0 ∷ 14 ∷ []) ≡ true
        → lent_verdict S (update_by v S c B).lists (update_by v S c B).answer.quads ≡ fine
    go fine t w h =
        ap (λ (q : ℕ). lent_verdict S (layout (faces S) S.types.coloured c.highest c.quads B) q) (counted c.full) ∙ ran_lent tested S log B Q t
    go (refuse n p) t (given k) h = absurd (false≢true (sym (neither n k) ∙ h))

-- LAW: a log that is not refused comes through
pub through : (tested : Tested) (S : Scene) (log : List ℕ) (B : Lists) (Q : ℕ) → (update_mesh tested S log B Q).answer.number ≡ 0
    → (update_verdict S log B Q ≡ fine) × ((course tested S log B Q).full ≡ none)
through tested S log B Q = by (update_verdict S log B Q) refl
  where
    c : Course
    c = course tested S log B Q

    none_of : (o : Option ℕ) → c.full ≡ o → (course_answer c o).number ≡ 0 → c.full ≡ none
    none_of none q e = q
    none_of (some k) q e = absurd (omega arith)

    by : (v : Verdict) → update_verdict S log B Q ≡ v → (update_by v S c B).answer.number ≡ 0 → (update_verdict S log B Q ≡ fine) × (c.full ≡ none)
    by fine v e = (v, none_of c.full refl e)
    by (refuse n p) v e =
        let f = zero_fine UPDATE_FIRST refl (update_verdict S log B Q) (update_numbers S log B Q) (ap (λ (x : Verdict). (check_by x).number) v ∙ e) in
        let z : ◌≡◌ {A = ℕ} 0 1 = cc in absurd (omega arith)

-- ---- a mesh that passes: what was asked of it, and what it shows
pub record Passed (S : Scene) (outer g : List ℕ) (B : Lists) (Q : ℕ) : Type 0 where
  pub size : BAD_SIZE S.size ≡ fine
  pub types : types_verdict S ≡ fine
  pub faces_named : BAD_OUTER outer ≡ fine
  pub whole : length g ≡ cells S.size
  pub codes : (c : ℕ) → c < length g → get_or g c 0 < length S.types.kinds
  pub shows : Shows (world S) outer g (decode S.types.coloured Q B)

pub passed : (S : Scene) (outer g : List ℕ) (B : Lists) (Q : ℕ) → check_verdict S outer g B Q ≡ fine → Passed S outer g B Q
passed S outer g B Q ec =
    let o = then_fine (open_verdict S outer g B Q) _ ec in
    let bf = then_fine (book_verdict S B Q) (face_verdict S outer g B Q) o.1 in
    let a = then_fine (BAD_SIZE S.size) _ (then_fine (input_verdict S outer g B) _ o.0).0 in
    let b = then_fine (BAD_GRID S.size g) _ a.1 in
    let t = then_fine (types_verdict S) _ b.1 in
    let d = then_fine (BAD_OUTER outer) _ t.1 in
    let f = then_fine (BAD_CELL S.types g) (SHORT_SLOTS S.size B) d.1 in
    let types = length S.types.kinds in
    let hg = eqb-true (length g) (cells S.size) (not_true _ (if_fine (not (eqb (length g) (cells S.size))) 2 0 b.0)) in
    let room-ok = ltb-false (length B.slots) (faces S) (if_fine (ltb (length B.slots) (faces S)) 9 0 f.1) in
    let right = right_of_fine (world S) outer g S.types.coloured B Q room-ok bf.0 bf.1 in
    record {
      size = a.0;
      types = t.0;
      faces_named = d.0;
      whole = hg;
      codes = λ c l. leb-false types (get_or g c 0) (lowest_fine 8 (length g) (λ c. leb types (get_or g c 0)) f.0 c l);
      shows = shows_of_right (world S) outer g S.types.coloured B Q room-ok (sound S a.0 t.0) hg right;
    }

module _ (tested : Tested) (S : Scene) (g log : List ℕ) (B : Lists) (Q : ℕ) where
  abbrev c : Course
  c = course tested S log B Q

  abbrev grid : List ℕ
  grid = grid_log (world S) (entries_of log) g

  mended : check_verdict S [] g B Q ≡ fine → Honest (world S) g (entries_of log) → Mends (world S) g (entries_of log)
      → AddsAlike tested (world S) (entries_of log) → update_verdict S log B Q ≡ fine → c.full ≡ none
      → check_verdict S [] grid (layout (faces S) S.types.coloured c.highest c.quads B) (length c.quads) ≡ fine
  mended ec ho me al eu fu =
      let u = asked_of tested S log B Q eu in
      let p = passed S [] g B Q ec in
      let types = length S.types.kinds in
      let lg = length_log (world S) g (entries_of log) in
      laid_accepted S B c.highest c.quads u.size u.slots (ran_sane tested S log B Q eu) [] grid
      (fine_if (not (eqb (length grid) (cells S.size))) 2 0 (rw (eq-eqb (length grid) (cells S.size) (lg ∙ p.whole))))
      u.types p.faces_named
      (fine_lowest 8 (length grid) (λ k. leb types (get_or grid k 0))
      (λ k l. lt-leb types (get_or grid k 0)
      (codes_log S g (entries_of log) (entries_listed (cells S.size) types log u.entries) ho p.codes k l)))
      (mends_log (world S) (sound S u.size u.types) tested (room S B) (entry_at log) 0 (length log / ENTRY_BYTES) g (decode S.types.coloured Q B) 0 Q p.whole p.shows
      (λ j x y. entry_inside (cells S.size) types log u.entries j (omega arith)) ho me al fu)

  -- if a mesh passes with no outer face named, it passes for the new grid after any unrefused, honest log of Added, Broken and Replaced alone
  -- that adds only to empty cells, and with cubes that cover the side tested as the side itself: in the new mode with any (`itself_alike`)
  pub mended_accepted : (check_mesh S [] g B Q).number ≡ 0 → Honest (world S) g (entries_of log) → Mends (world S) g (entries_of log)
      → AddsAlike tested (world S) (entries_of log) → (update_mesh tested S log B Q).answer.number ≡ 0
      → check_mesh S [] (grid_log (world S) (entries_of log) g) (update_mesh tested S log B Q).lists (update_mesh tested S log B Q).answer.quads
      ≡ answered 0 0
  mended_accepted ec ho me al eu =
      let t = through tested S log B Q eu in
      let m = mended (accepted S [] g B Q ec) ho me al t.0 t.1 in
      rw (t.0, t.1) (ap check_by m)
