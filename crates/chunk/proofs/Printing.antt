-- Laws of what is printed: the quads that an update leaves are few and of faces, and their lines have room. Assumes nothing.
use mathlib.Core.Path.{◌≡◌, refl, sym, ap, ◌∙◌}
use mathlib.Core.Logic.{◌≢◌}
use mathlib.Core.Bool.{Bool, true, false}
use mathlib.Core.List.{List, [], ◌∷◌}
use mathlib.Core.Option.{Option, none, some}
use Prim.Native.Nat.{ℕ, zero, suc, ◌/◌, ◌≤◌, ◌<◌}
use native.Mathlib.Omega.{arith}
use lib.ListN.{length, take}
use lib.Seq.{get_or-take, length-take-le}
use lib.Dec.{eqb, ltb}
use borrow.Author.Tests.{ltb-false}
use Rattle.rules.specs.Cells.{cells, link_of}
use Rattle.rules.specs.Mesh.{Quad, Lists, decode, layout}
use Rattle.rules.specs.Update.{ENTRY_BYTES, source, Course, entry_at, work, blank}
use Rattle.rules.specs.Answers.{Verdict, fine, refuse, BAD_SIZE, SHORT_SLOTS, BAD_COUNT, BAD_ENTRY, NO_ROOM}
use Rattle.rules.specs.Calls.{Answer, answered, refused, Scene, Outcome, world, span, faces, room, types_verdict, fresh_mesh, input_verdict, mesh_verdict, meshed_by, mesh_grid, lent_verdict, book_verdict, update_verdict, course, course_answer, update_by, update_mesh}
use Rattle.rules.specs.Program as rules
use Rattle.rules.specs.Program.{word, grid_in, log_in, update_after, mesh_lines, refused_line, lines_of, bad_file, type_count, build_from, built_lines, printed}
use Rattle.rules.proofs.ListLaws.{all_at, all_of}
use Rattle.rules.proofs.Laying.{Fits, Sized, key_at, link_inside, length-laid, links_at, decode_layout, length-links}
use Rattle.rules.proofs.Checking.{then_fine, if_fine}
use Rattle.rules.proofs.Courses.{Sane, course_sane, fits_new}
use Rattle.rules.proofs.Demands.{words_sized, limits, sound, room_for, lent_sane, entry_inside}
use Rattle.rules.proofs.Refusals.{Within, UPDATE_FIRST, update_numbers, zero_fine}
use Rattle.lines.specs.Written.{OfFaces, quads_of}
use Rattle.lines.proofs.Writing.{room_as}
use Rattle.lines.proofs.Lining.{lines_decoded, lines_room}
use Rattle.std.specs.Prelude.{Result, Ok, Err, IfOk}
use Rattle.terms.specs.declared.Count.{Count}
use Rattle.update.specs.declared.Stopped.{Stopped}
use Rattle.update.specs.Outcome.{answer_of, outcome_of}
use Rattle.working.specs.Steps.{worked_on}
use Rattle.working.proofs.Cubing.{some_number}
use Rattle.chunk.specs.Steps.{lines_by, lines_with, Shown}

-- ---- an update that is not refused
module _ (S : Scene) (log : List ℕ) (B : Lists) (Q : ℕ) where
  abbrev c : Course
  c = course source S log B Q

  fine_of_zero : (v : Verdict) → Within UPDATE_FIRST v → (update_by v S c B).answer.number ≡ 0 → v ≡ fine
  fine_of_zero fine w e = refl
  fine_of_zero (refuse n p) w e = zero_fine UPDATE_FIRST refl (refuse n p) w e

  accepted : (update_mesh source S log B Q).answer.number ≡ 0 → update_verdict S log B Q ≡ fine
  accepted e = fine_of_zero (update_verdict S log B Q) (update_numbers S log B Q) e

  module _ (eu : update_verdict S log B Q ≡ fine) where
    size_fine : BAD_SIZE S.size ≡ fine
    size_fine = (then_fine (BAD_SIZE S.size) _ eu).0

    -- the mesh that it leaves is one, in its room
    sane : Sane (faces S) (span S) (room S B) c.quads c.highest
    sane =
        let u = (then_fine (BAD_SIZE S.size) _ eu).1 in
        let t = then_fine (types_verdict S) _ u in
        let l = then_fine (lent_verdict S B Q) (BAD_ENTRY (cells S.size) (length S.types.kinds) log) t.1 in
        let s = then_fine (SHORT_SLOTS S.size B) _ l.0 in
        let n = then_fine (BAD_COUNT (room S B) Q) (book_verdict S B Q) s.1 in
        course_sane (faces S) (span S) (room S B) (λ k. work source (world S) (entry_at log k)) 0 (length log / ENTRY_BYTES) (decode S.types.coloured Q B) 0 Q
        (λ j x y. fits_new (world S) (sound S size_fine t.0) (span S) (words_sized S) source (entry_at log j)
        (entry_inside (cells S.size) (length S.types.kinds) log l.1 j (omega arith)) (entry_at log j).change)
        (lent_sane S B Q size_fine s.0 n.0 n.1)

    few : faces S ≤ 3221225472
    few = let l = (limits S size_fine).small in omega arith

    counted : (o : Option ℕ) → (course_answer c o).quads ≡ length c.quads
    counted none = refl
    counted (some k) = refl

    quads_are : (update_mesh source S log B Q).answer.quads ≡ length c.quads
    quads_are = ap (λ (v : Verdict). (update_by v S c B).answer.quads) eu ∙ counted c.full

    lists_are : (update_mesh source S log B Q).lists ≡ layout (faces S) S.types.coloured c.highest c.quads B
    lists_are = ap (λ (v : Verdict). (update_by v S c B).lists) eu

    inside : c.highest ≤ length B.links
    inside = (room_for S B c.highest sane.within).links

    module _ (small : cells S.size ≤ 512) (held : length B.links ≡ 128) (moved : ℕ) (out : List ℕ)
        (long : 1317 ≤ length out) where
      abbrev m : List Quad
      m = c.quads

      abbrev after : Lists
      after = layout (faces S) S.types.coloured c.highest m B

      links_long : length after.links ≡ 128
      links_long = length-links (faces S) (span S) c.highest m B.links sane.fits sane.reached inside ∙ held

      most : length m ≤ 128
      most = omega (arith, sane.reached, inside)

      keyed : (q : ℕ) → q < length m → key_at m q < faces S
      keyed q h = (all_at (Fits (faces S) (span S)) m q blank sane.fits h).0

      of_faces : OfFaces (take (length m) after.links)
      of_faces i h =
          let l : i < length m = omega (arith, length-take-le (length m) after.links (omega (arith, links_long, most))) in
          rw (get_or-take (length m) after.links i 0 l, links_at (faces S) (span S) c.highest m B.links sane.fits i l)
          (link_inside (key_at m i) (cells S.size) (omega (arith, keyed i l, few)) (keyed i l)).0

      same_lines : mesh_lines (answered (length m) moved) (quads_of (take (length m) after.links)) ≡ mesh_lines (answered (length m) moved) m
      same_lines =
          sym (lines_decoded (answered (length m) moved) S.types.coloured (length m) after (omega (arith, links_long, most)))
          ∙ ap (mesh_lines (answered (length m) moved)) (decode_layout (faces S) S.types.coloured c.highest few m B sane.fits)

      laid_shown : Shown (length m) moved after.links out
      laid_shown =
          record {
            most = omega (arith, links_long, most);
            faces = of_faces;
            room =
                room_as same_lines
                (lines_room (answered (length m) moved) m most
                (all_of (λ q. q.key < 6000) m blank (λ q h. let k = keyed q h in omega arith)) (omega (arith, most)) long);
          }

      shown : {quads : ℕ} {links : List ℕ} → quads ≡ (update_mesh source S log B Q).answer.quads → links ≡ (update_mesh source S log B Q).lists.links
          → Shown quads moved links out
      shown {quads} {links} p q =
          let e : quads ≡ length m = p ∙ quads_are in
          let l : links ≡ after.links = q ∙ ap (λ (L : Lists). L.links) lists_are in
          rw (e, l) laid_shown

-- ---- a mesh leaves as many links as there were
module _ (S : Scene) (outer g : List ℕ) (culling : Bool) (B : Lists) where
  abbrev fresh : List Quad
  fresh = fresh_mesh S outer g culling

  one_word : (m : List Quad) → Sized 1 (λ q x. link_of x.key ∷ []) m
  one_word [] = tt
  one_word (x ∷ m) = (λ i. refl, one_word m)

  has_room : mesh_verdict S outer g culling B ≡ fine → length fresh ≤ length B.links
  has_room v =
      let f = (then_fine (input_verdict S outer g B) (NO_ROOM (room S B) (length fresh)) v).1 in
      (room_for S B (length fresh) (ltb-false (room S B) (length fresh) (if_fine (ltb (room S B) (length fresh)) 14 0 f))).links

  meshed_links : length (mesh_grid S outer g culling B).lists.links ≡ length B.links
  meshed_links = go (mesh_verdict S outer g culling B) refl
    where
      go : (v : Verdict) → mesh_verdict S outer g culling B ≡ v → length (meshed_by v S fresh B).lists.links ≡ length B.links
      go fine e =
          length-laid 1 (λ q x. link_of x.key ∷ []) (length fresh) fresh B.links (one_word fresh) (omega arith) (omega (arith, has_room e))
      go (refuse n p) e = refl

-- ---- the mesh, then the update

module _ (file : List ℕ) (S : Scene) (outer : List ℕ) (B : Lists) (a : Answer) (L : Lists) (told : record { answer = a; lists = L } ≡ worked_on file S outer B) where
  abbrev o : Outcome
  o = mesh_grid S outer (grid_in file) (eqb (word file 9) 1) B

  pub worked_shown : (out : List ℕ) → cells S.size ≤ 512 → length B.links ≡ 128 → 1317 ≤ length out
      → a.number ≡ 0 → Shown a.quads a.moved L.links out
  worked_shown out small held long e = go o.answer.number refl told
    where
      go : (k : ℕ) → o.answer.number ≡ k → record { answer = a; lists = L } ≡ update_after S (log_in file) o k → Shown a.quads a.moved L.links out
      go zero n t =
          shown S (log_in file) o.lists o.answer.quads
          (accepted S (log_in file) o.lists o.answer.quads (ap (λ (x : Outcome). x.answer.number) (sym t) ∙ e))
          small (meshed_links S outer (grid_in file) (eqb (word file 9) 1) B ∙ held) a.moved out long
          (ap (λ (x : Outcome). x.answer.quads) t) (ap (λ (x : Outcome). x.lists.links) t)
      go (suc k) n t = absurd (omega (arith, ap (λ (x : Outcome). x.answer.number) t))

  pub worked_lines : (a.number ≡ 0 → a.quads ≤ length L.links) → lines_with a L.links ≡ lines_of S (worked_on file S outer B)
  worked_lines h = go a.number refl ∙ ap (lines_of S) told
    where
      go : (k : ℕ) → a.number ≡ k → lines_by k a L.links ≡ rules.lines_by S (record { answer = a; lists = L }) k
      go zero e = sym (lines_decoded a S.types.coloured a.quads L (h e))
      go (suc k) e = refl

-- what is asked of an answer that is written
pub worked_fits : (file : List ℕ) (S : Scene) (outer : List ℕ) (B : Lists) (r : Result Count Stopped) (L : Lists) → outcome_of r L ≡ worked_on file S outer B
    → (out : List ℕ) → cells S.size ≤ 512 → length B.links ≡ 128 → 1317 ≤ length out → IfOk r (λ count. Shown count.quads count.moved L.links out)
worked_fits file S outer B (Ok count) L told out small held long = worked_shown file S outer B (answer_of (Ok count)) L told out small held long refl
worked_fits file S outer B (Err s) L told out small held long = tt

pub worked_written : (file : List ℕ) (S : Scene) (outer : List ℕ) (B : Lists) (r : Result Count Stopped) (L : Lists) → outcome_of r L ≡ worked_on file S outer B
    → (out : List ℕ) → IfOk r (λ count. Shown count.quads count.moved L.links out) → lines_with (answer_of r) L.links ≡ lines_of S (worked_on file S outer B)
worked_written file S outer B (Ok count) L told out s = worked_lines file S outer B (answer_of (Ok count)) L told (λ e. s.most)
worked_written file S outer B (Err s) L told out h =
    worked_lines file S outer B (answer_of (Err s)) L told (λ e. absurd (some_number s.refused.why e))

-- ---- what is written of an answer

pub refused_lines : (a : Answer) (links : List ℕ) → a.number ≢ 0 → refused_line (refused a.number a.place) ≡ lines_with a links
refused_lines a links h = go a.number h
  where
    go : (k : ℕ) → k ≢ 0 → refused_line a ≡ lines_by k a links
    go zero h = absurd (h refl)
    go (suc k) h = refl

pub mesh_lines_lem : (a : Answer) (links : List ℕ) → a.number ≡ 0
    → mesh_lines (answered a.quads a.moved) (quads_of (take a.quads links)) ≡ lines_with a links
mesh_lines_lem a links e = ap (λ (k : ℕ). lines_by k a links) (sym e)

-- ---- the whole file

pub bad_printed : (file : List ℕ) → bad_file file ≡ true → refused_line (refused 1 0) ≡ printed file
unfolding printed
bad_printed file e = rw e

pub good_printed : (file : List ℕ) → bad_file file ≡ false → built_lines file (build_from file 0 (type_count file) []) ≡ printed file
unfolding printed
good_printed file e = rw e
