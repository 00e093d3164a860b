-- The whole of an update: the triangles by their counts, what an accepted log starts from, and what it leaves. Assumes nothing.
use mathlib.Core.Path.{◌≡◌, refl, sym, ap, ◌∙◌}
use mathlib.Core.Logic.{⊎_elim}
use mathlib.Core.Bool.{true≢false}
use mathlib.Core.List.{List, [], ◌∷◌, ◌++◌, append_assoc}
use mathlib.Core.Option.{Option}
use Prim.Native.Nat.{ℕ, suc, ◌+◌, ◌-◌, ◌*◌, ◌/◌, ◌^◌, ◌≤◌, ◌<◌}
use Rattle.std.specs.Prelude.{Result, Ok, Err}
use Rattle.std.specs.Result.{IsErrAnd}
use native.Mathlib.Omega.{arith}
use lib.ListN.{length, take, drop, length-append, length-replicate}
use lib.Seq.{take_at, drop-append-add, drop-drop}
use borrow.Author.Tests.{ltb-false}
use Rattle.rules.specs.Lists.{each, table}
use Rattle.rules.specs.Cells.{cells}
use Rattle.rules.specs.Mesh.{Quad, Lists, NONE, pattern, rows, laid, lists_of, decode, layout, slotted, slot_of}
use Rattle.rules.specs.Update.{ENTRY_BYTES, Tested, entry_at, work, Course}
use Rattle.rules.specs.Answers.{Verdict, fine, ◌then◌, bad_entry, BAD_LINKS, BAD_TRIANGLES, BAD_ENTRY}
use Rattle.rules.specs.Calls.{Scene, Answer, world, span, faces, room, update_verdict, course, course_answer, update_mesh}
use Rattle.rules.proofs.ListLaws.{length-table, each_split, all_kept}
use Rattle.rules.proofs.Checking.{then_fine, if_fine, lowest_fine, book_of_fine, length-decode}
use Rattle.rules.proofs.Courses.{Sane, course_past}
use Rattle.rules.proofs.Demands.{Room, limits, room_for, lent_sane, entry_inside, Asked, asked_of, ran_sane}
use Rattle.rules.proofs.Idle.{layout_stands}
use Rattle.answers.specs.declared.Refused.{Refused}
use Rattle.answers.specs.Verdicts.{verdict_of}
use Rattle.answers.proofs.Chains.{passes, then_assoc}
use Rattle.util.specs.Grid.{Within}
use Rattle.terms.specs.declared.Count.{Count}
use Rattle.terms.specs.Loans.{lists_lent}
use Rattle.lent.specs.Scenes.{Lent, Long, Typed}
use Rattle.lent.proofs.Admitted.{sized, typed, lent}
use Rattle.mesh_metadata.proofs.Slots.{order}
use Rattle.mesh_metadata.proofs.Meshes as meshes
use Rattle.vav.specs.Rows.{put, zeros}
use Rattle.drawing.proofs.Patterns.{length_patterns}
use Rattle.update.specs.declared.Stopped.{Stopped}
use Rattle.update.specs.Outcome.{told_verdict, stopped_by, outcome_of}
use Rattle.update.specs.Runs.{Ended, laid_out, ran_by, Logging, patterns_mended}

-- ---- the triangles by their counts
patterns_are : (i : ℕ) (m : List Quad) → rows (λ q x. pattern q) i m ≡ each (length m) i pattern
unfolding each
patterns_are i [] = refl
patterns_are i (x ∷ m) = ap (λ (r : List ℕ). pattern i ++ r) (patterns_are (suc i) m)

-- patterns up to a, and from there on up to b if it is more
up_to : (a b : ℕ) → each a 0 pattern ++ each (b - a) a pattern ≡ each (a + (b - a)) 0 pattern
up_to a b = ap (λ (k : ℕ). each a 0 pattern ++ each (b - a) k pattern) (omega arith) ∙ sym (each_split a (b - a) 0 pattern)

-- LAW: the triangles of a mesh, mended by its counts, are those of the mesh after
patterns_laid : (ts : List ℕ) (Q h : ℕ) (m m' : List Quad) → length m ≡ Q → ts ≡ laid 6 (λ q x. pattern q) Q m ts → length m' ≤ h → Q ≤ h
    → patterns_mended Q (length m') h ts ≡ laid 6 (λ q x. pattern q) h m' ts
unfolding laid patterns_mended put
patterns_laid ts Q h m m' len is low up =
    let a = length m' in
    let more = each (a - Q) Q pattern in
    let less = each (Q - a) a pattern in
    let rest = drop (6 * Q + length more) ts in
    let front = each a 0 pattern in
    let zs = zeros (6 * (h - a)) in
    let k = 6 * h - 6 * Q - length more in
    let l = length_patterns (a - Q) Q in
    let held : take (6 * Q) ts ≡ each Q 0 pattern =
    ap (take (6 * Q)) is ∙ take_at (rows (λ q x. pattern q) 0 m) _ (6 * Q) (ap length (patterns_are 0 m) ∙ omega (arith, length_patterns (length m) 0))
    ∙ patterns_are 0 m ∙ ap (λ (k : ℕ). each k 0 pattern) len in
    let drawn : put (6 * Q) more ts ≡ (front ++ less) ++ rest =
    ap (λ (r : List ℕ). r ++ (more ++ rest)) held ∙ sym (append_assoc (each Q 0 pattern) more rest)
    ∙ ap (λ (r : List ℕ). r ++ rest) (up_to Q a ∙ ap (λ (k : ℕ). each k 0 pattern) (omega arith) ∙ sym (up_to a Q)) in
    let e : 6 * a + length zs ≡ length (front ++ less) + k =
    rw (length-append front less) (omega (arith, length-replicate {A = ℕ} (6 * (h - a)) 0, length_patterns a 0, length_patterns (Q - a) a)) in
    let f : 6 * Q + length more + k ≡ 6 * h = omega arith in
    let kept = ap (take (6 * a)) (append_assoc front less rest) ∙ take_at front (less ++ rest) (6 * a) (omega (arith, length_patterns a 0)) ∙ sym (patterns_are 0 m') in
    let past = ap (λ (n : ℕ). drop n ((front ++ less) ++ rest)) e ∙ drop-append-add (front ++ less) rest k ∙ drop-drop k (6 * Q + length more) ts ∙ ap (λ (n : ℕ). drop n ts) f in
    ap (put (6 * a) zs) drawn ∙ (λ i. kept i ++ (zs ++ past i))

-- the lists are as long as they are
pub as_long : (p n u c t l s : List ℕ) → Long (lists_lent p n u c t l s)
    (record { positions = length p; normals = length n; uvs = length u; colours = length c; triangles = length t; links = length l; slots = length s })
as_long p n u c t l s = record { positions = refl; normals = refl; uvs = refl; colours = refl; triangles = refl; links = refl; slots = refl }

-- ---- the tests, one after the other

-- those of the call, in the order in which it makes them
pub asked : (S : Scene) (log : List ℕ) (B : Lists) (Q : ℕ) → update_verdict S log B Q
    ≡ (told_verdict S B Q then (BAD_LINKS (cells S.size) B Q then (BAD_TRIANGLES B Q then BAD_ENTRY (cells S.size) (length S.types.kinds) log)))
asked S log B Q = simp then_assoc

-- after a test that passes the others are left, and one that refuses is the verdict
pub past : {w a b : Verdict} (x : Result Unit Refused) {u : Unit {0}} → w ≡ (a then b) → verdict_of x ≡ a → x ≡ Ok u → w ≡ b
unfolding ◌then◌
past x e is was = e ∙ rw (sym is, was)

pub halt : (b : Verdict) {w a : Verdict} (x : Result Unit Refused) {e : Refused} → w ≡ (a then b) → verdict_of x ≡ a → x ≡ Err e → w ≡ verdict_of x
unfolding ◌then◌
halt b x e is was = e ∙ rw (sym is, was)

-- LAW: what the call then answers is the rule's outcome
pub stopped : (tested : Tested) (S : Scene) (log : List ℕ) (B : Lists) (Q : ℕ) (r : Result Count Stopped) (x : Result Unit Refused) {e : Refused}
    → update_verdict S log B Q ≡ verdict_of x → x ≡ Err e → IsErrAnd r (λ y. y ≡ stopped_by e) → outcome_of r B ≡ update_mesh tested S log B Q
stopped tested S log B Q (Ok count) x v was out = absurd out
stopped tested S log B Q (Err s) x v was out = rw (v, was, out)

-- what is known once the first of them have passed
module _ (S : Scene) (B : Lists) (Q : ℕ) (passed : told_verdict S B Q ≡ fine) where
  pub told_within : Within S.size
  told_within = sized S (then_fine _ _ passed).0

  pub told_typed : Typed S
  told_typed = typed S (then_fine _ _ (then_fine _ _ passed).1).0

  pub told_lent : length B.vertices.positions < 2 ^ 64 → Lent (cells S.size) B.links B.slots Q × Room S B Q
  told_lent h = let l = then_fine _ _ (then_fine _ _ (then_fine _ _ passed).1).1 in lent S B Q told_within h l.0 l.1

-- what an accepted update starts from, with n slots lent and the room found
pub record Begun (tested : Tested) (S : Scene) (log : List ℕ) (B : Lists) (Q n R : ℕ) : Type 0 where
  pub accepted : update_verdict S log B Q ≡ fine
  pub lent : n ≡ faces S
  pub found : R ≡ room S B

-- where each test has passed
pub begun : (tested : Tested) (S : Scene) (log : List ℕ) (B : Lists) (Q : ℕ) {R N : ℕ} {t u v w : Unit {0}} {told linked patterned entered : Result Unit Refused}
    → N ≡ cells S.size → R ≡ room S B → verdict_of told ≡ told_verdict S B Q → told ≡ Ok t → verdict_of linked ≡ BAD_LINKS N B Q → linked ≡ Ok u
    → verdict_of patterned ≡ BAD_TRIANGLES B Q → patterned ≡ Ok v → verdict_of entered ≡ BAD_ENTRY N (length S.types.kinds) log → entered ≡ Ok w → Begun tested S log B Q (6 * N) R
begun tested S log B Q {told = told} {linked} {patterned} {entered} cell found a t b u c v d w =
    let one = past told (asked S log B Q) a t in
    let two = past linked one (b ∙ ap (λ (n : ℕ). BAD_LINKS n B Q) cell) u in
    let three = past patterned two c v in
    let four = passes entered _ w (d ∙ ap (λ (n : ℕ). BAD_ENTRY n (length S.types.kinds) log) cell) in
    record { accepted = three ∙ sym four; lent = ap (λ (n : ℕ). 6 * n) cell; found = found }

module _ {tested : Tested} {S : Scene} {log : List ℕ} {B : Lists} {Q n R : ℕ} (b : Begun tested S log B Q n R) where
  a : Asked tested S log B Q b.accepted
  a = asked_of tested S log B Q b.accepted

  slots_room : faces S ≤ length B.slots
  slots_room = ltb-false (length B.slots) (faces S) (if_fine _ 9 0 a.slots)

  pub lent_ends : n ≤ length B.slots
  lent_ends = rw b.lent slots_room

  abbrev m : List Quad
  m = decode S.types.coloured Q B

  sane : Sane (faces S) (span S) (room S B) m Q
  sane = lent_sane S B Q a.size a.slots a.count a.book

  stands : layout (faces S) S.types.coloured Q m B ≡ B
  stands = layout_stands (cells S.size) S.types.coloured B Q slots_room (book_of_fine (cells S.size) B Q a.book) (room_for S B Q sane.within).links
      (room_for S B Q sane.within).vertices

  length-mesh : length m ≡ Q
  length-mesh = length-decode (cells S.size) B Q S.types.coloured

  few_entries : length log / ENTRY_BYTES ≤ 16777216
  unfolding BAD_ENTRY bad_entry
  few_entries =
      let bad = lowest_fine 13 (length log / ENTRY_BYTES) (bad_entry (cells S.size) (length S.types.kinds) log) (then_fine _ _ a.entries).0 in
      ⊎_elim (λ l. absurd (true≢false (bad 16777216 l))) (λ l. l) (order 16777216 (length log / ENTRY_BYTES))

  pub logging : Logging S R log B.vertices B.links (take n B.slots) Q
  unfolding slotted
  logging =
      let r = room_for S B (room S B) (omega arith) in
      rw (b.lent, b.found)
      (record {
        within = sized S a.size;
        typed = typed S a.types;
        inside = entry_inside (cells S.size) (length S.types.kinds) log a.entries;
        few = few_entries;
        rows = r.vertices;
        words = r.links;
        holds = record {
          sane = sane;
          count = sym length-mesh;
          vertices = ap (λ (b : Lists). b.vertices) (sym stands);
          links = ap (λ (b : Lists). b.links) (sym stands);
          slots = ap (λ (b : Lists). take (faces S) b.slots) (sym stands)
              ∙ take_at (table (faces S) (slot_of m)) (drop (faces S) B.slots) (faces S) (length-table (slot_of m) (faces S));
        };
      })

  -- ---- what the log leaves
  abbrev c : Course
  c = course tested S log B Q

  left : Sane (faces S) (span S) (room S B) c.quads c.highest
  left = ran_sane tested S log B Q b.accepted

  module _ {r : Ended} (e : r ≡ ran_by tested S R log B.vertices B.links Q) where
    rule : r ≡ laid_out S B.vertices B.links c
    rule = e ∙ ap (λ (x : ℕ). ran_by tested S x log B.vertices B.links Q) b.found

    pub mend_ready : (r.quads ≤ r.highest) × (6 * r.highest ≤ length B.triangles) × (4 * r.quads ≤ NONE)
    mend_ready =
        let few = meshes.few (faces S) c.quads left.once (all_kept (λ x f. f.0) c.quads left.fits) in
        rw rule (left.reached, (room_for S B c.highest left.within).triangles, omega (arith, (limits S a.size).small))

    -- LAW: the log's lists with the triangles mended, and the slots past the grid's put back, are the rule's outcome, where so is what is said
    pub ended_so : {o : Option ℕ} {ts : List ℕ} (says : ℕ → ℕ → Answer) → says (length c.quads) c.moved ≡ course_answer c o → r.full ≡ o
        → ts ≡ patterns_mended Q r.quads r.highest B.triangles
        → record { answer = says r.quads r.moved; lists = lists_of r.vertices ts r.links (r.slots ++ drop n B.slots) } ≡ update_mesh tested S log B Q
    unfolding slotted
    ended_so {o} {ts} says s f k =
        let past = course_past (room S B) (λ k. work tested (world S) (entry_at log k)) 0 (length log / ENTRY_BYTES) m 0 Q (omega (arith, length-mesh)) in
        let t = patterns_laid B.triangles Q c.highest m c.quads length-mesh (ap (λ (x : Lists). x.triangles) (sym stands)) left.reached past in
        let answers : says (length c.quads) c.moved ≡ course_answer c c.full = s ∙ ap (course_answer c) (sym f ∙ ap (λ (x : Ended). x.full) rule) in
        rw (k, rule, t, b.lent, b.accepted) (λ i. record { answer = answers i; lists = layout (faces S) S.types.coloured c.highest c.quads B })
