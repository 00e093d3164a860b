-- A log that does nothing changes nothing; and a lent mesh has no more quads than faces. Assumes nothing.
use mathlib.Core.Path.{◌≡◌, refl, sym, ap, ◌∙◌}
use mathlib.Core.Bool.{Bool, true, false, cond}
use mathlib.Core.List.{List, [], ◌∷◌, ◌++◌}
use mathlib.Core.Option.{none}
use Prim.Native.Nat.{ℕ, zero, suc, ◌+◌, ◌-◌, ◌*◌, ◌/◌, ◌≤◌, ◌<◌}
use native.Mathlib.Omega.{arith}
use native.Mathlib.Decide.{ℕ_discrete}
use lib.ListN.{length, get_or, take, drop, take-append-drop}
use lib.Seq.{take-add, drop-cons, drop-drop, get_or-take, length-take-le}
use borrow.Author.Tests.{ltb-false, le-leb}
use Rattle.rules.specs.Lists.{table, row}
use Rattle.rules.specs.Cells.{cells, first_vertex, link_of}
use Rattle.rules.specs.Cube.{floats_of}
use Rattle.rules.specs.Mesh.{Quad, Attribute, attribute_in, HasList, each_list, row_of, attribute_laid, Lists, NONE, there, place_of, rows, laid, slot_of, slotted, layout, pattern, decode}
use Rattle.rules.specs.Update.{ENTRY_BYTES, Tested, source, Work, nothing, ops, needed, work, entry_at, blank, course_from}
use Rattle.rules.specs.Answers.{fine, slot_at, SHORT_SLOTS, BAD_COUNT, BAD_SIZE, BAD_ENTRY}
use Rattle.rules.specs.Check.{linked}
use Rattle.rules.specs.Calls.{answered, Scene, world, faces, room, book_verdict, lent_verdict, types_verdict, update_verdict, update_mesh}
use Rattle.rules.proofs.Abacus.{scene, quads_in, above, below, with_above, null_unrefused, null_idle}
use Rattle.rules.proofs.ListLaws.{table_is, length-table}
use Rattle.rules.proofs.Attributes.{lies, each_list_lem, each_stays, attribute_quad}
use Rattle.rules.proofs.Laying.{link_of_key}
use Rattle.rules.proofs.Index.{full_le}
use Rattle.rules.proofs.Checking.{then_fine, if_fine, Book, book_of_fine, names_of, filled_named, length-decode, key_decode, words_decode, there_of, place_of_lem}
use Rattle.rules.proofs.Demands.{room_for}

-- ---- rows that stand as they are laid
rows_stand : (s : ℕ) (enc : ℕ → Quad → List ℕ) (old : List ℕ) (i : ℕ) (m : List Quad)
    → ((q : ℕ) → q < length m → row s old (i + q) ≡ enc (i + q) (get_or m q blank)) → rows enc i m ≡ take (s * length m) (drop (s * i) old)
rows_stand s enc old i [] h = let z : s * 0 ≡ 0 = omega arith in rw z
rows_stand s enc old i (x ∷ m) h =
    let z : s * suc (length m) ≡ s + s * length m = omega arith in
    let e : i + 0 ≡ i = omega arith in
    let n : s * i + s ≡ s * suc i = omega arith in
    let r : row s old i ≡ enc i x = rw e at (h 0 (omega arith)) in
    let t = rows_stand s enc old (suc i) m (λ q l. let k : suc i + q ≡ i + suc q = omega arith in rw k (h (suc q) (omega arith))) in
    rw (z, take-add s (s * length m) (drop (s * i) old), drop-drop s (s * i) old, n, r) (ap (λ (l : List ℕ). enc i x ++ l) t)

laid_stands : (s : ℕ) (enc : ℕ → Quad → List ℕ) (m : List Quad) (old : List ℕ)
    → ((q : ℕ) → q < length m → row s old q ≡ enc q (get_or m q blank)) → laid s enc (length m) m old ≡ old
unfolding laid
laid_stands s enc m old h =
    let z : s * (length m - length m) ≡ 0 = omega (arith, ap (λ (k : ℕ). s * k) zero_of) in
    let o : s * 0 ≡ 0 = omega arith in
    let r = rows_stand s enc old 0 m (λ q l. let e : 0 + q ≡ q = omega arith in rw e (h q l)) in
    rw (z, r, o) (take-append-drop (s * length m) old)
  where
    zero_of : length m - length m ≡ 0
    zero_of = omega arith

module _ (n : ℕ) (tint : Bool) (B : Lists) (Q : ℕ) (room : 6 * n ≤ length B.slots) (book : Book n B Q) where
  -- a slot says where its face is
  slot_is : (k : ℕ) → k < 6 * n → slot_at B k ≡ slot_of (decode tint Q B) k
  slot_is k h = go (there k (decode tint Q B)) refl
    where
      none_left : there k (decode tint Q B) ≡ false → Dec (slot_at B k ≡ NONE) → slot_at B k ≡ NONE
      none_left e (yes d) = d
      none_left e (no d) =
          let i = filled_named n B Q room book k h d in
          absurd (clash (sym (there_of n B Q tint i.0 i.1) ∙ rw i.3 e))
        where
          clash : true ≡ false → ⊥
          clash z = let y : ◌≡◌ {A = ℕ} 0 1 = cc in omega arith

      go : (t : Bool) → there k (decode tint Q B) ≡ t → slot_at B k ≡ cond t (first_vertex (place_of k (decode tint Q B))) NONE
      go true e = let i = place_of_lem n B Q tint k e in ap (slot_at B) (sym i.1) ∙ book.named (place_of k (decode tint Q B)) i.0
      go false e = none_left e (ℕ_discrete (slot_at B k) NONE)

  -- LAW: a lent mesh, read and laid out again, is what was lent
  pub layout_stands : Q ≤ length B.links → ((a : Attribute) (xs : List ℕ) → HasList tint B.vertices a xs → 4 * a.width * Q ≤ length xs)
      → layout (6 * n) tint Q (decode tint Q B) B ≡ B
  unfolding slotted
  layout_stands fit long = λ i. record { vertices = v i; triangles = t i; links = l i; slots = z i }
    where
      len : length (decode tint Q B) ≡ Q
      len = length-decode n B Q tint

      by_rows : (w : ℕ) (enc : ℕ → Quad → List ℕ) (old : List ℕ) → ((q : ℕ) → q < Q → row w old q ≡ enc q (get_or (decode tint Q B) q blank))
          → laid w enc Q (decode tint Q B) old ≡ old
      by_rows w enc old h =
          ap (λ (k : ℕ). laid w enc k (decode tint Q B) old) (sym len)
          ∙ laid_stands w enc (decode tint Q B) old (λ q b. h q (omega (arith, len)))

      one : (a : Attribute) (xs : List ℕ) → HasList tint B.vertices a xs → attribute_laid tint Q (decode tint Q B) a xs ≡ xs
      one a xs l =
          by_rows (4 * a.width) (λ q x. row_of tint a x) xs
          (λ q h. sym (ap (λ (w : List ℕ). attribute_in (floats_of tint) a 4 w) (words_decode n B Q tint q h)
          ∙ attribute_quad tint B.vertices q (lies tint B.vertices Q long q h) a xs l))

      v : each_list tint (attribute_laid tint Q (decode tint Q B)) B.vertices ≡ B.vertices
      v = each_list_lem tint B.vertices (attribute_laid tint Q (decode tint Q B)) (λ a xs. xs) one ∙ each_stays tint B.vertices

      t : laid 6 (λ q x. pattern q) Q (decode tint Q B) B.triangles ≡ B.triangles
      t = by_rows 6 (λ q x. pattern q) B.triangles book.triangles

      l : laid 1 (λ q x. link_of x.key ∷ []) Q (decode tint Q B) B.links ≡ B.links
      l =
          by_rows 1 (λ q x. link_of x.key ∷ []) B.links
          (λ q h. let e : 1 * q ≡ q = omega arith in
          rw (e, drop-cons B.links q 0 (omega arith), key_decode n B Q tint q h, link_of_key (get_or B.links q 0) (book.codes q h)))

      z : table (6 * n) (slot_of (decode tint Q B)) ++ drop (6 * n) B.slots ≡ B.slots
      z =
          ap (λ (x : List ℕ). x ++ drop (6 * n) B.slots)
          (table_is (slot_of (decode tint Q B)) (6 * n) (take (6 * n) B.slots) NONE (length-take-le (6 * n) B.slots room)
          (λ k h. get_or-take (6 * n) B.slots k NONE h ∙ slot_is k h))
          ∙ take-append-drop (6 * n) B.slots

  -- LAW: no more quads than six a cell
  pub few_quads : Q ≤ 6 * n
  few_quads =
      let l = length-table (linked B) Q in
      let f = full_le (table Q (linked B)) (6 * n) B.slots (names_of n B Q room book.codes book.inside book.named) in omega arith

-- ---- a log of entries that do nothing
idle_course : (room : ℕ) (work : ℕ → Work) (i k : ℕ) → ((j : ℕ) → i ≤ j → j < i + k → work j ≡ nothing) → (m : List Quad) (v p : ℕ) → length m ≤ room
    → course_from room work i k m v p ≡ record { full = none; quads = m; moved = v; highest = p }
unfolding course_from ops needed
idle_course room work i zero h m v p l = refl
idle_course room work i (suc k) h m v p l =
    let e : v + 0 ≡ v = omega arith in
    rw (h i (omega arith) (omega arith), le-leb (length m) room l)
    (idle_course room work (suc i) k (λ j a b. h j (omega arith) (omega arith)) m (v + 0) p l ∙ (λ i. record { full = none; quads = m; moved = e i; highest = p }))

-- LAW: where each entry does nothing, as Added of a kind that is no NormalCube does, nothing changes
pub idle : (tested : Tested) (S : Scene) (log : List ℕ) (B : Lists) (Q : ℕ) → update_verdict S log B Q ≡ fine
    → ((k : ℕ) → k < length log / ENTRY_BYTES → work tested (world S) (entry_at log k) ≡ nothing)
    → update_mesh tested S log B Q ≡ record { answer = answered Q 0; lists = B }
idle tested S log B Q v h =
    let a = (then_fine (BAD_SIZE S.size) _ v).1 in
    let b = (then_fine (types_verdict S) _ a).1 in
    let c = (then_fine (lent_verdict S B Q) (BAD_ENTRY (cells S.size) (length S.types.kinds) log) b).0 in
    let d = then_fine (SHORT_SLOTS S.size B) _ c in
    let e = then_fine (BAD_COUNT (room S B) Q) (book_verdict S B Q) d.1 in
    let slots = ltb-false (length B.slots) (faces S) (if_fine _ 9 0 d.0) in
    let counted = ltb-false (room S B) Q (if_fine _ 10 0 e.0) in
    let book = book_of_fine (cells S.size) B Q e.1 in
    let len = length-decode (cells S.size) B Q S.types.coloured in
    let stands = layout_stands (cells S.size) S.types.coloured B Q slots book (room_for S B Q counted).links (room_for S B Q counted).vertices in
    let run = idle_course (room S B) (λ k. work tested (world S) (entry_at log k)) 0 (length log / ENTRY_BYTES) (λ k a b. h k (omega arith)) (decode S.types.coloured Q B) 0 Q (omega arith) in
    rw (v, run) (λ i. record { answer = answered (len i) 0; lists = stands i })

-- ---- case 9 of 01, Added Null: number, place, Q, `moved` and the lists are as before
pub null_changes_nothing : with_above source 0 ≡ record { answer = answered (quads_in below) 0; lists = below.lists }
null_changes_nothing = idle source (scene 1 2 1) (above 0) below.lists (quads_in below) null_unrefused null_idle
