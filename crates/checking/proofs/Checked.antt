-- What each test that passes leaves for the next, and what each is in the rules. Assumes nothing.
use mathlib.Core.Path.{◌≡◌, sym, ◌∙◌, subst}
use mathlib.Core.Bool.{true}
use mathlib.Core.List.{List}
use Prim.Native.Nat.{ℕ, ◌*◌, ◌/◌, ◌%◌, ◌^◌, ◌<◌}
use native.Mathlib.Omega.{arith}
use lib.Dec.{T, ltb}
use lib.ListN.{length, get_or}
use borrow.Author.Tests.{le-ltb, eqb-true}
use Rattle.rules.specs.Lists.{every, lowest}
use Rattle.rules.specs.Cells.{cells, code, code_in, cell_in}
use Rattle.rules.specs.Floats.{finite}
use Rattle.rules.specs.Types.{floats, cube_of, position_of, classed, is_cube}
use Rattle.rules.specs.Mesh.{Lists, type_at, is_normal_cube, drawn, decoded, decode}
use Rattle.rules.specs.Answers.{fine, refuse_if, BAD_COUNT, wrong_face, WRONG_SET, wrong_vertex, WRONG_VERTEX}
use Rattle.rules.specs.Check.{linked}
use Rattle.rules.specs.Calls as rules
use Rattle.rules.specs.Calls.{words_in, world, open_verdict, book_verdict, input_verdict}
use Rattle.rules.proofs.ListLaws.{and_true, within, lowest_cong}
use Rattle.rules.proofs.Checking.{then_fine, fine_if, lowest_fine, Book, book_of_fine, there_of}
use Rattle.rules.proofs.Attributes.{lies, quad_differs}
use Rattle.rules.proofs.Demands.{Room, words_sized}
use Rattle.types.specs.Tests.{Placed}
use Rattle.voxel_mesh.proofs.Shapes.{row_within}
use Rattle.types.proofs.Known.{placed}
use Rattle.lent.specs.Scenes.{Admitted, Lent}
use Rattle.culling.specs.Culling.{world_of}
use Rattle.lent.proofs.Admitted.{admitted, lent}
use Rattle.checking.specs.Faces.{wrong_slot}
use Rattle.comparing.specs.Quads.{other_quad, ComparableAll}
use Rattle.checking.proofs.Faces.{alike, face_slot}

-- ---- 2, 3, 4, 6 to 10 have passed

pub record Opened (S : rules.Scene) (outer g : List ℕ) (B : Lists) (Q : ℕ) : Type 0 where
  pub input : Admitted S outer g B
  pub room : Room S B Q
  pub lent : Lent (cells S.size) B.links B.slots Q

pub opened : (S : rules.Scene) (outer g : List ℕ) (B : Lists) (Q : ℕ) → length B.vertices.positions < 2 ^ 64 → open_verdict S outer g B Q ≡ fine
    → Opened S outer g B Q
opened S outer g B Q fits e =
    let t = then_fine (input_verdict S outer g B) (BAD_COUNT (rules.room S B) Q) e in
    let a = admitted S outer g B t.0 in
    let short = fine_if (ltb (length B.slots) (6 * cells S.size)) 9 0 (le-ltb (length B.slots) (6 * cells S.size) a.slotted) in
    let l = lent S B Q a.within fits short t.1 in
    record { input = a; room = l.1; lent = l.0 }

-- ---- 11 and 12 have passed

module _ (S : rules.Scene) (outer g : List ℕ) (B : Lists) (Q : ℕ) (o : Opened S outer g B Q) where
  module _ (passed : book_verdict S B Q ≡ fine) where
    book : Book (cells S.size) B Q
    book = book_of_fine (cells S.size) B Q passed

    -- WRONG-SET by slots is WRONG-SET
    pub faces_told : (r : ℕ) → r ≡ lowest (6 * cells S.size) (wrong_slot (world_of S.size S.types.kinds S.types.covers) outer g B.slots)
        → refuse_if (ltb r (6 * cells S.size)) 15 r ≡ WRONG_SET (world S) outer g (decode S.types.coloured Q B)
    faces_told r e =
        rw (e ∙ lowest_cong (6 * cells S.size) (wrong_slot (world_of S.size S.types.kinds S.types.covers) outer g B.slots) (wrong_face (world S) outer g (decode S.types.coloured Q B))
        (face_slot (cells S.size) S.types.coloured B Q o.input.slotted book (world S) outer g))

    -- the cell of a quad, and the stretch of its type
    abbrev cell : ℕ → ℕ
    cell q = cell_in (get_or B.links q 0)

    abbrev cube : ℕ → List ℕ
    cube q = cube_of S.types (type_at g (cell q))

    module _ (right : WRONG_SET (world S) outer g (decode S.types.coloured Q B) ≡ fine) where
      is_drawn : (q : ℕ) → q < Q → drawn (world S) outer g (linked B q / 6) (linked B q % 6) ≡ true
      unfolding wrong_face
      is_drawn q h =
          let x = book.codes q h in
          let y = book.inside q h in
          alike _ _ (lowest_fine 15 (6 * cells S.size) (wrong_face (world S) outer g (decode S.types.coloured Q B)) right (linked B q) (omega arith))
          ∙ there_of (cells S.size) B Q S.types.coloured q h

      is_cube_lem : (q : ℕ) → q < Q → is_cube (cube q) (floats S.types) S.centre ≡ true
      is_cube_lem q h =
          let a = o.input in
          let x = book.codes q h in
          let y = book.inside q h in
          let key : linked B q / 6 ≡ cell q = omega arith in
          let in_grid : cell q < length g = omega (arith, a.whole) in
          let type = rw (within g (cell q) 0 255 in_grid) at (a.type (cell q) in_grid) in
          let normal = (and_true (is_normal_cube (world S) (type_at g (linked B q / 6))) _ (is_drawn q h)).0 in
          a.typed.cube (type_at g (cell q)) type (eqb-true _ 1 (rw key at normal))

      is_placed : (q : ℕ) → q < Q → Placed (cube q) (floats S.types)
      unfolding is_cube
      is_placed q h =
          let positions = every 72 (λ k. finite (position_of (cube q) (floats S.types) (k / 3) (k % 3))) in
          placed (cube q) (floats S.types) (subst T (sym (and_true positions (every 6 (classed (cube q) (floats S.types) S.centre)) (is_cube_lem q h)).0) tt)

      -- LAW: a quad of a mesh with the right faces is linked to a cube
      pub comparable : ComparableAll S g B.vertices B.links Q
      comparable =
          let a = o.input in
          record {
            linking = record {
              within = a.within;
              whole = a.whole;
              stretch = λ c h. rw a.typed.counted.whole (row_within (24 * floats S.types) (get_or g c 0) (length S.types.kinds) (a.type c h));
              linked = o.room.links;
              code = book.codes;
              inside = book.inside;
              placed = is_placed;
            };
            room = o.room.vertices;
          }

    quad_told : (q : ℕ) → q < Q → other_quad S g B.vertices B.links q ≡ wrong_vertex (world S) g (decoded S.types.coloured B q)
    unfolding wrong_vertex
    quad_told q h =
        let x = book.codes q h in
        let key : linked B q / 6 ≡ cell q = omega arith in
        let face : linked B q % 6 ≡ code (code_in (get_or B.links q 0)) = omega arith in
        rw (key, face)
        (quad_differs S.types.coloured B.vertices q (lies S.types.coloured B.vertices Q o.room.vertices q h)
        (words_in S (type_at g (cell q)) (code (code_in (get_or B.links q 0))) (cell q)) (words_sized S (type_at g (cell q)) (code (code_in (get_or B.links q 0))) (cell q)))

    -- the comparison of quads is WRONG-VERTEX
    pub quads_told : (r : ℕ) → r ≡ lowest Q (other_quad S g B.vertices B.links)
        → refuse_if (ltb r Q) 16 r ≡ WRONG_VERTEX (world S) g (decoded S.types.coloured B) Q
    quads_told r e =
        rw (e ∙ lowest_cong Q (other_quad S g B.vertices B.links) (λ q. wrong_vertex (world S) g (decoded S.types.coloured B q)) quad_told)
