-- What a verdict that refuses nothing says of the input. Assumes nothing.
use Rattle.std.proofs.Common.{◌≡◌, ℕ, ◌*◌, ◌^◌, ◌<◌, true, ◌&&◌, T, ltb, leb, List, length, get_or, sym, subst, arith, ltb-false, eq-eqb, eqb-true, leb-false}
use lib.Ieee.Fits.{and_l, and_r}
use borrow.Author.Tests.{not-false}
use Rattle.rules.specs.Cells.{cells}
use Rattle.rules.specs.Floats.{finite3}
use Rattle.rules.specs.Mesh.{position, of_positions, Lists}
use Rattle.rules.specs.Answers.{fine, refuse_if, refuse_lowest, bad_counts, bad_type, not_a_cube, BAD_SIZE, BAD_GRID, BAD_TYPES, BAD_NUMBER, NOT_A_CUBE, BAD_OUTER, BAD_CELL, SHORT_SLOTS, BAD_COUNT}
use Rattle.rules.specs.Calls.{Scene, room, types_verdict, input_verdict}
use Rattle.rules.proofs.ListLaws.{or_false, not_true}
use Rattle.rules.proofs.Checking.{then_fine, if_fine, lowest_fine}
use Rattle.rules.proofs.Demands.{Room, room_for}
use Rattle.util.specs.Grid.{Within}
use Rattle.util.proofs.Limits.{within}
use Rattle.types.proofs.Known.{counted}
use Rattle.lent.specs.Scenes.{Typed, Admitted, Lent}

pub sized : (S : Scene) → BAD_SIZE S.size ≡ fine → Within S.size
sized S e = within S.size (if_fine _ 2 0 e)

pub typed : (S : Scene) → types_verdict S ≡ fine → Typed S
unfolding BAD_TYPES BAD_NUMBER bad_type not_a_cube
typed S e =
    let types = S.types in
    let n = length types.kinds in
    let a = then_fine (BAD_TYPES types) _ e in
    let b = then_fine (BAD_NUMBER S.d S.centre 0) (NOT_A_CUBE types S.centre) a.1 in
    let counts = then_fine (refuse_if (bad_counts types) 3 255) (refuse_lowest 3 n (bad_type types)) a.0 in
    let c = counted types (if_fine _ 3 255 counts.0) in
    let each = lowest_fine 3 n (bad_type types) counts.1 in
    let numbers : T (finite3 S.d && finite3 S.centre && true) =
    subst T (sym (not-false (finite3 S.d && finite3 S.centre && true) (if_fine _ 4 0 b.0))) tt in
    let both = and_l (finite3 S.d && finite3 S.centre) true numbers in
    record {
      covered = c.0;
      counted = c.1;
      kind = λ t h. ltb-false 2 (get_or types.kinds t 0) (or_false _ (ltb 63 (get_or types.covers t 0)) (each t h)).0;
      set = λ t h. ltb-false 63 (get_or types.covers t 0) (or_false (ltb 2 (get_or types.kinds t 0)) _ (each t h)).1;
      d = and_l (finite3 S.d) (finite3 S.centre) both;
      centre = and_r (finite3 S.d) (finite3 S.centre) both;
      cube = λ t h k. not_true _ (rw (eq-eqb (get_or types.kinds t 0) 1 k) at (lowest_fine 6 n (not_a_cube types S.centre) b.1 t h));
    }

pub admitted : (S : Scene) (outer g : List ℕ) (B : Lists) → input_verdict S outer g B ≡ fine → Admitted S outer g B
admitted S outer g B e =
    let a = then_fine (BAD_SIZE S.size) _ e in
    let b = then_fine (BAD_GRID S.size g) _ a.1 in
    let c = then_fine (types_verdict S) _ b.1 in
    let d = then_fine (BAD_OUTER outer) _ c.1 in
    let f = then_fine (BAD_CELL S.types g) (SHORT_SLOTS S.size B) d.1 in
    record {
      within = sized S a.0;
      whole = eqb-true (length g) (cells S.size) (not_true _ (if_fine _ 2 0 b.0));
      typed = typed S c.0;
      face = λ i h. ltb-false 5 (get_or outer i 0) (lowest_fine 7 (length outer) (λ i. ltb 5 (get_or outer i 0)) d.0 i h);
      type = λ k h. leb-false _ _ (lowest_fine 8 (length g) (λ c. leb (length S.types.kinds) (get_or g c 0)) f.0 k h);
      slotted = ltb-false _ (6 * cells S.size) (if_fine _ 9 0 f.1);
    }

-- a count that is within the room
pub lent : (S : Scene) (B : Lists) (Q : ℕ) → Within S.size → length B.vertices.positions < 2 ^ 64 → SHORT_SLOTS S.size B ≡ fine
    → BAD_COUNT (room S B) Q ≡ fine → Lent (cells S.size) B.links B.slots Q × Room S B Q
lent S B Q w fits short count =
    let r : Room S B Q = room_for S B Q (ltb-false (room S B) Q (if_fine _ 10 0 count)) in
    let least = r.vertices position B.vertices.positions of_positions in (
      record {
        few = w.most;
        slotted = ltb-false _ (6 * cells S.size) (if_fine _ 9 0 short);
        linked = r.links;
        fits = omega arith;
      },
      r,
    )
