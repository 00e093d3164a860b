-- `meshem::mesh_grid` meets its contract: the refusals in their order, then row after row in each list. Assumes nothing.
use mathlib.Core.Path.{◌≡◌, refl, sym, ap, ◌∙◌, subst}
use mathlib.Core.Bool.{Bool}
use mathlib.Core.List.{List, ◌++◌}
use Prim.Native.Nat.{ℕ, ◌*◌, ◌≤◌}
use native.Mathlib.Omega.{arith}
use lib.Dec.{ltb}
use lib.ListN.{length, take, drop, replicate, length-append, length-drop, length-replicate}
use lib.Seq.{length-take-le}
use borrow.Author.Tests.{ltb-false}
use Rattle.std.specs.Prelude.{Result, Ok}
use Rattle.rules.specs.Lists.{member}
use Rattle.rules.specs.Cells.{cells}
use Rattle.rules.specs.Mesh.{Lists, NONE}
use Rattle.rules.specs.Answers.{refuse_if, NO_ROOM}
use Rattle.rules.specs.Calls.{Scene, faces, room, input_verdict}
use Rattle.rules.proofs.Checking.{if_fine}
use Rattle.rules.proofs.Demands.{room_for}
use Rattle.rules.proofs.Sets.{set_of_lt}
use Rattle.answers.specs.declared.Refused.{Refused}
use Rattle.answers.specs.Verdicts.{verdict_of}
use Rattle.answers.proofs.Chains.{goes, passes}
use Rattle.util.specs.Grid.{size_of}
use Rattle.util.proofs.Rows.{first}
use Rattle.terms.specs.Loans.{lists_lent}
use Rattle.terms.specs.Modes.{is_culling}
use Rattle.terms.specs.Scenes.{scene_of}
use Rattle.culling.specs.Culling.{world_of, outer_set}
use Rattle.culling.specs.declared.Ground.{Ground}
use Rattle.lent.specs.Scenes.{Admitted}
use Rattle.lent.proofs.Admitted.{admitted}
use Rattle.listing.specs.Fresh.{set_at, faces_of, RowOf, asked}
use Rattle.meshem.proofs.Begun.{Begun, few, quads_are, turn_of, in_grid, wide, keys_are, row_is, roomy, asked_is, listed_in, listed, listed_sides, listed_few, listed_room}
use Rattle.meshem.proofs.Drawn.{begun, row_more, found_asked, drawn_all}
use Rattle.meshem.proofs.Whole.{stopped, refused_so, done}
use Rattle.meshem.proofs.mesh_grid.Goals as goal

known : {S : Scene} {outer g : List ℕ} (B : Lists) {u : Unit {0}} (x : Result Unit Refused) → x ≡ Ok u → verdict_of x ≡ input_verdict S outer g B → Admitted S outer g B
known B x was k = admitted _ _ _ B (sym (passes x _ was k))

-- what is counted, and what a row's sets are, on the ground that is told
abbrev counted : Bool → ℕ → ℕ → Ground → Type 0
counted by set Q told = Q ≡ asked (set_at by (world_of (size_of told.dims) told.kinds.now told.covers.now) (faces_of set) told.grid.now) 0 (cells (size_of told.dims))

abbrev shown : Bool → ℕ → ℕ → List ℕ → Ground → Type 0
shown by set c list told = RowOf (set_at by (world_of (size_of told.dims) told.kinds.now told.covers.now) (faces_of set) told.grid.now) c told.dims.width list

-- once the quads have room
begun_of : {S : Scene} {outer g : List ℕ} {culling by : Bool} {set Q r : ℕ} (B : Lists) {u v : Unit {0}} (x y : Result Unit Refused) → x ≡ Ok u → verdict_of x ≡ input_verdict S outer g B
    → by ≡ culling → set ≡ outer_set outer → Q ≡ asked (set_at by (world_of S.size S.types.kinds S.types.covers) (faces_of set) g) 0 (cells S.size)
    → y ≡ Ok v → verdict_of y ≡ refuse_if (ltb r Q) 14 0 → r ≡ room S B → Begun S outer g B culling by set Q
begun_of {Q = Q} {r = r} B x y was k mode named_by counts rested l e =
    record {
      known = known B x was k;
      mode = mode;
      named_by = named_by;
      counted = counts;
      fits = omega (arith, e, ltb-false r Q (if_fine _ 14 0 (sym (passes y _ rested l))));
    }

-- slots that hold no quad
bare : (S : Scene) (B : Lists) (n : ℕ) (slots : List ℕ) → n ≡ cells S.size → 6 * n ≤ length B.slots → slots ≡ replicate (length (take (6 * n) B.slots)) NONE
    → slots ++ drop (6 * n) B.slots ≡ replicate (faces S) NONE ++ drop (faces S) B.slots
bare S B n slots e h k =
    ap (λ (r : List ℕ). r ++ drop (6 * n) B.slots) (k ∙ ap (λ (m : ℕ). replicate m NONE) (length-take-le (6 * n) B.slots h))
    ∙ ap (λ (m : ℕ). replicate (6 * m) NONE ++ drop (6 * m) B.slots) e

bare_long : (S : Scene) (B : Lists) (n : ℕ) (slots : List ℕ) → n ≡ cells S.size → 6 * cells S.size ≤ length B.slots → slots ≡ replicate (length (take (6 * n) B.slots)) NONE
    → length (slots ++ drop (6 * n) B.slots) ≡ length B.slots
bare_long S B n slots e h k = ap length (bare S B n slots e (omega arith) k) ∙ simp (length-append, length-drop, length-replicate) (omega arith)

pub returns-in_err-input_verdict : goal.returns-in_err-input_verdict
returns-in_err-input_verdict c =
    let a = c.args in
    let B = lists_lent a.positions.now a.normals.now a.uvs.now a.colours.now a.triangles.now a.links.now a.slots.now in
    refused_so _ _ _ _ B _ _ c.from_residual.ensures.1 (stopped _ _ _ c.in_err-input_verdict.was (c.input_verdict.ensures B refl))

pub sides_along-requires : goal.sides_along-requires
sides_along-requires c =
    let a = c.args in
    let B = lists_lent a.positions.now a.normals.now a.uvs.now a.colours.now a.triangles.now a.links.now a.slots.now in
    let w = (known B _ c.in_ok-input_verdict.was (c.input_verdict.ensures B refl)).within.sides.widest in
    (w, w)

pub outer_set-requires : goal.outer_set-requires
outer_set-requires c =
    let a = c.args in
    let B = lists_lent a.positions.now a.normals.now a.uvs.now a.colours.now a.triangles.now a.links.now a.slots.now in
    (known B _ c.in_ok-input_verdict.was (c.input_verdict.ensures B refl)).face

pub invariant_of-ground : goal.invariant_of-ground
invariant_of-ground c =
    let a = c.args in
    let B = lists_lent a.positions.now a.normals.now a.uvs.now a.colours.now a.triangles.now a.links.now a.slots.now in
    let k = known B _ c.in_ok-input_verdict.was (c.input_verdict.ensures B refl) in
    record {
      whole = record { within = k.within; whole = k.whole; typed = λ i l. rw k.typed.covered (k.type i l) };
      both = k.typed.covered;
    }

pub of-look-requires : goal.of-look-requires
of-look-requires c =
    let a = c.args in
    let B = lists_lent a.positions.now a.normals.now a.uvs.now a.colours.now a.triangles.now a.links.now a.slots.now in
    let k = known B _ c.in_ok-input_verdict.was (c.input_verdict.ensures B refl) in
    (k.typed.counted.few, c.sides_along.ensures, rw c.outer_set.ensures (set_of_lt (λ f. member f a.outer.now)))

pub returns-in_err-refuse_if : goal.returns-in_err-refuse_if
returns-in_err-refuse_if c =
    let a = c.args in
    let B = lists_lent a.positions.now a.normals.now a.uvs.now a.colours.now a.triangles.now a.links.now a.slots.now in
    let Q = subst (counted _ _ _) c.of-look.ensures.0 c.count_quads-quads.ensures
    ∙ found_asked (scene_of a.scene) a.outer.now a.grid.now (is_culling a.algorithm) _ _ c.is_culling-culling.ensures (c.of-look.ensures.1 ∙ c.outer_set.ensures) in
    refused_so _ _ _ _ B _ _ c.from_residual-in_err-refuse_if.ensures.1
    (goes _ _ c.in_ok-input_verdict.was (c.input_verdict.ensures B refl)
    (sym (ap verdict_of c.in_err-refuse_if.was) ∙ c.refuse_if.ensures ∙ (λ i. NO_ROOM (c.room_of-room.ensures B c.lengths_of-lengths.ensures i) (Q i))))

pub slice_bounds-new-end : goal.slice_bounds-new-end
slice_bounds-new-end c =
    let a = c.args in
    let B = lists_lent a.positions.now a.normals.now a.uvs.now a.colours.now a.triangles.now a.links.now a.slots.now in
    omega (arith, c.cell_count.ensures, (known B _ c.in_ok-input_verdict.was (c.input_verdict.ensures B refl)).slotted)

pub slice_bounds-new-end-2 : goal.slice_bounds-new-end-2
slice_bounds-new-end-2 c =
    let a = c.args in
    let B = lists_lent a.positions.now a.normals.now a.uvs.now a.colours.now a.triangles.now a.links.now a.slots.now in
    sym (length-take-le _ a.slots.now (omega (arith, c.cell_count.ensures, (known B _ c.in_ok-input_verdict.was (c.input_verdict.ensures B refl)).slotted)))

pub write_patterns-requires : goal.write_patterns-requires
write_patterns-requires c =
    let a = c.args in
    let B = lists_lent a.positions.now a.normals.now a.uvs.now a.colours.now a.triangles.now a.links.now a.slots.now in
    let b = begun_of B _ _ c.in_ok-input_verdict.was (c.input_verdict.ensures B refl) c.is_culling-culling.ensures (c.of-look.ensures.1 ∙ c.outer_set.ensures)
    (subst (counted _ _ _) c.of-look.ensures.0 c.count_quads-quads.ensures) c.in_ok-refuse_if.was c.refuse_if.ensures (c.room_of-room.ensures B c.lengths_of-lengths.ensures) in
    ((room_for (scene_of a.scene) B _ b.fits).triangles, omega (arith, few b))

pub loop-base-init : goal.loop-base-init
loop-base-init c =
    let a = c.args in
    let B = lists_lent a.positions.now a.normals.now a.uvs.now a.colours.now a.triangles.now a.links.now a.slots.now in
    record {
      begun = begun_of B _ _ c.in_ok-input_verdict.was (c.input_verdict.ensures B refl) c.is_culling-culling.ensures (c.of-look.ensures.1 ∙ c.outer_set.ensures)
          (subst (counted _ _ _) c.of-look.ensures.0 c.count_quads-quads.ensures) c.in_ok-refuse_if.was c.refuse_if.ensures (c.room_of-room.ensures B c.lengths_of-lengths.ensures);
      within = omega arith;
      at = first (size_of a.scene.dims);
      drawn = begun _ _ _ _ _ _;
      sets = omega (arith, c.count_quads-quads.auto.sets);
      sides = refl;
    }

pub index_row-n-requires : goal.index_row-n-requires
index_row-n-requires c =
    let l = c.loop-base in
    let i = l.invariant in
    let t = turn_of i.begun i.within i.at i.drawn.count c.loop-base-test.true (c.side_row.auto.sets ∙ i.sets) (subst (shown _ _ _ _) c.of-look.ensures.0 c.side_row.ensures) in
    let a = c.args in
    let B = lists_lent a.positions.now a.normals.now a.uvs.now a.colours.now a.triangles.now a.links.now a.slots.now in
    let slots = bare_long (scene_of a.scene) B _ _ c.cell_count.ensures i.begun.known.slotted c.new.ensures in
    (roomy t l.auto.links (l.auto.slots ∙ slots) i.sides, omega (arith, wide t, in_grid t, i.begun.known.whole), c.ranks-ranks.ensures)

pub slice_bounds-sides-end : goal.slice_bounds-sides-end
slice_bounds-sides-end c =
    let l = c.loop-base in
    let i = l.invariant in
    let t = turn_of i.begun i.within i.at i.drawn.count c.loop-base-test.true (c.side_row.auto.sets ∙ i.sets) (subst (shown _ _ _ _) c.of-look.ensures.0 c.side_row.ensures) in
    listed_in t c.index_row-n.ensures.0 i.sides c.index_row-n.ensures.1

pub slice_bounds-vertex_row-end : goal.slice_bounds-vertex_row-end
slice_bounds-vertex_row-end c =
    let l = c.loop-base in
    let i = l.invariant in
    let t = turn_of i.begun i.within i.at i.drawn.count c.loop-base-test.true (c.side_row.auto.sets ∙ i.sets) (subst (shown _ _ _ _) c.of-look.ensures.0 c.side_row.ensures) in
    sym (listed t c.index_row-n.ensures.0 i.sides c.index_row-n.ensures.1)

pub vertex_row-requires : goal.vertex_row-requires
vertex_row-requires c =
    let l = c.loop-base in
    let i = l.invariant in
    let t = turn_of i.begun i.within i.at i.drawn.count c.loop-base-test.true (c.side_row.auto.sets ∙ i.sets) (subst (shown _ _ _ _) c.of-look.ensures.0 c.side_row.ensures) in
    let n = c.index_row-n.ensures in (
      i.begun.known.within,
      t.starts,
      listed_sides t n.0 i.sides n.1,
      listed_room t n.0 i.sides n.1 (record { positions = l.auto.positions; normals = l.auto.normals; uvs = l.auto.uvs; colours = l.auto.colours }),
      omega (arith, listed_few t n.0 i.sides n.1),
    )

pub overflow_add-base : goal.overflow_add-base
overflow_add-base c =
    let l = c.loop-base in
    let i = l.invariant in
    let t = turn_of i.begun i.within i.at i.drawn.count c.loop-base-test.true (c.side_row.auto.sets ∙ i.sets) (subst (shown _ _ _ _) c.of-look.ensures.0 c.side_row.ensures) in
    let n = c.index_row-n.ensures in
    omega (arith, listed t n.0 i.sides n.1, listed_few t n.0 i.sides n.1)

pub loop-base-preserved : goal.loop-base-preserved
loop-base-preserved c =
    let l = c.loop-base in
    let i = l.invariant in
    let t = turn_of i.begun i.within i.at i.drawn.count c.loop-base-test.true (c.side_row.auto.sets ∙ i.sets) (subst (shown _ _ _ _) c.of-look.ensures.0 c.side_row.ensures) in
    let n = c.index_row-n.ensures in
    let e = c.next-row.ensures.0 in
    record {
      begun = i.begun;
      within = omega (arith, e, in_grid t);
      at = c.next-row.ensures.1;
      drawn = rw e (row_more _ _ _ _ _ _ c.args.scene.dims.width i.drawn (asked_is t n.0 i.sides n.1) (keys_are t) (row_is t) n.1 c.vertex_row.ensures);
      sets = c.side_row.auto.sets ∙ i.sets;
      sides = n.1.kept ∙ i.sides;
    }

pub returns : goal.returns
returns c =
    let a = c.args in
    let S = scene_of a.scene in
    let B = lists_lent a.positions.now a.normals.now a.uvs.now a.colours.now a.triangles.now a.links.now a.slots.now in
    let i = c.loop-base.invariant in
    let b = i.begun in
    let Q = quads_are b in
    done S a.outer.now a.grid.now (is_culling a.algorithm) B
    (goes _ _ c.in_ok-input_verdict.was (c.input_verdict.ensures B refl)
    (passes _ _ c.in_ok-refuse_if.was (c.refuse_if.ensures ∙ (λ j. NO_ROOM (c.room_of-room.ensures B c.lengths_of-lengths.ensures j) (Q j)))))
    Q
    (drawn_all S a.outer.now a.grid.now (is_culling a.algorithm) _ _ b.mode b.named_by B i.within (omega (arith, c.loop-base-test.false)) Q i.drawn
    (bare S B _ _ c.cell_count.ensures (omega (arith, c.cell_count.ensures, b.known.slotted)) c.new.ensures) c.write_patterns.ensures)
