-- `update::update_mesh` meets its contract: a refusal, or the rule's course. Assumes nothing.
use mathlib.Core.Path.{◌≡◌, refl, sym, ap, ◌∙◌}
use Prim.Native.Nat.{ℕ, ◌*◌}
use native.Mathlib.Omega.{arith}
use lib.ListN.{length}
use lib.Seq.{length-take-le}
use Rattle.rules.specs.Answers.{fine, BAD_LINKS, BAD_ENTRY}
use Rattle.rules.specs.Calls.{answered}
use Rattle.answers.proofs.Chains.{passes}
use Rattle.terms.specs.Scenes.{scene_of}
use Rattle.terms.specs.Modes.{tested_by}
use Rattle.terms.specs.Loans.{lists_lent}
use Rattle.lent.proofs.Linked.{few_linked}
use Rattle.update.specs.Outcome.{told_verdict}
use Rattle.update.specs.Runs.{full_at}
use Rattle.update.proofs.Whole.{Begun, as_long, asked, past, halt, stopped, told_within, told_typed, told_lent, begun, lent_ends, logging, mend_ready, ended_so}
use Rattle.update.proofs.update_mesh.Goals as goal
use Rattle.update.proofs.update_mesh.Goals.{In_ok-told_verdict, After-room_of}

-- ---- each test is the first that refuses
pub returns-in_err-told_verdict : goal.returns-in_err-told_verdict
returns-in_err-told_verdict c =
    let a = c.args in
    let S = scene_of a.scene in
    let B = lists_lent a.positions.now a.normals.now a.uvs.now a.colours.now a.triangles.now a.links.now a.slots.now in
    let told = c.told_verdict.ensures B (as_long _ _ _ _ _ _ _) in
    stopped _ _ _ _ _ _ _ (halt _ _ (asked S a.log.now B a.quads) told c.in_err-told_verdict.was) c.in_err-told_verdict.was c.from_residual.ensures.1

pub returns-in_err-links_verdict : goal.returns-in_err-links_verdict
returns-in_err-links_verdict c =
    let a = c.args in
    let S = scene_of a.scene in
    let B = lists_lent a.positions.now a.normals.now a.uvs.now a.colours.now a.triangles.now a.links.now a.slots.now in
    let told = c.told_verdict.ensures B (as_long _ _ _ _ _ _ _) in
    let one = past _ (asked S a.log.now B a.quads) told c.in_ok-told_verdict.was in
    let linked = c.links_verdict.ensures B.vertices a.triangles.now ∙ ap (λ (n : ℕ). BAD_LINKS n B a.quads) c.cell_count-cells.ensures in
    stopped _ _ _ _ _ _ _ (halt _ _ one linked c.in_err-links_verdict.was) c.in_err-links_verdict.was c.from_residual-in_err-links_verdict.ensures.1

pub returns-in_err-triangles_verdict : goal.returns-in_err-triangles_verdict
returns-in_err-triangles_verdict c =
    let a = c.args in
    let S = scene_of a.scene in
    let B = lists_lent a.positions.now a.normals.now a.uvs.now a.colours.now a.triangles.now a.links.now a.slots.now in
    let told = c.told_verdict.ensures B (as_long _ _ _ _ _ _ _) in
    let one = past _ (asked S a.log.now B a.quads) told c.in_ok-told_verdict.was in
    let linked = c.links_verdict.ensures B.vertices a.triangles.now ∙ ap (λ (n : ℕ). BAD_LINKS n B a.quads) c.cell_count-cells.ensures in
    let two = past _ one linked c.in_ok-links_verdict.was in
    stopped _ _ _ _ _ _ _ (halt _ _ two (c.triangles_verdict.ensures B.vertices a.links.now a.slots.now) c.in_err-triangles_verdict.was) c.in_err-triangles_verdict.was
    c.from_residual-in_err-triangles_verdict.ensures.1

pub returns-in_err-entry_verdict : goal.returns-in_err-entry_verdict
returns-in_err-entry_verdict c =
    let a = c.args in
    let S = scene_of a.scene in
    let B = lists_lent a.positions.now a.normals.now a.uvs.now a.colours.now a.triangles.now a.links.now a.slots.now in
    let told = c.told_verdict.ensures B (as_long _ _ _ _ _ _ _) in
    let one = past _ (asked S a.log.now B a.quads) told c.in_ok-told_verdict.was in
    let linked = c.links_verdict.ensures B.vertices a.triangles.now ∙ ap (λ (n : ℕ). BAD_LINKS n B a.quads) c.cell_count-cells.ensures in
    let two = past _ one linked c.in_ok-links_verdict.was in
    let three = past _ two (c.triangles_verdict.ensures B.vertices a.links.now a.slots.now) c.in_ok-triangles_verdict.was in
    let entered = c.entry_verdict.ensures ∙ ap (λ (n : ℕ). BAD_ENTRY n (length S.types.kinds) a.log.now) c.cell_count-cells.ensures in
    stopped _ _ _ _ _ _ _ (three ∙ sym entered) c.in_err-entry_verdict.was c.from_residual-in_err-entry_verdict.ensures.1

-- ---- or passes

-- the call's own tests have passed
begins : (c : In_ok-told_verdict) → told_verdict (scene_of c.args.scene)
    (lists_lent c.args.positions.now c.args.normals.now c.args.uvs.now c.args.colours.now c.args.triangles.now c.args.links.now c.args.slots.now) c.args.quads ≡ fine
begins c = sym (passes _ _ c.in_ok-told_verdict.was (c.told_verdict.ensures _ (as_long _ _ _ _ _ _ _)))

pub cell_count-cells-requires : goal.cell_count-cells-requires
cell_count-cells-requires c =
    (told_within _ _ _ (begins (goal.at.cell_count-cells-requires c).In_ok-told_verdict)).sides

pub links_verdict-requires : goal.links_verdict-requires
links_verdict-requires c =
    rw c.cell_count-cells.ensures (told_lent _ _ _ (begins (goal.at.links_verdict-requires c).In_ok-told_verdict) (omega arith)).0

pub triangles_verdict-requires : goal.triangles_verdict-requires
triangles_verdict-requires c =
    let a = c.args in
    let S = scene_of a.scene in
    let B = lists_lent a.positions.now a.normals.now a.uvs.now a.colours.now a.triangles.now a.links.now a.slots.now in
    let w = told_lent S B a.quads (begins (goal.at.triangles_verdict-requires c).In_ok-told_verdict) (omega arith) in
    let linked = c.links_verdict.ensures B.vertices a.triangles.now ∙ ap (λ (n : ℕ). BAD_LINKS n B a.quads) c.cell_count-cells.ensures in
    let few = few_linked _ _ _ w.0.slotted (sym (passes _ _ c.in_ok-links_verdict.was linked)) in
    (w.1.triangles, omega (arith, w.0.few))

pub overflow_cast-scene : goal.overflow_cast-scene
overflow_cast-scene c =
    let few = (told_typed _ _ _ (begins (goal.at.overflow_cast-scene c).In_ok-told_verdict)).counted.few in
    omega arith

-- ---- all passed

-- once the room is found, every test has passed
started : (c : After-room_of) → Begun (tested_by c.args.tested) (scene_of c.args.scene) c.args.log.now
    (lists_lent c.args.positions.now c.args.normals.now c.args.uvs.now c.args.colours.now c.args.triangles.now c.args.links.now c.args.slots.now) c.args.quads
    (6 * c.cell_count-cells.result) c.room_of.result
started c =
    let a = c.args in
    let S = scene_of a.scene in
    let B = lists_lent a.positions.now a.normals.now a.uvs.now a.colours.now a.triangles.now a.links.now a.slots.now in
    let told = c.told_verdict.ensures B (as_long _ _ _ _ _ _ _) in
    begun (tested_by a.tested) S a.log.now B a.quads c.cell_count-cells.ensures (c.room_of.ensures B (as_long _ _ _ _ _ _ _))
    told c.in_ok-told_verdict.was (c.links_verdict.ensures B.vertices a.triangles.now) c.in_ok-links_verdict.was (c.triangles_verdict.ensures B.vertices a.links.now a.slots.now) c.in_ok-triangles_verdict.was
    c.entry_verdict.ensures c.in_ok-entry_verdict.was

pub slice_bounds-faces-end : goal.slice_bounds-faces-end
slice_bounds-faces-end c =
    lent_ends (started (goal.at.slice_bounds-faces-end c).After-room_of)

pub slice_bounds-faces-end-2 : goal.slice_bounds-faces-end-2
slice_bounds-faces-end-2 c =
    sym (length-take-le _ _ (lent_ends (started (goal.at.slice_bounds-faces-end-2 c).After-room_of)))

pub run_log-ran-requires : goal.run_log-ran-requires
run_log-ran-requires c =
    logging (started (goal.at.run_log-ran-requires c).After-room_of)

pub mend_patterns-requires : goal.mend_patterns-requires
mend_patterns-requires c =
    mend_ready (started (goal.at.mend_patterns-requires c).After-room_of) c.run_log-ran.ensures

pub returns-in-None : goal.returns-in-None
returns-in-None c =
    ended_so (started (goal.at.returns-in-None c).After-room_of) c.run_log-ran.ensures answered refl (ap full_at c.in-None.is) c.mend_patterns.ensures

pub returns-in-Some : goal.returns-in-Some
returns-in-Some c =
    ended_so (started (goal.at.returns-in-Some c).After-room_of) c.run_log-ran.ensures (λ q v. record { number = 14; place = c.in-Some.place; quads = q; moved = v }) refl (ap full_at c.in-Some.is) c.mend_patterns.ensures
