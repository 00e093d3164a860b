-- `release::one_by_one::mend_by_entries` meets its contract: a call for each entry. Assumes nothing.
use mathlib.Core.Path.{sym, ap, ◌∙◌}
use mathlib.Core.List.{List}
use Prim.Native.Nat.{ℕ, ◌*◌, ◌/◌}
use lib.ListN.{length}
use Rattle.rules.specs.Update.{ENTRY_BYTES}
use Rattle.rules.specs.Calls.{update_mesh}
use Rattle.vav.proofs.Laws.{part_lent}
use Rattle.terms.specs.Loans.{lists_lent}
use Rattle.terms.specs.Modes.{tested_by}
use Rattle.terms.specs.Scenes.{scene_of}
use Rattle.release.proofs.OneByOne.{goes_on, refuses, ends}
use Rattle.release.proofs.one_by_one.mend_by_entries.Goals as goal

pub returns-in_err-left : goal.returns-in_err-left
returns-in_err-left c =
    let a = c.args in
    let l = c.loop-k in
    let here = lists_lent l.positions l.normals l.uvs l.colours l.triangles l.links l.slots in
    let called = c.update_mesh.ensures
    ∙ ap (λ (one : List ℕ). update_mesh (tested_by a.tested) (scene_of a.scene) one here l.left) (part_lent (ENTRY_BYTES * l.k) ENTRY_BYTES a.log.now) in
    refuses (tested_by a.tested) (scene_of a.scene) a.log.now (length a.log.now / ENTRY_BYTES) _ a.quads l.k here l.left _ c.update_mesh.result _ c.loop-k-test.true l.invariant
    called (sym c.mesh_left.ensures ∙ c.in_err-left.was) c.from_residual.ensures.1

pub loop-k-preserved : goal.loop-k-preserved
loop-k-preserved c =
    let a = c.args in
    let l = c.loop-k in
    let here = lists_lent l.positions l.normals l.uvs l.colours l.triangles l.links l.slots in
    let called = c.update_mesh.ensures
    ∙ ap (λ (one : List ℕ). update_mesh (tested_by a.tested) (scene_of a.scene) one here l.left) (part_lent (ENTRY_BYTES * l.k) ENTRY_BYTES a.log.now) in
    goes_on (tested_by a.tested) (scene_of a.scene) a.log.now (length a.log.now / ENTRY_BYTES) _ a.quads l.k here l.left _ c.update_mesh.result c.loop-k-test.true l.invariant
    called (sym c.mesh_left.ensures ∙ c.in_ok-left.was)

pub returns : goal.returns
returns c =
    let a = c.args in
    let l = c.loop-k in
    ends (tested_by a.tested) (scene_of a.scene) a.log.now (length a.log.now / ENTRY_BYTES) _ a.quads l.k
    (lists_lent l.positions l.normals l.uvs l.colours l.triangles l.links l.slots) l.left c.loop-k-test.false l.invariant
