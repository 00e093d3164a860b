-- `release::mend_and_check` meets its contract: after a log of demand 3 the second check refuses nothing. Assumes nothing.
use mathlib.Core.Path.{sym, ◌∙◌}
use mathlib.Core.List.{[]}
use Rattle.answers.proofs.Chains.{passes}
use Rattle.terms.specs.Loans.{lists_lent}
use Rattle.terms.specs.Modes.{tested_by}
use Rattle.terms.specs.Scenes.{scene_of}
use Rattle.release.proofs.Composed.{checked, left_refused, left_checked, stopped, mended, promised}
use Rattle.release.proofs.mend_and_check.Goals as goal

pub returns-in_err-check_mesh : goal.returns-in_err-check_mesh
returns-in_err-check_mesh c =
    let a = c.args in
    let S = scene_of a.scene in
    let B = lists_lent a.positions.now a.normals.now a.uvs.now a.colours.now a.triangles.now a.links.now a.slots.now in
    promised a.tested S a.grid.now a.log.now a.left.now B a.quads
    (stopped (tested_by a.tested) S a.grid.now a.log.now a.left.now B a.quads _ _ c.in_err-check_mesh.was c.from_residual.ensures.1 c.check_mesh.ensures)

pub returns-in_err-mended : goal.returns-in_err-mended
returns-in_err-mended c =
    let a = c.args in
    let S = scene_of a.scene in
    let B = lists_lent a.positions.now a.normals.now a.uvs.now a.colours.now a.triangles.now a.links.now a.slots.now in
    promised a.tested S a.grid.now a.log.now a.left.now B a.quads
    (mended (tested_by a.tested) S a.grid.now a.log.now a.left.now B a.quads (sym (passes _ _ c.in_ok-check_mesh.was c.check_mesh.ensures))
    (checked S [] a.left.now
    (left_refused c.update_mesh.result _ S [] a.left.now _ (sym c.mesh_left.ensures ∙ c.in_err-mended.was) c.from_residual-in_err-mended.ensures.1)
    c.update_mesh.ensures))

pub returns : goal.returns
returns c =
    let a = c.args in
    let S = scene_of a.scene in
    let B = lists_lent a.positions.now a.normals.now a.uvs.now a.colours.now a.triangles.now a.links.now a.slots.now in
    promised a.tested S a.grid.now a.log.now a.left.now B a.quads
    (mended (tested_by a.tested) S a.grid.now a.log.now a.left.now B a.quads (sym (passes _ _ c.in_ok-check_mesh.was c.check_mesh.ensures))
    (checked S [] a.left.now
    (left_checked c.update_mesh.result S [] a.left.now _ (sym c.mesh_left.ensures ∙ c.in_ok-mended.was) c.check_mesh-2.ensures)
    c.update_mesh.ensures))
