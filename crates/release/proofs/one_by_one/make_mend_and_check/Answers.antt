-- `release::one_by_one::make_mend_and_check` meets its contract. Assumes nothing.
use Rattle.terms.specs.Loans.{lists_lent}
use Rattle.terms.specs.Scenes.{scene_of}
use Rattle.release.proofs.OneByOne.{passed, halts, chained, unmade}
use Rattle.release.proofs.one_by_one.make_mend_and_check.Goals as goal

pub returns-in_err-made : goal.returns-in_err-made
returns-in_err-made c =
    let a = c.args in
    let B = lists_lent a.positions.now a.normals.now a.uvs.now a.colours.now a.triangles.now a.links.now a.slots.now in
    unmade a.tested (scene_of a.scene) a.grid.now a.log.now a.left.now B _ c.mesh_grid.result _ _ c.in_err-made.was c.from_residual.ensures.1 c.mesh_grid.ensures

pub returns-in_err-mended : goal.returns-in_err-mended
returns-in_err-mended c =
    let a = c.args in
    let B = lists_lent a.positions.now a.normals.now a.uvs.now a.colours.now a.triangles.now a.links.now a.slots.now in
    chained a.tested (scene_of a.scene) a.grid.now a.log.now a.left.now B _ c.mesh_grid.result _ c.in_ok-made.was c.mesh_grid.ensures
    (halts (scene_of a.scene) a.left.now c.mend_by_entries.result _ _ _ c.in_err-mended.was c.from_residual-in_err-mended.ensures.1 c.mend_by_entries.ensures)

pub returns : goal.returns
returns c =
    let a = c.args in
    let B = lists_lent a.positions.now a.normals.now a.uvs.now a.colours.now a.triangles.now a.links.now a.slots.now in
    chained a.tested (scene_of a.scene) a.grid.now a.log.now a.left.now B _ c.mesh_grid.result _ c.in_ok-made.was c.mesh_grid.ensures
    (passed (scene_of a.scene) a.left.now c.mend_by_entries.result _ c.in_ok-mended.was c.check_mesh.ensures c.mend_by_entries.ensures)
