-- `release::make_and_check` meets its contract: what was made passes. Assumes nothing.
use Rattle.terms.specs.Loans.{lists_lent}
use Rattle.terms.specs.Scenes.{scene_of}
use Rattle.release.proofs.Composed.{made}
use Rattle.release.proofs.make_and_check.Goals as goal

pub returns : goal.returns
returns c =
    let a = c.args in
    let B = lists_lent a.positions.now a.normals.now a.uvs.now a.colours.now a.triangles.now a.links.now a.slots.now in
    made (scene_of a.scene) a.outer.now a.grid.now B _ _ _ c.in_ok-quads.was c.check_mesh.ensures c.mesh_grid.ensures
