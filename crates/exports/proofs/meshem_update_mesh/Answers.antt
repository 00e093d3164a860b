-- `exports::meshem_update_mesh` meets its contract: the update call's, with the answer told. Assumes nothing.
use mathlib.Core.Path.{ap, ◌∙◌}
use Rattle.rules.specs.Calls.{update_mesh}
use Rattle.rules.specs.Mesh.{vertices_of, lists_of}
use Rattle.telling.specs.Numbers.{tested_if}
use Rattle.telling.proofs.Telling.{mesh_told}
use Rattle.exports.proofs.meshem_update_mesh.Goals as goal

pub returns : goal.returns
returns c =
    let a = c.args in
    let scene = c.scene_of-scene.ensures in
    let mode = c.tested_of-side.ensures ∙ ap tested_if c.is_yes.ensures in
    let lists = lists_of (vertices_of a.positions.now a.normals.now a.uvs.now a.colours.now) a.triangles.now a.links.now a.slots.now in
    mesh_told c.told_by_update-mended.ensures (c.update_mesh.ensures ∙ (λ i. update_mesh (mode i) (scene i) a.log.now lists a.count))
