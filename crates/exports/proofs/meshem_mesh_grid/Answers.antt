-- `exports::meshem_mesh_grid` meets its contract: the mesh call's, with the answer told. Assumes nothing.
use mathlib.Core.Path.{◌∙◌}
use Rattle.rules.specs.Calls.{mesh_grid}
use Rattle.rules.specs.Mesh.{vertices_of, lists_of}
use Rattle.telling.proofs.Telling.{unmoved, mesh_told}
use Rattle.exports.proofs.meshem_mesh_grid.Goals as goal

pub returns : goal.returns
returns c =
    let a = c.args in
    let scene = c.scene_of-scene.ensures in
    let culling = c.algorithm_of-by.ensures ∙ c.is_yes.ensures in
    let lists = lists_of (vertices_of a.positions.now a.normals.now a.uvs.now a.colours.now) a.triangles.now a.links.now a.slots.now in
    mesh_told (unmoved c.told_by_mesh-meshed.result c.mesh_grid.result c.told_by_mesh-meshed.ensures)
    (c.mesh_grid.ensures ∙ (λ i. mesh_grid (scene i) a.outer.now a.grid.now (culling i) lists))
