-- `exports::meshem_check_mesh` meets its contract: the check's, with the answer told. Assumes nothing.
use mathlib.Core.Path.{ap, ◌∙◌}
use Rattle.rules.specs.Calls.{Scene, check_by, check_mesh}
use Rattle.answers.specs.Verdicts.{verdict_of}
use Rattle.rules.specs.Mesh.{vertices_of, lists_of}
use Rattle.telling.proofs.Telling.{bare}
use Rattle.exports.proofs.meshem_check_mesh.Goals as goal

pub returns : goal.returns
returns c =
    let a = c.args in
    bare c.told_by_verdict-checked.result (verdict_of c.check_mesh.result) c.told_by_verdict-checked.ensures
    ∙ ap check_by c.check_mesh.ensures
    ∙ ap (λ (S : Scene). check_mesh S a.outer.now a.grid.now
    (lists_of (vertices_of a.positions.now a.normals.now a.uvs.now a.colours.now) a.triangles.now a.links.now a.slots.now) a.count)
    c.scene_of-scene.ensures
