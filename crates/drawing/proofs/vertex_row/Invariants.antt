use Rattle.rules.specs.Mesh.{vertices_of}
use Rattle.terms.specs.Scenes.{scene_of}
use Rattle.drawing.proofs.Sweeps.{Swept}
use Rattle.drawing.proofs.vertex_row.Given as goal

abbrev pub invariant-loop-i : goal.invariant-loop-i
invariant-loop-i l =
    let vs = vertices_of l.initial.positions l.initial.normals l.initial.uvs l.initial.colours in
    Swept (scene_of l.fn.scene) l.row.first l.base l.sides vs l.i (vertices_of l.positions l.normals l.uvs l.colours)
