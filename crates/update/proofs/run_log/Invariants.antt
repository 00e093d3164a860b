use mathlib.Core.Path.{◌≡◌}
use lib.ListN.{length}
use Rattle.rules.specs.Mesh.{vertices_of}
use Rattle.terms.specs.Modes.{tested_by}
use Rattle.terms.specs.Scenes.{scene_of}
use Rattle.update.proofs.Running.{Running}
use Rattle.update.proofs.run_log.Given as goal

abbrev pub invariant-loop-k : goal.invariant-loop-k
invariant-loop-k l =
    Running (tested_by l.task.tested) (scene_of l.task.scene) l.task.room l.log (vertices_of l.initial.positions l.initial.normals l.initial.uvs l.initial.colours) l.initial.links l.task.quads l.k l.highest
    (vertices_of l.positions l.normals l.uvs l.colours) l.links l.slots l.quads l.moved
    × (length l.links ≡ length l.initial.links) × (length l.slots ≡ length l.initial.slots) × (length l.steps ≡ 48)
