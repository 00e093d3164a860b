use mathlib.Core.List.{List, [], ◌∷◌}
use Rattle.rules.specs.Mesh.{Vertices, vertices_of}
use Rattle.rules.specs.Calls.{Scene}
use Rattle.terms.specs.Scenes.{scene_of}
use Rattle.steps.specs.Steps.{Step, step_at}
use Rattle.steps.specs.Rows.{Shelves, shelves, ran_all, ReplayingAll}
use Rattle.steps.proofs.Turning.{Turning}
use Rattle.steps.proofs.replay_steps.Given as goal

-- steps can be done on lists as long as vs
abbrev pub Ready : Scene → Vertices → List Step → Shelves → Type 0
Ready S vs xs v = ReplayingAll S xs vs v.quads

abbrev pub invariant-loop-i : goal.invariant-loop-i
invariant-loop-i l =
    let S = scene_of l.fn.scene in
    let vs = vertices_of l.initial.positions l.initial.normals l.initial.uvs l.initial.colours in
    let ws = vertices_of l.positions l.normals l.uvs l.colours in
    Turning (ran_all S) (Ready S vs) l.n (λ k. step_at l.steps k ∷ []) l.i (shelves vs l.count) (shelves ws l.left)
