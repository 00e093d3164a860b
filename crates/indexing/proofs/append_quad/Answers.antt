-- `indexing::append_quad` meets its contract. Assumes nothing.
use mathlib.Core.Path.{◌≡◌, refl, ap, ◌∙◌}
use mathlib.Core.List.{[], ◌∷◌, ◌++◌}
use Prim.Native.Nat.{ℕ, ◌/◌}
use native.Mathlib.Omega.{arith}
use lib.ListN.{set}
use Rattle.rules.specs.Cells.{link_word, key_of, first_vertex}
use Rattle.face.specs.Face.{number}
use Rattle.steps.specs.Steps.{Step, step_in, steps_in}
use Rattle.indexing.specs.Index.{came_at}
use Rattle.indexing.proofs.Doing.{same_index, steps_more, came_in}
use Rattle.indexing.proofs.append_quad.Goals as goal

pub returns : goal.returns
unfolding came_at
returns c =
    let a = c.args in
    let at = a.tally.steps in
    let xs = a.steps.now in
    -- the key of its own cell and face
    let back : key_of (a.key / 6) (number c.face_at.result) ≡ a.key = omega (arith, c.face_at.ensures) in
    same_index (c.insert.ensures.0 ∙ ap (λ (f : ℕ). set a.links.now a.tally.quads (link_word (a.key / 6) f)) c.face_at.ensures)
    (c.insert.ensures.1 ∙ ap (λ (k : ℕ). set a.slots.now k (first_vertex a.tally.quads)) back) refl refl c.max.ensures
    (steps_more at a.key c.from.result xs c.requires.1 ∙ ap (λ (x : Step). steps_in at xs ++ (x ∷ [])) ((λ i. step_in a.key (c.from.ensures i)) ∙ came_in a.key a.voxel (omega arith)))
