-- `indexing::do_face` meets its contract. Assumes nothing.
use mathlib.Core.Path.{◌≡◌, sym, subst}
use mathlib.Core.Bool.{Bool}
use mathlib.Core.List.{[], ◌∷◌}
use Prim.Native.Nat.{ℕ}
use Rattle.works.specs.Sets.{deed_by}
use Rattle.indexing.specs.Index.{Index, index_of, Ready, Removable}
use Rattle.indexing.proofs.Doing.{space_left, slotted, removable, drawable}
use Rattle.indexing.proofs.do_face.Goals as goal

-- it is ready for the one deed
known : (voxel key : ℕ) {on b : Bool} {space : ℕ} {B : Index} → Ready space (deed_by on voxel key ∷ []) B → on ≡ b → Ready space (deed_by b voxel key ∷ []) B
known voxel key {space = space} {B} r e = subst (λ (b : Bool). Ready space (deed_by b voxel key ∷ []) B) e r

pub remove_quad-requires : goal.remove_quad-requires
remove_quad-requires c =
    let a = c.args in
    (subst (λ (q : ℕ). Removable a.key q (index_of a.links.now a.slots.now a.steps.now a.tally)) (sym c.quad_of-quad.ensures) (removable (known _ _ c.requires c.if-cuts.true)), space_left a.steps.now a.tally c.requires)

pub append_quad-requires : goal.append_quad-requires
append_quad-requires c = (drawable (known _ _ c.requires c.if-cuts.false), space_left c.args.steps.now c.args.tally c.requires)

pub quad_of-quad-requires : goal.quad_of-quad-requires
quad_of-quad-requires c = slotted (known _ _ c.requires c.if-cuts.true)
