-- `comparing::Comparison::registered` meets its contract: the corners of the face that the link names are lent. Assumes nothing.
use mathlib.Core.Path.{◌≡◌, refl, ap, ◌∙◌}
use Prim.Native.Nat.{ℕ, ◌+◌, ◌*◌, ◌≤◌, ◌<◌}
use native.Mathlib.Omega.{arith}
use native.Mathlib.Nat.{mul-le-mul}
use lib.ListN.{length, get_or}
use Rattle.rules.specs.Cells.{Triple, coordinates, cell_in, code, code_in}
use Rattle.rules.specs.Mesh.{type_at}
use Rattle.rules.specs.Types.{floats}
use Rattle.voxel_mesh.proofs.Shapes.{few}
use Rattle.terms.specs.Scenes.{scene_of}
use Rattle.comparing.specs.declared.Comparison.{Comparison}
use Rattle.comparing.proofs.Compared.{Named, named_words, corners_within, drawable}
use Rattle.comparing.proofs.Comparison.registered.Goals as goal

-- what was read of a link: its face's number and its coordinates
abbrev Read : Comparison → ℕ → ℕ → Triple → Type 0
Read s q m a = Named (scene_of s.scene) s.grid.now (get_or s.lists.links.now q 0) m a

read : (s : Comparison) (q m : ℕ) (a : Triple) (cell : ℕ) → m ≡ 6 * type_at s.grid.now (cell_in (get_or s.lists.links.now q 0)) + code (code_in (get_or s.lists.links.now q 0))
    → a ≡ coordinates (scene_of s.scene).size cell → cell ≡ cell_in (get_or s.lists.links.now q 0) → Read s q m a
read s q m a cell e f g = record { face = e; at = f ∙ ap (coordinates (scene_of s.scene).size) g }

stretch : (s : Comparison) (q n m : ℕ) (a : Triple) → q < s.count → n ≡ floats (scene_of s.scene).types → Read s q m a → 4 * n * m + 4 * n ≤ length s.scene.types.cubes.now
stretch s q n m a h e r = corners_within (scene_of s.scene) s.grid.now s.lists.links.now s.count s.is_comparable.linking q h e r

-- and what is lent of the registry is far from the machine's last number
few-words : (s : Comparison) (n m : ℕ) → n ≡ floats (scene_of s.scene).types → m < 1536 → 4 * n * m ≤ 48 * 1536
few-words s n m e h =
    let n-few : 4 * n ≤ 48 = omega (arith, e, few s.scene.types.coloured) in
    let m-few : m ≤ 1536 = omega arith in
    mul-le-mul n-few m-few

pub overflow_mul-start : goal.overflow_mul-start
overflow_mul-start c = omega (arith, few-words c.args.self.now _ _ c.floats_of-floats.ensures c.linked_face.ensures.below)

pub overflow_add-end : goal.overflow_add-end
overflow_add-end c = omega (arith, few-words c.args.self.now _ _ c.floats_of-floats.ensures c.linked_face.ensures.below, c.floats_of-floats.ensures, few c.args.self.now.scene.types.coloured)

pub offset_bounds-cubes-start : goal.offset_bounds-cubes-start
offset_bounds-cubes-start c = omega (arith, few-words c.args.self.now _ _ c.floats_of-floats.ensures c.linked_face.ensures.below)

pub slice_bounds-result-end : goal.slice_bounds-result-end
slice_bounds-result-end c =
    stretch c.args.self.now c.args.q _ _ _ c.requires c.floats_of-floats.ensures (read c.args.self.now c.args.q _ _ _ c.linked_face.ensures.of_link c.cords_of-at.ensures c.cell_of.ensures)

pub invariant_of-result : goal.invariant_of-result
invariant_of-result c =
    let s = c.args.self.now in
    let at = read s c.args.q _ _ _ c.linked_face.ensures.of_link c.cords_of-at.ensures c.cell_of.ensures in
    record { is_drawable = drawable (scene_of s.scene) s.grid.now s.lists.links.now s.count s.is_comparable.linking c.args.q c.requires s.is_finite c.floats_of-floats.ensures at }

pub returns : goal.returns
returns c =
    let s = c.args.self.now in
    let at = read s c.args.q _ _ _ c.linked_face.ensures.of_link c.cords_of-at.ensures c.cell_of.ensures in
    (c.floats_of-floats.ensures, named_words (scene_of s.scene) s.grid.now (get_or s.lists.links.now c.args.q 0) c.floats_of-floats.ensures at)
