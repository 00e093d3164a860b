-- `steps::replay_one` meets its contract. Assumes nothing.
use mathlib.Core.Path.{◌≡◌, ap, ◌∙◌}
use mathlib.Core.List.{List, [], ◌∷◌}
use Prim.Native.Nat.{ℕ, ◌+◌, ◌-◌, ◌*◌, ◌%◌, ◌<◌}
use native.Mathlib.Omega.{arith}
use lib.ListN.{get_or, take, drop}
use borrow.Author.Tests.{lt-ltb}
use Rattle.rules.specs.Cells.{Triple, cells, coordinates}
use Rattle.rules.specs.Types.{floats, cube_of, quad_words}
use Rattle.rules.specs.Mesh.{Vertices, vertices_of, position, of_positions}
use Rattle.rules.specs.Calls.{Scene}
use Rattle.rules.proofs.Neighbours.{inside_of}
use Rattle.util.specs.Grid.{Within}
use Rattle.voxel_mesh.proofs.Shapes.{few}
use Rattle.terms.specs.Scenes.{scene_of}
use Rattle.vav.proofs.Laws.{length_part}
use Rattle.quads.specs.Quads.{corners_of, Corners}
use Rattle.quads.proofs.Writing.{corners_lent, drawable_corners, quad_of_corners}
use Rattle.drawing.specs.Written.{Long, quad_written}
use Rattle.drawing.proofs.Lengths.{fewer}
use Rattle.steps.specs.Steps.{came, step_at, CUT}
use Rattle.steps.specs.Rows.{Shaped, shelves, ReplayingAll}
use Rattle.steps.proofs.replay_one.Goals as goal

-- a face of a type that can be drawn, n words a vertex
module _ {S : Scene} {t : ℕ} (k : Shaped S t) (f : ℕ) (below : f < 6) {n : ℕ} (e : n ≡ floats S.types) where
  -- the part of the registry that is lent are its corners
  lent : take (4 * n * (6 * t + f) + 4 * n - 4 * n * (6 * t + f)) (drop (4 * n * (6 * t + f)) S.types.cubes) ≡ corners_of (cube_of S.types t) (floats S.types) f
  lent = rw e (corners_lent S.types.cubes (floats S.types) t f below)

  drawable : {c : ℕ} {a : Triple} → Within S.size → c < cells S.size → a ≡ coordinates S.size c
      → Corners (take (4 * n * (6 * t + f) + 4 * n - 4 * n * (6 * t + f)) (drop (4 * n * (6 * t + f)) S.types.cubes)) n a S.d
  drawable {c} w h at =
      let s = w.sides in
      let i = inside_of S.size c s.wide s.long h in
      let l = few S.types.coloured in
      let all = length_part (24 * floats S.types * t) (24 * floats S.types) S.types.cubes k.whole in
      rw (lent, at, e) (drawable_corners f below (record {
        words = record { least = omega arith; most = omega arith; whole = omega arith };
        placed = k.placed;
        finite = k.finite;
        x = omega (arith, i.x, s.widest);
        y = omega (arith, i.y, s.highest);
        z = omega (arith, i.z, s.longest);
      }))

-- ---- a draw
drawn : (S : Scene) (vs : Vertices) (count : ℕ) (step : List ℕ) → ReplayingAll S (step_at step 0 ∷ []) vs count → get_or step 1 0 < CUT → ReplayingAll S (came (get_or step 0 0) (get_or step 1 0) ∷ []) vs count
drawn S vs count step p h = rw (lt-ltb (get_or step 1 0) CUT h) at p

room : {S : Scene} {vs : Vertices} {count k t : ℕ} → ReplayingAll S (came k t ∷ []) vs count → Long S.types.coloured (count + 1) vs
room {S} {vs} p = let l = p.can.0 in fewer S.types.coloured vs (omega arith) p.fits

-- its face among the six
side : (a : ℕ) → a % 6 < 6
side a = omega arith

pub invariant_of-quad : goal.invariant_of-quad
invariant_of-quad c =
    let a = c.args in
    let S = scene_of a.scene in
    let p = drawn S (vertices_of a.positions.now a.normals.now a.uvs.now a.colours.now) a.count a.step.now c.requires.1 c.if-b-ge-CUT.false in
    record { is_drawable = drawable p.can.1.1 (get_or a.step.now 0 0 % 6) (side (get_or a.step.now 0 0)) c.floats_of-floats.ensures p.within p.can.1.0 c.cords_of.ensures }

pub write_places-requires : goal.write_places-requires
write_places-requires c =
    let a = c.args in
    (c.floats_of-floats.ensures, room (drawn (scene_of a.scene) (vertices_of a.positions.now a.normals.now a.uvs.now a.colours.now) a.count a.step.now c.requires.1 c.if-b-ge-CUT.false))

pub overflow_add-result : goal.overflow_add-result
overflow_add-result c =
    let a = c.args in
    omega (arith, room (drawn (scene_of a.scene) (vertices_of a.positions.now a.normals.now a.uvs.now a.colours.now) a.count a.step.now c.requires.1 c.if-b-ge-CUT.false) position _ of_positions)

pub returns : goal.returns
returns c =
    let a = c.args in
    let S = scene_of a.scene in
    let vs = vertices_of a.positions.now a.normals.now a.uvs.now a.colours.now in
    let n = floats S.types in
    let key = get_or a.step.now 0 0 in
    let type = get_or a.step.now 1 0 in
    let p = drawn S vs a.count a.step.now c.requires.1 c.if-b-ge-CUT.false in
    let corners = lent p.can.1.1 (key % 6) (side key) c.floats_of-floats.ensures in
    let at = c.cords_of.ensures in
    let words = (λ i. quad_words (corners i) (c.floats_of-floats.ensures i) S.d 0 (at i)) ∙ quad_of_corners (cube_of S.types type) n S.d (key % 6) _ in
    rw (lt-ltb type CUT c.if-b-ge-CUT.false)
    (ap (λ (us : Vertices). shelves us (a.count + 1)) (c.write_places.ensures ∙ (λ i. quad_written S.types.coloured a.count (words i) vs)))
