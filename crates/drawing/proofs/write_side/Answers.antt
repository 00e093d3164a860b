-- `drawing::write_side` meets its contract: the face's corners are lent of the registry. Assumes nothing.
use mathlib.Core.Path.{◌≡◌, sym, ap, subst, ◌∙◌}
use mathlib.Core.Bool.{Bool}
use mathlib.Core.List.{List}
use Prim.Native.Nat.{ℕ, ◌+◌, ◌-◌, ◌*◌, ◌/◌, ◌%◌, ◌<◌}
use native.Mathlib.Omega.{arith}
use lib.ListN.{take, drop}
use Rattle.rules.specs.Cells.{Triple, coordinates}
use Rattle.rules.specs.Cube.{floats_of}
use Rattle.rules.specs.Types.{floats, cube_of, quad_words}
use Rattle.rules.specs.Mesh.{Vertices}
use Rattle.rules.specs.Calls.{Scene}
use Rattle.util.specs.Grid.{cords_of, Within, Starts}
use Rattle.util.proofs.Rows.{row_cords}
use Rattle.quads.specs.Quads.{corners_of, Corners}
use Rattle.quads.proofs.Writing.{corners_lent, drawable_corners, quad_of_corners}
use Rattle.terms.specs.Scenes.{scene_of}
use Rattle.drawing.specs.Written.{quad_written, side_words, Side}
use Rattle.drawing.proofs.write_side.Goals as goal

-- the number among the faces of all types, by type and face
parted : (w : ℕ) → 6 * (w / 6144) + w / 1024 % 6 ≡ w / 1024
parted w = omega arith

-- what is lent of the registry, n floats a vertex
abbrev lent_of : ℕ → ℕ → List ℕ → List ℕ
lent_of n w cubes = take (4 * n * (w / 1024) + 4 * n - 4 * n * (w / 1024)) (drop (4 * n * (w / 1024)) cubes)

-- the face at hand, with colour or without
module _ (S : Scene) (first y z w : ℕ) (within : Within S.size) (starts : Starts S.size first y z) (side : Side S first w) {b : Bool} (tint : S.types.coloured ≡ b) where
  abbrev at : Triple
  at = cords_of (w % 1024) y z

  below : w / 1024 % 6 < 6
  below = omega arith

  -- where the cell stands
  cords : at ≡ coordinates S.size (first + w % 1024)
  cords = row_cords S.size within starts (w % 1024) side.along

  n-is : floats S.types ≡ floats_of b
  n-is = ap floats_of tint

  lent_is : lent_of (floats_of b) w S.types.cubes ≡ corners_of (cube_of S.types (w / 6144)) (floats S.types) (w / 1024 % 6)
  lent_is =
      (λ i. let n = sym n-is i in let k = sym (parted w) i in take (4 * n * k + 4 * n - 4 * n * k) (drop (4 * n * k) S.types.cubes))
      ∙ corners_lent S.types.cubes (floats S.types) (w / 6144) (w / 1024 % 6) below

  drawable : Corners (lent_of (floats_of b) w S.types.cubes) (floats_of b) at S.d
  drawable =
      rw (lent_is, cords) (subst (λ (n : ℕ). Corners (corners_of (cube_of S.types (w / 6144)) (floats S.types) (w / 1024 % 6)) n
      (coordinates S.size (first + w % 1024)) S.d) n-is (drawable_corners (w / 1024 % 6) below side.drawable))

  drawn : quad_words (lent_of (floats_of b) w S.types.cubes) (floats_of b) S.d 0 at ≡ side_words S first w
  drawn = (λ i. quad_words (lent_is i) (sym n-is i) S.d 0 (cords i)) ∙ quad_of_corners (cube_of S.types (w / 6144)) (floats S.types) S.d (w / 1024 % 6) _

  said : {vs : Vertices} (us : Vertices) (q : ℕ) → vs ≡ quad_written b q (quad_words (lent_of (floats_of b) w S.types.cubes) (floats_of b) S.d 0 at) us
      → vs ≡ quad_written S.types.coloured q (side_words S first w) us
  said us q e = e ∙ λ i. quad_written (sym tint i) q (drawn i) us

pub invariant_of-quad : goal.invariant_of-quad
invariant_of-quad c =
    let row = c.args.row in
    record { is_drawable = drawable (scene_of c.args.scene) row.first row.y row.z c.args.side c.requires.0 c.requires.1 c.requires.2 c.if-scene.true }

pub invariant_of-quad-2 : goal.invariant_of-quad-2
invariant_of-quad-2 c =
    let row = c.args.row in
    record { is_drawable = drawable (scene_of c.args.scene) row.first row.y row.z c.args.side c.requires.0 c.requires.1 c.requires.2 c.if-scene.false }

pub returns-then-scene : goal.returns-then-scene
returns-then-scene c =
    let row = c.args.row in
    said (scene_of c.args.scene) row.first row.y row.z c.args.side c.requires.0 c.requires.1 c.requires.2 c.if-scene.true _ _ c.write_places.ensures

pub returns : goal.returns
returns c =
    let row = c.args.row in
    said (scene_of c.args.scene) row.first row.y row.z c.args.side c.requires.0 c.requires.1 c.requires.2 c.if-scene.false _ _ c.write_places-2.ensures
