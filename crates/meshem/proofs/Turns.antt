-- A face that is drawn has its cube. Assumes nothing.
use mathlib.Core.Path.{◌≡◌, refl, sym, subst}
use mathlib.Core.Bool.{Bool, true, false}
use mathlib.Core.List.{List, [], ◌∷◌, map}
use Prim.Native.Nat.{ℕ, ◌+◌, ◌*◌, ◌/◌, ◌≤◌, ◌<◌}
use native.Mathlib.Omega.{arith}
use lib.ListN.{length, get_or}
use borrow.Author.Tests.{eqb-true, eq-eqb}
use Rattle.rules.specs.Lists.{count}
use Rattle.rules.specs.Cells.{cells, coordinates, key_of, quads_of}
use Rattle.rules.specs.Types.{floats, cube_of}
use Rattle.rules.specs.Mesh.{World, type_at, is_normal_cube, drawn}
use Rattle.rules.specs.Calls.{Scene, world}
use Rattle.rules.specs.Answers.{not_a_cube}
use Rattle.rules.proofs.ListLaws.{All, split}
use Rattle.rules.proofs.Neighbours.{inside_of}
use Rattle.voxel_mesh.proofs.Shapes.{few, row_within}
use Rattle.types.proofs.Known.{cube_placed}
use Rattle.lent.specs.Scenes.{Typed}
use Rattle.culling.specs.Culling.{world_of}
use Rattle.culling.specs.Culling.{Whole}
use Rattle.rules.proofs.ListLaws.{within}
use Rattle.culling.proofs.Sides.{set_of_cong, drawn_by}
use Rattle.vav.proofs.Laws.{length_part}
use Rattle.drawing.specs.Written.{side_of, Side}
use Rattle.drawing.proofs.Sides.{InRow, side_type, side_face, side_cell}
use Rattle.quads.specs.Quads.{Drawable}
use Rattle.listing.specs.Fresh.{set_at, faces_of, keys_of}
use Rattle.listing.proofs.Sets.{rank_below}
use Rattle.listing.proofs.Keys.{all_keys, keys_like}

-- the sets ask nothing of the words of quads
pub set_world : (S : Scene) (culling : Bool) (outer g : List ℕ) (c : ℕ)
    → set_at culling (world_of S.size S.types.kinds S.types.covers) outer g c ≡ set_at culling (world S) outer g c
unfolding set_at
set_world S true outer g c =
    set_of_cong (drawn (world_of S.size S.types.kinds S.types.covers) outer g c) (drawn (world S) outer g c) (λ f l. drawn_by (world S) outer g c f)
set_world S false outer g c = refl

-- a cell that asks for quads holds a NormalCube
none_asked : (culling : Bool) (W : World) (outer g : List ℕ) (c : ℕ) → is_normal_cube W (type_at g c) ≡ false → quads_of (set_at culling W outer g c) ≡ 0
unfolding set_at count
none_asked true W outer g c e = rw e
none_asked false W outer g c e = rw e

pub cube_asked : (culling : Bool) (W : World) (outer g : List ℕ) (c : ℕ) → 0 < quads_of (set_at culling W outer g c) → get_or W.kinds (type_at g c) 0 ≡ 1
cube_asked culling W outer g c h =
    split (λ t. is_normal_cube W (type_at g c) ≡ t → get_or W.kinds (type_at g c) 0 ≡ 1) (is_normal_cube W (type_at g c))
    (λ s e. eqb-true _ 1 e) (λ s e. let z = none_asked culling W outer g c e in absurd (omega arith)) refl

module _ (S : Scene) (culling : Bool) (outer : ℕ) (g : List ℕ) where
  abbrev pub set_in : ℕ → ℕ
  set_in = set_at culling (world S) (faces_of outer) g

  -- a cell's type, and its cube
  module _ (whole : Whole S.size g (length S.types.kinds)) (types : Typed S) (c : ℕ) (inside : c < cells S.size) where
    in_list : c < length g
    in_list = rw whole.whole inside

    pub type_is : type_at g c ≡ get_or g c 0
    type_is = within g c 255 0 in_list

    pub type_listed : type_at g c < length S.types.kinds
    type_listed = rw type_is (whole.typed c in_list)

    cube_ends : 24 * floats S.types * type_at g c + 24 * floats S.types ≤ length S.types.cubes
    cube_ends = rw types.counted.whole (row_within (24 * floats S.types) (type_at g c) (length S.types.kinds) type_listed)

    pub drawable : 0 < quads_of (set_in c) → Drawable (cube_of S.types (type_at g c)) (floats S.types) (coordinates S.size c) S.d
    unfolding not_a_cube
    drawable h =
        let k = cube_asked culling (world S) (faces_of outer) g c h in
        let l = few S.types.coloured in
        let i = inside_of S.size c whole.within.sides.wide whole.within.sides.long inside in
        let s = whole.within.sides in
        record {
          words = record { least = l.0; most = l.1; whole = omega (arith, length_part (24 * floats S.types * type_at g c) (24 * floats S.types) S.types.cubes cube_ends) };
          placed = cube_placed S.types S.centre (type_at g c) (not_refused k) k;
          finite = types.d;
          x = omega (arith, i.x, s.widest);
          y = omega (arith, i.y, s.highest);
          z = omega (arith, i.z, s.longest);
        }
      where
        not_refused : get_or S.types.kinds (type_at g c) 0 ≡ 1 → not_a_cube S.types S.centre (type_at g c) ≡ false
        not_refused k = rw (eq-eqb (get_or S.types.kinds (type_at g c) 0) 1 k, types.cube (type_at g c) type_listed k)

  -- LAW: each face of a row that its side sets draw is in the row and can be drawn
  pub row_sides : Whole S.size g (length S.types.kinds) → Typed S → (c w : ℕ) → w ≡ S.size.w → c + w ≤ cells S.size
      → All (λ k. InRow g c k × Side S c (side_of g c k)) (keys_of set_in c w)
  row_sides whole types c w e h =
      all_keys (λ k. InRow g c k × Side S c (side_of g c k)) set_in w c
      (λ k f a b l shows.
      let key = key_of k f in
      let here : key / 6 ≡ k = omega arith in
      let some = rank_below (set_in k) f shows l in
      let inside : k < cells S.size = omega arith in
      let at = whole.whole in
      let r : InRow g c key = record { from = omega arith; to = omega (arith, whole.within.sides.widest); inside = omega arith } in
      let y = side_cell r in
      let z = side_face r in (
        r,
        record {
          along = omega arith;
          cube = rw (side_type r, here) (cube_ends whole types k inside);
          drawable = rw (side_type r, y, here) (drawable whole types k inside (omega arith));
        },
      ))

  -- and by the sets that the code finds
  pub found_sides : Whole S.size g (length S.types.kinds) → Typed S → (c w : ℕ) → w ≡ S.size.w → c + w ≤ cells S.size
      → All (λ k. InRow g c k × Side S c (side_of g c k)) (keys_of (set_at culling (world_of S.size S.types.kinds S.types.covers) (faces_of outer) g) c w)
  found_sides whole types c w e h =
      subst (All (λ k. InRow g c k × Side S c (side_of g c k)))
      (keys_like set_in (set_at culling (world_of S.size S.types.kinds S.types.covers) (faces_of outer) g) w c
      (λ k a b. sym (set_world S culling (faces_of outer) g k)))
      (row_sides whole types c w e h)

pub all_in_row : (S : Scene) (g : List ℕ) (c : ℕ) (keys : List ℕ) → All (λ k. InRow g c k × Side S c (side_of g c k)) keys → All (InRow g c) keys
all_in_row S g c [] h = tt
all_in_row S g c (k ∷ keys) h = (h.0.0, all_in_row S g c keys h.1)

pub all_sides : (S : Scene) (g : List ℕ) (c : ℕ) (keys : List ℕ) → All (λ k. InRow g c k × Side S c (side_of g c k)) keys → All (Side S c) (map (side_of g c) keys)
all_sides S g c [] h = tt
all_sides S g c (k ∷ keys) h = (h.0.1, all_sides S g c keys h.1)
