-- What the vertices of a cube are made of: two corners, and a tile a face. Definitions only.
use Rattle.std.specs.Prelude.{ℕ, ◌-◌, ◌/◌, ◌≡◌, Bool, true, false, cond, eqb, ltb}
use Rattle.std.specs.Prelude.{Option, Some, None}
use Rattle.std.proofs.Math.Option as Math
use Rattle.rules.specs.Cells as cells
use Rattle.rules.specs.Cells.{along}
use Rattle.rules.specs.Cube as rules
use Rattle.rules.specs.Cube.{is_high, is_end, corner_word, last_naming, uv_in, normal_of}
use Rattle.floats.specs.declared.Triple.{Triple}
use Rattle.floats.specs.Triples.{triple_of}
use Rattle.voxel_mesh.specs.declared.Shape.{Shape}
use Rattle.voxel_mesh.specs.declared.Tile.{Tile}

-- the entry that names a face, if any
abbrev pub naming_in : Option ℕ → Math.Option ℕ
naming_in (Some n) = Math.some n
naming_in None = Math.none

-- the corner on the low or on the high side of all three axes
abbrev pub corner_in : rules.Shape → Bool → cells.Triple
corner_in q high =
    record {
      x = corner_word high q.d.x q.centre.x;
      y = corner_word high q.d.y q.centre.y;
      z = corner_word high q.d.z q.centre.z;
    }

pub record Cornered (q : rules.Shape) (low high : Triple) : Type 0 where
  pub low_is : triple_of low ≡ corner_in q false
  pub high_is : triple_of high ≡ corner_in q true

pub record Tiled (q : rules.Shape) (face : ℕ) (t : Tile) : Type 0 where
  pub left_is : t.left ≡ uv_in q (last_naming q.texture face 6) false 0
  pub right_is : t.right ≡ uv_in q (last_naming q.texture face 6) true 0
  pub top_is : t.top ≡ uv_in q (last_naming q.texture face 6) false 1
  pub bottom_is : t.bottom ≡ uv_in q (last_naming q.texture face 6) true 1

-- a tile's word at its end or its start, along u (0) or v
abbrev pub tile_word : Tile → Bool → ℕ → ℕ
tile_word t end axis = cond (eqb axis 0) (cond end t.right t.left) (cond end t.bottom t.top)

-- word k of a vertex
unfoldable pub part_word : Shape → Triple → Triple → Tile → ℕ → ℕ → ℕ
part_word s low high t vertex k =
    cond (ltb k 3) (cond (is_high vertex k) (along (triple_of high) k) (along (triple_of low) k))
    (cond (ltb k 6) (normal_of (vertex / 4) (k - 3))
    (cond (ltb k 8) (tile_word t (is_end vertex (k - 6)) (k - 6))
    (cond (ltb k 11) s.colour s.alpha)))
