-- What is lent to a call, as the rules see it, and what an accepted one is known to be. Definitions only.
use Rattle.std.specs.Prelude.{◌≡◌, ℕ, ◌*◌, ◌^◌, ◌<◌, ◌≤◌, true, T, List, length, slice_index}
use Rattle.rules.specs.Cells.{cells}
use Rattle.rules.specs.Floats.{finite3}
use Rattle.rules.specs.Types.{floats, cube_of, is_cube}
use Rattle.rules.specs.Mesh.{Lists}
use Rattle.rules.specs.Calls as rules
use Rattle.util.specs.Grid.{Within}
use Rattle.types.specs.Tests.{Counted}
use Rattle.terms.specs.declared.Lengths.{Lengths}

-- lists of these lengths
pub record Long (B : Lists) (n : Lengths) : Type 0 where
  pub positions : length B.vertices.positions ≡ n.positions
  pub normals : length B.vertices.normals ≡ n.normals
  pub uvs : length B.vertices.uvs ≡ n.uvs
  pub colours : length B.vertices.colours ≡ n.colours
  pub triangles : length B.triangles ≡ n.triangles
  pub links : length B.links ≡ n.links
  pub slots : length B.slots ≡ n.slots

-- what accepted types, d and centre are known to be
pub record Typed (S : rules.Scene) : Type 0 where
  pub covered : length S.types.covers ≡ length S.types.kinds
  pub counted : Counted S.types.coloured S.types.kinds S.types.cubes
  pub kind : (t : ℕ) → t < length S.types.kinds → slice_index S.types.kinds t ≤ 2
  pub set : (t : ℕ) → t < length S.types.kinds → slice_index S.types.covers t ≤ 63
  pub d : T (finite3 S.d)
  pub centre : T (finite3 S.centre)
  pub cube : (t : ℕ) → t < length S.types.kinds → slice_index S.types.kinds t ≡ 1
      → is_cube (cube_of S.types t) (floats S.types) S.centre ≡ true

-- what an accepted input is known to be
pub record Admitted (S : rules.Scene) (outer g : List ℕ) (B : Lists) : Type 0 where
  pub within : Within S.size
  pub whole : length g ≡ cells S.size
  pub typed : Typed S
  pub face : (i : ℕ) → i < length outer → slice_index outer i ≤ 5
  pub type : (c : ℕ) → c < length g → slice_index g c < length S.types.kinds
  pub slotted : 6 * cells S.size ≤ length B.slots

-- a lent mesh with its six slots a cell and room for its quads
pub record Lent (cells : ℕ) (links slots : List ℕ) (count : ℕ) : Type 0 where
  pub few : cells ≤ 1048576
  pub slotted : 6 * cells ≤ length slots
  pub linked : count ≤ length links
  pub fits : 4 * count < 2 ^ 64
