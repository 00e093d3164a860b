-- The words of a face's corners, and what drawing them asks for. Definitions only.
use Rattle.std.specs.Prelude.{ℕ, ◌+◌, ◌*◌, ◌<◌, ◌≤◌, List, length, T}
use Rattle.rules.specs.Lists.{part}
use Rattle.rules.specs.Cells.{Triple}
use Rattle.rules.specs.Floats.{finite, finite3}
use Rattle.rules.specs.Types.{position_of}
use Rattle.rules.specs.Mesh.{Attribute}
use Rattle.types.specs.Tests.{Words, Placed}

-- the four vertices of face f of a cube, n floats each
abbrev pub corners_of : List ℕ → ℕ → ℕ → List ℕ
corners_of cube n f = part (4 * n * f) (4 * n) cube

-- vertices of n floats have the attribute
abbrev pub Has : ℕ → Attribute → Type 0
Has n a = a.start + a.width ≤ n

-- four vertices of 8 to 12 words
pub record FourVertices (corners : List ℕ) (floats : ℕ) : Type 0 where
  pub least : 8 ≤ floats
  pub most : floats ≤ 12
  pub whole : 4 * floats ≤ length corners

-- corners of finite positions, which d and the coordinates `a` move
pub record Corners (corners : List ℕ) (floats : ℕ) (a d : Triple) : Type 0 where
  pub words : FourVertices corners floats
  pub placed : (i axis : ℕ) → i < 4 → axis < 3 → T (finite (position_of corners floats i axis))
  pub finite : T (finite3 d)
  pub x : a.x ≤ 1024
  pub y : a.y ≤ 1024
  pub z : a.z ≤ 1024

-- a cube of finite positions, which d and the coordinates `a` move
pub record Drawable (cube : List ℕ) (floats : ℕ) (a d : Triple) : Type 0 where
  pub words : Words cube floats
  pub placed : Placed cube floats
  pub finite : T (finite3 d)
  pub x : a.x ≤ 1024
  pub y : a.y ≤ 1024
  pub z : a.z ≤ 1024
