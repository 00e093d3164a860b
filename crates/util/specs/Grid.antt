-- The grid's declared types as those of the rules. Definitions only.
use Rattle.std.specs.Prelude as std
use Rattle.std.specs.Prelude.{Some, None, ℕ, ◌+◌, ◌/◌, ◌≤◌, ◌<◌, ◌≡◌}
use Rattle.std.proofs.Math.Option.{Option, none, some}
use Rattle.rules.specs.Cells.{Size, Triple, cells, coordinates}
use Rattle.util.specs.declared.Dimensions.{Dimensions}
use Rattle.util.specs.declared.Coordinates.{Coordinates}
use Rattle.util.specs.declared.Inverse.{Inverse}
use Rattle.face.specs.declared.Cell.{Cell}

abbrev pub size_of : Dimensions → Size
size_of dims = record { w = dims.width; h = dims.height; l = dims.length }

abbrev pub triple_of : Coordinates → Triple
triple_of cords = record { x = cords.x; y = cords.y; z = cords.z }

abbrev pub cords_of : ℕ → ℕ → ℕ → Triple
cords_of x y z = record { x = x; y = y; z = z }

abbrev pub cell_in : std.Option Cell → Option ℕ
cell_in (Some cell) = some cell.0
cell_in None = none

-- Each size 1 to 1,024
pub record Sides (s : Size) : Type 0 where
  pub wide : 1 ≤ s.w
  pub high : 1 ≤ s.h
  pub long : 1 ≤ s.l
  pub widest : s.w ≤ 1024
  pub highest : s.h ≤ 1024
  pub longest : s.l ≤ 1024

-- and at most 1,048,576 cells
pub record Within (s : Size) : Type 0 where
  pub sides : Sides s
  pub most : cells s ≤ 1048576

-- cell c starts the row of y and z
pub record Starts (s : Size) (c y z : ℕ) : Type 0 where
  pub inside : c < cells s
  pub cords : cords_of 0 y z ≡ coordinates s c

-- 2³² over n, rounded up
unfoldable pub inverse_of : ℕ → ℕ
inverse_of n = (4294967295 + n) / n

pub record Inverts (s : Size) (v : Inverse) : Type 0 where
  pub width : v.width ≡ inverse_of s.w
  pub length : v.length ≡ inverse_of s.l
