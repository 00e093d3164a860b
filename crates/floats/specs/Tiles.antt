-- A face's tile, where it has one. Definitions only.
use Rattle.std.specs.Prelude.{ℕ, Option, Some, None}

-- the tile's number; 0 where there is none
abbrev pub tile_in : Option ℕ → ℕ
tile_in (Some tile) = tile
tile_in None = 0
