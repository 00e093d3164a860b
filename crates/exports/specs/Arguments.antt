-- The level of the C calls, and a cube's arguments, as the rules see them. Definitions only.
use Rattle.std.specs.Prelude.{ℕ, List}
use Rattle.rules.specs.Cube.{Shape}
use Rattle.telling.specs.Numbers.{is_yes}

-- the level of the calls: after Q-7
abbrev pub ABI : ℕ
ABI = 5

abbrev pub shape_from : ℕ → ℕ → ℕ → ℕ → ℕ → List ℕ → ℕ → ℕ → ℕ → ℕ → ℕ → ℕ → ℕ → Shape
shape_from dx dy dz atlas_width atlas_height texture cx cy cz padding coloured colour alpha =
    record {
      d = record { x = dx; y = dy; z = dz };
      centre = record { x = cx; y = cy; z = cz };
      atlas_width = atlas_width;
      atlas_height = atlas_height;
      texture = texture;
      padding = padding;
      coloured = is_yes coloured;
      colour = colour;
      alpha = alpha;
    }
