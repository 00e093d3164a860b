-- Which fresh cubes pass the class test. Definitions only.
use Rattle.std.specs.Prelude.{ℕ, Bool, true, false, cond, not, ◌&&◌, Float}
use Rattle.std.specs.Float.Ieee.{lt}
use Rattle.std.specs.Float.Ieee.Scale.{finite}
use Rattle.rules.specs.Cells.{along}
use Rattle.rules.specs.Floats.{f32}
use Rattle.rules.specs.Cube.{Shape, high_of, low_of}

-- the cube's coordinate on an axis: its high side or its low one
abbrev pub side_at : Shape → Bool → ℕ → Float
side_at q high axis = cond high (high_of (along q.d axis) (along q.centre axis)) (low_of (along q.d axis) (along q.centre axis))

-- both are finite, and low < centre ≤ high
unfoldable pub around : Shape → ℕ → Bool
around q axis =
    let centre = f32 (along q.centre axis) in
    finite (side_at q true axis) && finite (side_at q false axis) && lt (side_at q false axis) centre && not (lt (side_at q true axis) centre)

-- so on each axis
unfoldable pub surrounds : Shape → Bool
surrounds q = around q 0 && around q 1 && around q 2
