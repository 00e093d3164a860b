-- A float is its 32 bits. Definitions only.
use Rattle.std.specs.Prelude.{ℕ, ◌%◌, Bool, ◌&&◌, pos, ltb, Float}
use Rattle.rules.specs.Cells.{Triple}
use Rattle.std.specs.Float.{binary32}
use Rattle.std.specs.Float.Ieee.{of_bits, of_int}

-- the float of a pattern, and a whole number as a float
abbrev pub f32 : ℕ → Float
f32 x = of_bits binary32 x

abbrev pub whole : ℕ → Float
whole n = of_int binary32 (pos n)

abbrev pub one : Float
one = f32 0x3f80_0000

abbrev pub two : Float
two = f32 0x4000_0000

-- with the sign's bit dropped, the pattern is below an infinity's
abbrev pub finite : ℕ → Bool
finite x = ltb (x % 0x8000_0000) 0x7f80_0000

abbrev pub finite3 : Triple → Bool
finite3 v = finite v.x && finite v.y && finite v.z
