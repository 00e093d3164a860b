-- 01, "Cells, faces, words". Definitions only.
use Rattle.std.specs.Prelude.{ℕ, zero, suc, ◌+◌, ◌-◌, ◌*◌, ◌/◌, ◌%◌, ◌^◌, Bool, cond, eqb, ltb}
use Rattle.std.proofs.Math.Option.{Option, none, some}
use Rattle.rules.specs.Lists.{count}

-- width (x), height (y), length (z)
pub record Size : Type 0 where
  pub w : ℕ
  pub h : ℕ
  pub l : ℕ

abbrev pub cells : Size → ℕ
cells s = s.h * s.l * s.w

-- Cell = y·l·w + z·w + x, and its inverse
abbrev pub cell_at : Size → ℕ → ℕ → ℕ → ℕ
cell_at s x y z = y * s.l * s.w + z * s.w + x

abbrev pub x_of : Size → ℕ → ℕ
x_of s c = c % s.w

abbrev pub y_of : Size → ℕ → ℕ
y_of s c = c / s.w / s.l

abbrev pub z_of : Size → ℕ → ℕ
z_of s c = c / s.w % s.l

-- three numbers: along x, y and z
pub record Triple : Type 0 where
  pub x : ℕ
  pub y : ℕ
  pub z : ℕ

-- the one along an axis: 0 x, 1 y, 2 z
abbrev pub along : Triple → ℕ → ℕ
along v axis = cond (eqb axis 0) v.x (cond (eqb axis 1) v.y v.z)

-- `three_d_cords`
abbrev pub coordinates : Size → ℕ → Triple
coordinates s c = record { x = x_of s c; y = y_of s c; z = z_of s c }

-- Faces: Top 0 (+y), Bottom 1, Right 2 (+x), Left 3, Back 4 (+z), Forward 5. Opposites pair 0-1, 2-3, 4-5
abbrev pub opposite : ℕ → ℕ
opposite zero = 1
opposite (suc zero) = 0
opposite (suc (suc f)) = suc (suc (opposite f))

abbrev pub only_if : Bool → ℕ → Option ℕ
only_if b n = cond b (some n) none

-- the cell beside a cell, or none at the grid's edge
unfoldable pub neighbour : Size → ℕ → ℕ → Option ℕ
neighbour s c zero = only_if (ltb (y_of s c + 1) s.h) (c + s.l * s.w)
neighbour s c (suc zero) = only_if (ltb 0 (y_of s c)) (c - s.l * s.w)
neighbour s c (suc (suc zero)) = only_if (ltb (x_of s c + 1) s.w) (c + 1)
neighbour s c (suc (suc (suc zero))) = only_if (ltb 0 (x_of s c)) (c - 1)
neighbour s c (suc (suc (suc (suc zero)))) = only_if (ltb (z_of s c + 1) s.l) (c + s.w)
neighbour s c (suc (suc (suc (suc (suc zero))))) = only_if (ltb 0 (z_of s c)) (c - s.w)
neighbour s c (suc (suc (suc (suc (suc (suc f)))))) = none

-- Code of face f in the top three bits: 5 - f. The low 29 bits hold a number
abbrev pub UNIT : ℕ
UNIT = 536870912

abbrev pub code : ℕ → ℕ
code f = 5 - f

abbrev pub link_word : ℕ → ℕ → ℕ
link_word c f = code f * UNIT + c

abbrev pub cell_in : ℕ → ℕ
cell_in word = word % UNIT

abbrev pub code_in : ℕ → ℕ
code_in word = word / UNIT

-- A face of a cell by one number, 6 · cell + face, which is its slot's place too
abbrev pub key_of : ℕ → ℕ → ℕ
key_of c f = 6 * c + f

abbrev pub key_in : ℕ → ℕ
key_in word = key_of (cell_in word) (code (code_in word))

abbrev pub link_of : ℕ → ℕ
link_of key = link_word (key / 6) (key % 6)

-- quad q starts at vertex 4q
abbrev pub first_vertex : ℕ → ℕ
first_vertex q = 4 * q

-- A side set is a byte, bit f for face f
abbrev pub has : ℕ → ℕ → Bool
has set f = eqb (set / 2 ^ f % 2) 1

-- A set asks for as many quads as the set has ones
abbrev pub quads_of : ℕ → ℕ
quads_of set = count 6 (has set)

-- The place of a kept face among the kept ones: the count of smaller faces in the set
abbrev pub rank : ℕ → ℕ → ℕ
rank set f = count f (has set)

-- the set of the faces of which p holds
abbrev pub set_of : (ℕ → Bool) → ℕ
set_of p = cond (p 0) 1 0 + cond (p 1) 2 0 + cond (p 2) 4 0 + cond (p 3) 8 0 + cond (p 4) 16 0 + cond (p 5) 32 0
