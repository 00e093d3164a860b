-- A row of cells and the four rows beside it. Definitions only.
use Rattle.std.specs.Prelude.{ℕ, zero, suc, ◌+◌, ◌≤◌, ◌<◌, ◌≡◌, Bool, true, false, cond, not, eqb, ltb}
use Rattle.rules.specs.Cells.{Size, cells, coordinates, only_if, neighbour}
use Rattle.util.specs.Grid.{Within, Starts}
use Rattle.row_sets.specs.declared.around.Around.{Around}

-- not along the row
abbrev pub is_row_face : ℕ → Bool
is_row_face zero = true
is_row_face (suc zero) = true
is_row_face (suc (suc zero)) = false
is_row_face (suc (suc (suc zero))) = false
is_row_face (suc (suc (suc (suc f)))) = true

-- on side f of the row that starts at `at` is the one that starts at `to`, or none if that is the row itself
pub record RowBeside (size : Size) (at f to : ℕ) : Type 0 where
  pub fits : to + size.w ≤ cells size
  pub is : (x : ℕ) → x < size.w → neighbour size (at + x) f ≡ only_if (not (eqb to at)) (to + x)

-- there is a cell on side f of the row's cell at x, and where it is
abbrev pub is_there : Size → Around → ℕ → ℕ → Bool
is_there s rows x zero = not (eqb rows.up rows.at)
is_there s rows x (suc zero) = not (eqb rows.down rows.at)
is_there s rows x (suc (suc zero)) = ltb (x + 1) s.w
is_there s rows x (suc (suc (suc zero))) = ltb 0 x
is_there s rows x (suc (suc (suc (suc zero)))) = not (eqb rows.back rows.at)
is_there s rows x (suc (suc (suc (suc (suc f))))) = not (eqb rows.forward rows.at)

pub record RowsOf (s : Size) (rows : Around) : Type 0 where
  pub within : Within s
  pub starts : Starts s rows.at (coordinates s rows.at).y (coordinates s rows.at).z
  pub fits : rows.at + s.w ≤ cells s
  pub up : RowBeside s rows.at 0 rows.up
  pub down : RowBeside s rows.at 1 rows.down
  pub back : RowBeside s rows.at 4 rows.back
  pub forward : RowBeside s rows.at 5 rows.forward
  pub sides : rows.sides ≡ cond (is_there s rows 0 0) 1 0 + cond (is_there s rows 0 1) 2 0 + cond (is_there s rows 0 4) 16 0 + cond (is_there s rows 0 5) 32 0
