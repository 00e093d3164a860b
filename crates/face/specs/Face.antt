-- The faces of 01 by their numbers. Definitions only.
use Rattle.std.specs.Prelude.{ℕ, zero, suc, ◌+◌, ◌*◌, ◌<◌, ◌≡◌, List, cond, eqb, ltb, get_or, Option, Some, None}
use Rattle.rules.specs.Cells.{code, cell_in, code_in, rank}
use Rattle.face.specs.declared.Face.{Face}
use Rattle.face.specs.declared.Face.TheVariants.{Top, Bottom, Right, Left, Back, Forward}

-- Top 0, Bottom 1, Right 2, Left 3, Back 4, Forward 5
abbrev pub number : Face → ℕ
number Top = 0
number Bottom = 1
number Right = 2
number Left = 3
number Back = 4
number Forward = 5

-- the face of a number, and none past 5
abbrev pub face_at : ℕ → Option Face
face_at zero = Some Top
face_at (suc zero) = Some Bottom
face_at (suc (suc zero)) = Some Right
face_at (suc (suc (suc zero))) = Some Left
face_at (suc (suc (suc (suc zero)))) = Some Back
face_at (suc (suc (suc (suc (suc zero))))) = Some Forward
face_at (suc (suc (suc (suc (suc (suc n)))))) = None

-- the face of a code, 5 - f, and none past 5
abbrev pub face_of_code : ℕ → Option Face
face_of_code k = cond (ltb 5 k) None (face_at (code k))

-- the face of a code that stands in the top three bits, above a zero
abbrev pub face_of_word : ℕ → Option Face
face_of_word u = cond (eqb (cell_in u) 0) (face_of_code (code_in u)) None

-- a list has the rank of each face in each set
abbrev pub Ranked : List ℕ → Type 0
Ranked ranks = (set f : ℕ) → set < 64 → f < 6 → get_or ranks (6 * set + f) 0 ≡ rank set f
