-- WRONG_SET, told by slots: after BAD_LINKS has passed, a face is there exactly if its slot is filled. Definitions only.
use Rattle.std.specs.Prelude.{ℕ, zero, suc, ◌+◌, ◌*◌, ◌/◌, ◌%◌, ◌^◌, Bool, cond, List}
use Rattle.rules.specs.Cells.{key_of, set_of}
use Rattle.rules.specs.Mesh.{World, drawn}
use Rattle.rules.specs.Answers.{is_filled, unlike}
use Rattle.util.specs.Grid.{size_of}
use Rattle.culling.specs.Culling.{world_of}
use Rattle.culling.specs.declared.Ground.{Ground}

-- the faces of a cell whose slots are filled
abbrev pub filled_set : List ℕ → ℕ → ℕ
filled_set slots c = set_of (λ f. is_filled slots (key_of c f))

-- the first k of p, a bit each
unfoldable pub bits : (ℕ → Bool) → ℕ → ℕ
bits p zero = 0
bits p (suc k) = bits p k + cond (p k) (2 ^ k) 0

-- four side sets side by side
abbrev pub four_sets : (ℕ → ℕ) → ℕ
four_sets set = set 0 + 64 * set 1 + 4096 * set 2 + 262144 * set 3

-- a face that is drawn and not there, or there and not drawn
abbrev pub wrong_slot : World → List ℕ → List ℕ → List ℕ → ℕ → Bool
wrong_slot W outer g slots k = unlike (drawn W outer g (k / 6) (k % 6)) (is_filled slots k)

-- the same in the grid that is told
abbrev pub wrong_at : Ground → List ℕ → List ℕ → ℕ → Bool
wrong_at told faces slots = wrong_slot (world_of (size_of told.dims) told.kinds.now told.covers.now) faces told.grid.now slots

-- the same in a row of cells from `first` on, by the sides that each is to show, its faces counted from the row's first
abbrev pub wrong_in_row : (ℕ → ℕ → Bool) → List ℕ → ℕ → ℕ → Bool
wrong_in_row sides slots first k = unlike (sides (k / 6) (k % 6)) (is_filled slots (6 * first + k))
