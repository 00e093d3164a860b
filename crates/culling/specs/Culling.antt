-- What culling asks of a cell, as the rules see it. Definitions only.
use Rattle.std.specs.Prelude.{ℕ, ◌+◌, ◌<◌, ◌≡◌, Bool, List, [], length, get_or}
use Rattle.rules.specs.Lists.{member}
use Rattle.rules.specs.Cells.{Size, cells, neighbour, set_of}
use Rattle.rules.specs.Mesh.{World, shown, drawn}
use Rattle.util.specs.Grid.{Within}

-- sizes, kinds and covering sets alone
abbrev pub world_of : Size → List ℕ → List ℕ → World
world_of size kinds covers = record { size = size; kinds = kinds; covers = covers; words_of = λ t f c. [] }

-- the faces of the outer list
abbrev pub outer_set : List ℕ → ℕ
outer_set outer = set_of (λ f. member f outer)

-- side f of cell c is not covered by what is beside it
abbrev pub shown_at : Size → List ℕ → List ℕ → List ℕ → ℕ → ℕ → Bool
shown_at size covers outer g c f = shown (world_of size [] covers) outer g f (neighbour size c f)

-- a whole grid whose codes are types
pub record Whole (size : Size) (g : List ℕ) (types : ℕ) : Type 0 where
  pub within : Within size
  pub whole : length g ≡ cells size
  pub typed : (k : ℕ) → k < length g → get_or g k 0 < types

-- the side sets of the row of cells from `first` on
abbrev pub RowShown : Size → List ℕ → List ℕ → List ℕ → List ℕ → ℕ → List ℕ → Type 0
RowShown size kinds covers faces g first sets = (x : ℕ) → x < size.w → get_or sets x 0 ≡ set_of (drawn (world_of size kinds covers) faces g (first + x))
