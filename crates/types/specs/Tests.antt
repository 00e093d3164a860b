-- The types' tests, as the rules see them. Definitions only.
use Rattle.std.specs.Prelude.{ℕ, ◌*◌, ◌<◌, ◌≤◌, ◌≡◌, length, Bool, true, false, List}
use Rattle.std.proofs.Math.Option.{Option, none, some}
use Rattle.std.proofs.Math.Dec as Dec
use Rattle.rules.specs.Floats.{finite}
use Rattle.rules.specs.Cube.{floats_of}
use Rattle.rules.specs.Types.{Types, position_of}
use Rattle.std.specs.Prelude as std
use Rattle.std.specs.Prelude.{Some, None}
use Rattle.types.specs.declared.Types as declared

abbrev pub types_of : Bool → List ℕ → List ℕ → List ℕ → Types
types_of coloured kinds covers cubes = record { coloured = coloured; kinds = kinds; covers = covers; cubes = cubes }

abbrev pub types_in : declared.Types → Types
types_in types = types_of types.coloured types.kinds.now types.covers.now types.cubes.now

-- 24 vertices of 8 to 12 words
pub record Words (cube : List ℕ) (floats : ℕ) : Type 0 where
  pub least : 8 ≤ floats
  pub most : floats ≤ 12
  pub whole : 24 * floats ≤ length cube

-- every position is finite
abbrev pub Placed : List ℕ → ℕ → Type 0
Placed cube floats = (i axis : ℕ) → i < 24 → axis < 3 → Dec.T (finite (position_of cube floats i axis))

-- the counts are right
pub record Counted (coloured : Bool) (kinds cubes : List ℕ) : Type 0 where
  pub few : length kinds ≤ 255
  pub whole : length cubes ≡ 24 * floats_of coloured * length kinds

-- what the code tells of a triangle's class
abbrev pub class_in : std.Option ℕ → Option ℕ
class_in (Some face) = some face
class_in None = none
