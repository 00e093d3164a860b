-- The vertices of a mesh, as steps replay them. Definitions only.
use Rattle.std.specs.Prelude.{ℕ, ◌+◌, ◌*◌, ◌/◌, ◌%◌, ◌≤◌, ◌<◌, Bool, List, length, T}
use Rattle.rules.specs.Cells.{cells}
use Rattle.rules.specs.Floats.{finite3}
use Rattle.rules.specs.Types.{floats, cube_of}
use Rattle.rules.specs.Mesh.{Attribute, attribute_in, Vertices, each_list}
use Rattle.rules.specs.Calls.{Scene, words_in}
use Rattle.util.specs.Grid.{Within}
use Rattle.types.specs.Tests.{Placed}
use Rattle.vav.specs.Rows.{freed}
use Rattle.drawing.specs.Written.{Long}
use Rattle.steps.specs.Steps.{Step, Shelf, shelf, replayed, left, Can}

-- the vertex words of a key and a type, and an attribute of them
abbrev pub words_by : Scene → ℕ → ℕ → List ℕ
words_by S k t = words_in S t (k % 6) (k / 6)

abbrev pub row_by : Scene → Attribute → ℕ → ℕ → List ℕ
row_by S a k t = attribute_in (floats S.types) a 4 (words_by S k t)

-- what steps do to an attribute's list, and to the list of each
abbrev pub run_of : Scene → Attribute → List Step → Shelf → Shelf
run_of S a = replayed (4 * a.width) (row_by S a)

abbrev pub run_all : Scene → List Step → ℕ → Vertices → Vertices
run_all S xs Q = each_list S.types.coloured (λ a ws. (run_of S a xs (shelf ws Q)).words)

-- the lists and how many quads they hold
pub record Shelves : Type 0 where
  pub vertices : Vertices
  pub quads : ℕ

abbrev pub shelves : Vertices → ℕ → Shelves
shelves vs Q = record { vertices = vs; quads = Q }

abbrev pub ran_all : Scene → List Step → Shelves → Shelves
ran_all S xs v = shelves (run_all S xs v.quads v.vertices) (left xs v.quads)

-- place q of Q, freed in the list of each
abbrev pub quad_freed : Bool → ℕ → ℕ → Vertices → Vertices
quad_freed coloured q Q = each_list coloured (λ a xs. freed (4 * a.width) q Q xs)

-- a type whose cube can be drawn
pub record Shaped (S : Scene) (t : ℕ) : Type 0 where
  pub whole : 24 * floats S.types * t + 24 * floats S.types ≤ length S.types.cubes
  pub placed : Placed (cube_of S.types t) (floats S.types)
  pub finite : T (finite3 S.d)

-- a face of the grid, and a type with a cube
abbrev pub Drawn : Scene → ℕ → ℕ → Type 0
Drawn S k t = (k / 6 < cells S.size) × Shaped S t

-- steps that can be done on the list of each attribute, in a room of quads
pub record ReplayingAll (S : Scene) (xs : List Step) (vs : Vertices) (Q : ℕ) : Type 0 where
  pub room : ℕ
  pub within : Within S.size
  pub fits : Long S.types.coloured room vs
  pub here : Q ≤ room
  pub can : Can (Drawn S) room xs Q
