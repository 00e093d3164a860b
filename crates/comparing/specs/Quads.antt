-- WRONG_VERTEX: what a comparison asks for. Definitions only.
use Rattle.std.specs.Prelude.{ℕ, ◌+◌, ◌*◌, ◌≤◌, ◌<◌, ◌≡◌, Bool, true, cond, not, ◌||◌, List, length, get_or}
use Rattle.rules.specs.Lists.{row, same}
use Rattle.rules.specs.Cells.{cells, code, code_in, cell_in}
use Rattle.rules.specs.Cube.{floats_of}
use Rattle.rules.specs.Types.{floats, cube_of}
use Rattle.rules.specs.Mesh.{Attribute, position, normal, uv, colour, attribute_in, Vertices, HasList, type_at}
use Rattle.rules.specs.Calls.{Scene, words_in}
use Rattle.util.specs.Grid.{Within}
use Rattle.types.specs.Tests.{Placed}

-- the words of the face that a link names
abbrev pub quad_words_at : Scene → List ℕ → ℕ → List ℕ
quad_words_at S g link = words_in S (type_at g (cell_in link)) (code (code_in link)) (cell_in link)

-- quad q differs in any of its floats of an attribute
abbrev pub other_row : Scene → Attribute → List ℕ → List ℕ → List ℕ → ℕ → Bool
other_row S a g list links q = not (same (row (4 * a.width) list q) (attribute_in (floats S.types) a 4 (quad_words_at S g (get_or links q 0))))

-- in any float of any attribute
abbrev pub other_quad : Scene → List ℕ → Vertices → List ℕ → ℕ → Bool
other_quad S g vs links q =
    let other = other_row S position g vs.positions links q || other_row S normal g vs.normals links q || other_row S uv g vs.uvs links q in
    cond S.types.coloured (other || other_row S colour g vs.colours links q) other

-- row q lies in the list of each attribute, and holds the attribute's words of the quad
abbrev pub HasRow : Bool → Vertices → ℕ → Type 0
HasRow coloured vs q = (a : Attribute) (xs : List ℕ) → HasList coloured vs a xs → 4 * a.width * q + 4 * a.width ≤ length xs

abbrev pub IsQuad : Bool → Vertices → ℕ → List ℕ → Type 0
IsQuad coloured vs q words = (a : Attribute) (xs : List ℕ) → HasList coloured vs a xs
    → same (row (4 * a.width) xs q) (attribute_in (floats_of coloured) a 4 words) ≡ true

-- quads that are linked to cubes of the grid
pub record Linking (S : Scene) (g links : List ℕ) (count : ℕ) : Type 0 where
  pub within : Within S.size
  pub whole : length g ≡ cells S.size
  pub stretch : (c : ℕ) → c < length g → 24 * floats S.types * get_or g c 0 + 24 * floats S.types ≤ length S.types.cubes
  pub linked : count ≤ length links
  pub code : (q : ℕ) → q < count → code_in (get_or links q 0) ≤ 5
  pub inside : (q : ℕ) → q < count → cell_in (get_or links q 0) < cells S.size
  pub placed : (q : ℕ) → q < count → Placed (cube_of S.types (type_at g (cell_in (get_or links q 0)))) (floats S.types)

-- with room in the list of each attribute
pub record ComparableAll (S : Scene) (g : List ℕ) (vs : Vertices) (links : List ℕ) (count : ℕ) : Type 0 where
  pub linking : Linking S g links count
  pub room : (a : Attribute) (xs : List ℕ) → HasList S.types.coloured vs a xs → 4 * a.width * count ≤ length xs
