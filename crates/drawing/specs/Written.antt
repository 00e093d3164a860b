-- What is written for faces that are drawn one after the other, in each list by itself. A face goes by its key, 6 · cell + face. Definitions only.
use Rattle.std.specs.Prelude.{ℕ, suc, ◌+◌, ◌-◌, ◌*◌, ◌/◌, ◌%◌, ◌≤◌, ◌<◌, Bool, List, [], ◌∷◌, ◌++◌, length, get_or, set}
use Rattle.rules.specs.Cells.{coordinates, link_of, first_vertex}
use Rattle.rules.specs.Cube.{floats_of}
use Rattle.rules.specs.Types.{floats, cube_of}
use Rattle.rules.specs.Mesh.{Attribute, attribute_in, Vertices, HasList, each_list, type_at}
use Rattle.rules.specs.Calls.{Scene, words_in}
use Rattle.vav.specs.Rows.{put}
use Rattle.quads.specs.Quads.{Drawable}

-- the rows of the faces, one after the other
abbrev pub rows_of : (ℕ → List ℕ) → List ℕ → List ℕ
rows_of row [] = []
rows_of row (k ∷ keys) = row k ++ rows_of row keys

-- a face's row in the links, and in an attribute's list
abbrev pub link_row : ℕ → List ℕ
link_row k = link_of k ∷ []

abbrev pub word_row : Scene → Attribute → List ℕ → ℕ → List ℕ
word_row S a g k = attribute_in (floats S.types) a 4 (words_in S (type_at g (k / 6)) (k % 6) (k / 6))

-- the faces' slots name the places from q on
abbrev pub named : ℕ → List ℕ → List ℕ → List ℕ
named q [] slots = slots
named q (k ∷ keys) slots = named (suc q) keys (set slots k (first_vertex q))

-- a face of the row of cells that starts at c, as a word: the face's number among those of all types, and where along the row its cell is
abbrev pub side_of : List ℕ → ℕ → ℕ → ℕ
side_of g c k = 6144 * get_or g (k / 6) 0 + (k / 6 - c) + 1024 * (k % 6)

abbrev pub side_words : Scene → ℕ → ℕ → List ℕ
side_words S c w = words_in S (w / 6144) (w / 1024 % 6) (c + w % 1024)

abbrev pub side_row : Scene → Attribute → ℕ → ℕ → List ℕ
side_row S a c w = attribute_in (floats S.types) a 4 (side_words S c w)

-- their rows in the list of each attribute, from place `base` on
abbrev pub rows_written : Scene → ℕ → List ℕ → ℕ → Vertices → Vertices
rows_written S c sides base = each_list S.types.coloured (λ a xs. put (4 * a.width * base) (rows_of (side_row S a c) sides) xs)

-- each attribute of a quad of those words, at place q of its list
abbrev pub quad_written : Bool → ℕ → List ℕ → Vertices → Vertices
quad_written coloured q ws = each_list coloured (λ a xs. put (4 * a.width * q) (attribute_in (floats_of coloured) a 4 ws) xs)

-- the list of each attribute has room for n quads
abbrev pub Long : Bool → ℕ → Vertices → Type 0
Long coloured n vs = (a : Attribute) (xs : List ℕ) → HasList coloured vs a xs → 4 * a.width * n ≤ length xs

-- it is of the row, and its type has a cube in the registry
pub record Side (S : Scene) (c w : ℕ) : Type 0 where
  pub along : w % 1024 < S.size.w
  pub cube : 24 * floats S.types * (w / 6144) + 24 * floats S.types ≤ length S.types.cubes
  pub drawable : Drawable (cube_of S.types (w / 6144)) (floats S.types) (coordinates S.size (c + w % 1024)) S.d
