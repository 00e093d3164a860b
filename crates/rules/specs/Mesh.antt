-- 01, "A mesh"; 02, Q-8: the quads, fresh meshing, and how the quads lie in the lists. Definitions only.
use Rattle.std.specs.Prelude.{ℕ, suc, ◌+◌, ◌-◌, ◌*◌, ◌≡◌, Bool, true, cond, not, ◌&&◌, List, [], ◌∷◌, ◌++◌, length, get_or, drop, replicate, eqb}
use Rattle.std.proofs.Math.Option.{Option, none, some}
use Rattle.rules.specs.Lists.{each, table, only, part, row, is_nil, member, filled}
use Rattle.rules.specs.Cube.{floats_of}
use Rattle.rules.specs.Cells.{Size, cells, opposite, neighbour, key_of, key_in, link_of, first_vertex, has}

-- a quad: the face it shows, 6 · cell + face, and the words of its four vertices
pub record Quad : Type 0 where
  pub key : ℕ
  pub words : List ℕ

-- ---- what is meshed: sizes, types, and the words of the quad of a type, a face and a cell
pub record World : Type 0 where
  pub size : Size
  pub kinds : List ℕ
  pub covers : List ℕ
  pub words_of : ℕ → ℕ → ℕ → List ℕ

-- a code of the grid; a cell that is not in it has none
abbrev pub type_at : List ℕ → ℕ → ℕ
type_at g c = get_or g c 255

abbrev pub is_normal_cube : World → ℕ → Bool
is_normal_cube W t = eqb (get_or W.kinds t 0) 1

abbrev pub covering : World → ℕ → ℕ → Bool
covering W t f = has (get_or W.covers t 0) f

-- ---- fresh meshing goes by cell, then face

-- beside a neighbour: its type does not cover f's opposite; at the grid's edge: f is not in the outer list
abbrev pub shown : World → List ℕ → List ℕ → ℕ → Option ℕ → Bool
shown W outer g f none = not (member f outer)
shown W outer g f (some n) = not (covering W (type_at g n) (opposite f))

-- side f of cell c is drawn
abbrev pub drawn : World → List ℕ → List ℕ → ℕ → ℕ → Bool
drawn W outer g c f = is_normal_cube W (type_at g c) && shown W outer g f (neighbour W.size c f)

-- face f of cell c as a quad of type t, and of the type that the cell has
abbrev pub quad_of : World → ℕ → ℕ → ℕ → Quad
quad_of W t c f = record { key = key_of c f; words = W.words_of t f c }

abbrev pub quad_at : World → List ℕ → ℕ → ℕ → Quad
quad_at W g c f = quad_of W (type_at g c) c f

abbrev pub quads_by : World → (ℕ → ℕ → Bool) → List ℕ → ℕ → List Quad
quads_by W test g c = each 6 0 (λ f. only (test c f) (quad_at W g c f))

unfoldable pub mesh_by : World → (ℕ → ℕ → Bool) → List ℕ → List Quad
mesh_by W test g = each (cells W.size) 0 (quads_by W test g)

abbrev pub culled : World → List ℕ → List ℕ → List Quad
culled W outer g = mesh_by W (drawn W outer g) g

-- Naive draws all six of a NormalCube
abbrev pub all_sides : World → List ℕ → ℕ → ℕ → Bool
all_sides W g c f = is_normal_cube W (type_at g c)

abbrev pub naive : World → List ℕ → List Quad
naive W g = mesh_by W (all_sides W g) g

-- ---- the quads of a face

-- the words of the quads of a key, in the mesh's order
abbrev pub at : ℕ → List Quad → List (List ℕ)
at k [] = []
at k (q ∷ m) = only (eqb k q.key) q.words ++ at k m

abbrev pub there : ℕ → List Quad → Bool
there k m = not (is_nil (at k m))

-- the place of the first quad of a key
abbrev pub place_of : ℕ → List Quad → ℕ
place_of k [] = 0
place_of k (q ∷ m) = cond (eqb k q.key) 0 (suc (place_of k m))

-- ---- the attributes of a vertex (02, Q-8)

-- where its floats start among a vertex's, and how many they are
pub record Attribute : Type 0 where
  pub start : ℕ
  pub width : ℕ

abbrev pub position : Attribute
position = record { start = 0; width = 3 }

abbrev pub normal : Attribute
normal = record { start = 3; width = 3 }

abbrev pub uv : Attribute
uv = record { start = 6; width = 2 }

abbrev pub colour : Attribute
colour = record { start = 8; width = 4 }

-- an attribute of v vertices, one after the other, n floats a vertex
unfoldable pub attribute_in : ℕ → Attribute → ℕ → List ℕ → List ℕ
attribute_in n a v xs = each v 0 (λ i. part (n * i + a.start) a.width xs)

-- one list for each attribute
pub record Vertices : Type 0 where
  pub positions : List ℕ
  pub normals : List ℕ
  pub uvs : List ℕ
  pub colours : List ℕ

abbrev pub vertices_of : List ℕ → List ℕ → List ℕ → List ℕ → Vertices
vertices_of positions normals uvs colours = record { positions = positions; normals = normals; uvs = uvs; colours = colours }

-- an attribute that vertices have, and its list
pub data HasList (coloured : Bool) (vs : Vertices) : Attribute → List ℕ → Type 0 where
  of_positions : HasList coloured vs position vs.positions
  of_normals : HasList coloured vs normal vs.normals
  of_uvs : HasList coloured vs uv vs.uvs
  of_colours : coloured ≡ true → HasList coloured vs colour vs.colours

-- what becomes of the list of each attribute; without colour the colour list stays as it is
abbrev pub each_list : Bool → (Attribute → List ℕ → List ℕ) → Vertices → Vertices
each_list coloured f vs =
    record {
      positions = f position vs.positions;
      normals = f normal vs.normals;
      uvs = f uv vs.uvs;
      colours = cond coloured (f colour vs.colours) vs.colours;
    }

-- vertex v, put together from its attributes
unfoldable pub vertex_in : Bool → Vertices → ℕ → List ℕ
vertex_in coloured vs v = row 3 vs.positions v ++ (row 3 vs.normals v ++ (row 2 vs.uvs v ++ cond coloured (row 4 vs.colours v) []))

-- quad q: its four vertices
unfoldable pub quad_in : Bool → Vertices → ℕ → List ℕ
quad_in coloured vs q = each 4 0 (λ i. vertex_in coloured vs (4 * q + i))

-- ---- the lists

pub record Lists : Type 0 where
  pub vertices : Vertices
  pub triangles : List ℕ
  pub links : List ℕ
  pub slots : List ℕ

abbrev pub lists_of : Vertices → List ℕ → List ℕ → List ℕ → Lists
lists_of vertices triangles links slots = record { vertices = vertices; triangles = triangles; links = links; slots = slots }

abbrev pub no_vertices : Vertices
no_vertices = vertices_of [] [] [] []

-- links and slots alone
abbrev pub book_of : List ℕ → List ℕ → Lists
book_of links slots = lists_of no_vertices [] links slots

abbrev pub NONE : ℕ
NONE = 4294967295

-- Triangle words: 4q + 0,1,2,3,2,1
abbrev pub pattern : ℕ → List ℕ
pattern q = (4 * q) ∷ (4 * q + 1) ∷ (4 * q + 2) ∷ (4 * q + 3) ∷ (4 * q + 2) ∷ (4 * q + 1) ∷ []

-- a row for each quad, at its place
abbrev pub rows : (ℕ → Quad → List ℕ) → ℕ → List Quad → List ℕ
rows enc i [] = []
rows enc i (q ∷ m) = enc i q ++ rows enc (suc i) m

-- a list of s words a quad: the quads' rows, then zeros up to the highest count reached, then what was there
unfoldable pub laid : ℕ → (ℕ → Quad → List ℕ) → ℕ → List Quad → List ℕ → List ℕ
laid s enc highest m old = rows enc 0 m ++ (replicate (s * (highest - length m)) 0 ++ drop (s * highest) old)

-- the quad's first vertex, or none
abbrev pub slot_of : List Quad → ℕ → ℕ
slot_of m k = cond (there k m) (first_vertex (place_of k m)) NONE

-- the slots of n faces, then what was there
unfoldable pub slotted : ℕ → List Quad → List ℕ → List ℕ
slotted n m old = filled n (slot_of m) old

-- an attribute of a quad, and its list
abbrev pub row_of : Bool → Attribute → Quad → List ℕ
row_of coloured a x = attribute_in (floats_of coloured) a 4 x.words

abbrev pub attribute_laid : Bool → ℕ → List Quad → Attribute → List ℕ → List ℕ
attribute_laid coloured highest m a old = laid (4 * a.width) (λ q x. row_of coloured a x) highest m old

-- Per quad: four vertices, six triangle words, one link word. Per cell: six slots
abbrev pub layout : ℕ → Bool → ℕ → List Quad → Lists → Lists
layout n coloured highest m B =
    record {
      vertices = each_list coloured (attribute_laid coloured highest m) B.vertices;
      triangles = laid 6 (λ q x. pattern q) highest m B.triangles;
      links = laid 1 (λ q x. link_of x.key ∷ []) highest m B.links;
      slots = slotted n m B.slots;
    }

-- the first Q quads that the lists hold
abbrev pub decoded : Bool → Lists → ℕ → Quad
decoded coloured B q = record { key = key_in (get_or B.links q 0); words = quad_in coloured B.vertices q }

abbrev pub decode : Bool → ℕ → Lists → List Quad
decode coloured Q B = table Q (decoded coloured B)
