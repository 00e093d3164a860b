-- What a call is lent, as the rules see it. Definitions only.
use Rattle.std.specs.Prelude.{ℕ, List}
use Rattle.rules.specs.Mesh.{Lists, Vertices, vertices_of, lists_of}
use Rattle.terms.specs.declared.Lists as declared

-- the lists of a mesh
abbrev pub lists_lent : List ℕ → List ℕ → List ℕ → List ℕ → List ℕ → List ℕ → List ℕ → Lists
lists_lent positions normals uvs colours triangles links slots = lists_of (vertices_of positions normals uvs colours) triangles links slots

-- those that are only read
abbrev pub vertices_in : declared.Lists → Vertices
vertices_in l = vertices_of l.positions.now l.normals.now l.uvs.now l.colours.now

abbrev pub lists_in : declared.Lists → Lists
lists_in l = lists_of (vertices_in l) l.triangles.now l.links.now l.slots.now
