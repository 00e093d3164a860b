-- What a fresh mesh holds; and demand 3: when a mesh and its index are right. Definitions only.
use Rattle.std.specs.Prelude.{ℕ, ◌*◌, ◌/◌, ◌%◌, ◌≤◌, ◌<◌, ◌≡◌, ◌≢◌, Bool, true, List, length, get_or}
use Rattle.rules.specs.Lists.{only, row}
use Rattle.rules.specs.Cells.{cells, key_of, key_in, code_in, cell_in, first_vertex}
use Rattle.rules.specs.Mesh.{Quad, World, Lists, NONE, drawn, type_at, at, pattern, quad_in}
use Rattle.rules.specs.Update.{blank}
use Rattle.rules.specs.Answers.{slot_at}

-- a mesh holds exactly the sides of which a test holds, once each, with their words, and in the order of cells, then faces
pub record Holds (W : World) (test : ℕ → ℕ → Bool) (g : List ℕ) (m : List Quad) : Type 0 where
  pub sides : (c f : ℕ) → f < 6 → at (key_of c f) m ≡ only (test c f) (W.words_of (type_at g c) f c)
  pub order : (p q : ℕ) → p < q → q < length m → (get_or m p blank).key < (get_or m q blank).key

-- the face that quad q is linked to, 6 · cell + face
abbrev pub linked : Lists → ℕ → ℕ
linked B q = key_in (get_or B.links q 0)

-- a mesh of Q quads holds each face that culling the grid shows, once, and no other, with the right vertices and
-- triangles, index and quads naming each other
pub record Right (W : World) (outer g : List ℕ) (coloured : Bool) (B : Lists) (Q : ℕ) : Type 0 where
  pub each_shown : (c f : ℕ) → c < cells W.size → f < 6 → drawn W outer g c f ≡ true → (q : ℕ) × (q < Q) × (linked B q ≡ key_of c f)
  pub inside : (q : ℕ) → q < Q → (code_in (get_or B.links q 0) ≤ 5) × (cell_in (get_or B.links q 0) < cells W.size)
  pub no_other : (q : ℕ) → q < Q → drawn W outer g (linked B q / 6) (linked B q % 6) ≡ true
  pub once : (p q : ℕ) → p < q → q < Q → linked B p ≢ linked B q
  pub vertices : (q : ℕ) → q < Q
      → quad_in coloured B.vertices q ≡ W.words_of (type_at g (linked B q / 6)) (linked B q % 6) (linked B q / 6)
  pub triangles : (q : ℕ) → q < Q → row 6 B.triangles q ≡ pattern q
  pub named : (q : ℕ) → q < Q → slot_at B (linked B q) ≡ first_vertex q
  pub naming : (k : ℕ) → k < 6 * cells W.size → slot_at B k ≢ NONE → (q : ℕ) × (q < Q) × (slot_at B k ≡ first_vertex q) × (linked B q ≡ k)
