-- Links and slots: the face that a quad shows, and the quad that shows a face. Definitions only.
use Rattle.std.specs.Prelude.{◌≡◌, ◌⊎◌, cond, not, List, ℕ, ◌-◌, ◌≤◌, ◌<◌, length, get_or, leb, ltb, eqb, Option, Some, None}
use Rattle.std.proofs.Math.Option as math
use Rattle.rules.specs.Cells.{code_in, key_in, first_vertex, only_if}
use Rattle.rules.specs.Mesh.{NONE}
use Rattle.vav.specs.Rows.{source_of}
use Rattle.face.specs.declared.Vertex.{Vertex}

-- the quad's first vertex, or none
abbrev pub vertex_in : Option Vertex → math.Option ℕ
vertex_in (Some v) = math.some v.0
vertex_in None = math.none

abbrev pub vertex_of : ℕ → math.Option ℕ
vertex_of word = only_if (not (eqb word NONE)) word

-- what a slot word becomes where the quads from s up to t have gone to q and on
unfoldable pub shifted : ℕ → ℕ → ℕ → ℕ → ℕ
shifted q s t w = cond (ltb w (first_vertex t)) (cond (leb (first_vertex s) w) (w - first_vertex (s - q)) w) w

-- what a slot word becomes where quad q of Q is removed: its own becomes none, that of a moved quad names the new place
unfoldable pub renum : ℕ → ℕ → ℕ → ℕ
renum q Q w = cond (eqb w (first_vertex q)) NONE (shifted q (source_of q Q) Q w)

-- a slot word is none, or the first vertex of the quad whose link names the slot
abbrev pub Named : ℕ → List ℕ → ℕ → ℕ → Type 0
Named Q L k w = (w ≡ NONE) ⊎ ((i : ℕ) × (i < Q) × (w ≡ first_vertex i) × (key_in (get_or L i 0) ≡ k))

-- the first Q links and the slots name each other
pub record Linked (Q : ℕ) (L S : List ℕ) : Type 0 where
  pub small : first_vertex Q < NONE
  pub room : Q ≤ length L
  pub code : (i : ℕ) → i < Q → code_in (get_or L i 0) ≤ 5
  pub slot : (i : ℕ) → i < Q → key_in (get_or L i 0) < length S
  pub there : (i : ℕ) → i < Q → get_or S (key_in (get_or L i 0)) 0 ≡ first_vertex i
  pub back : (k : ℕ) → k < length S → Named Q L k (get_or S k 0)
