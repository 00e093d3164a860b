-- Bytes written into a buffer, and the lines of 01's program by quad. Definitions only.
use Rattle.std.specs.Prelude.{ℕ, ◌+◌, ◌≤◌, ◌<◌, ◌≡◌, List, [], ◌∷◌, ◌++◌, map, length, get_or, take, drop}
use Rattle.rules.specs.Lists.{each, only}
use Rattle.rules.specs.Cells.{key_in, code_in, has}
use Rattle.rules.specs.Mesh.{Quad}
use Rattle.rules.specs.Program.{decimal}

-- xs with ys written over it at `at`
abbrev pub put : ℕ → List ℕ → List ℕ → List ℕ
put at ys xs = take at xs ++ (ys ++ drop (at + length ys) xs)

-- the bytes are written at `at`, all else is as it was, and the next place is after them
pub record Wrote (bytes : List ℕ) (at : ℕ) (before after : List ℕ) (next : ℕ) : Type 0 where
  pub is : after ≡ put at bytes before
  pub end : next ≡ at + length bytes

-- there is room for the bytes at `at`
pub record Room (bytes : List ℕ) (at : ℕ) (out : List ℕ) : Type 0 where
  pub fits : at + length bytes ≤ length out

-- the faces of a set, in order
abbrev pub faces_of : ℕ → List ℕ
faces_of set = each 6 0 (λ f. only (has set f) f)

-- the line of a quad: its number, cell, face number
unfoldable pub quad_line : ℕ → ℕ → ℕ → List ℕ
quad_line number cell face = decimal number ++ (32 ∷ decimal cell) ++ (32 ∷ decimal face) ++ (10 ∷ [])

-- the quads that links tell of, without their words, which no line shows
abbrev pub linked_quad : ℕ → Quad
linked_quad link = record { key = key_in link; words = [] }

abbrev pub quads_of : List ℕ → List Quad
quads_of links = map linked_quad links

-- each link is of a face
abbrev pub OfFaces : List ℕ → Type 0
OfFaces links = (i : ℕ) → i < length links → code_in (get_or links i 0) ≤ 5
