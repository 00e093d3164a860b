-- A face of a row as a word, and back. Assumes nothing.
use mathlib.Core.Path.{◌≡◌, refl, ◌∙◌}
use mathlib.Core.List.{List, [], ◌∷◌, ◌++◌, map}
use Prim.Native.Nat.{ℕ, ◌+◌, ◌*◌, ◌/◌, ◌%◌, ◌≤◌, ◌<◌}
use native.Mathlib.Omega.{arith}
use lib.ListN.{length}
use Rattle.rules.specs.Types.{floats}
use Rattle.rules.specs.Mesh.{Attribute, attribute_in, type_at}
use Rattle.rules.specs.Calls.{Scene, words_in}
use Rattle.rules.proofs.ListLaws.{All, within}
use Rattle.rules.proofs.Attributes.{length_attribute}
use Rattle.rules.proofs.Demands.{words_sized}
use Rattle.drawing.specs.Written.{rows_of, word_row, side_of, side_row}

-- a face of the row of cells that starts at c
pub record InRow (g : List ℕ) (c k : ℕ) : Type 0 where
  pub from : c ≤ k / 6
  pub to : k / 6 < c + 1024
  pub inside : k / 6 < length g

module _ {g : List ℕ} {c k : ℕ} (r : InRow g c k) where
  pub side_type : side_of g c k / 6144 ≡ type_at g (k / 6)
  side_type =
      let a = r.from in
      let b = r.to in
      let t = within g (k / 6) 255 0 r.inside in
      omega arith

  pub side_face : side_of g c k / 1024 % 6 ≡ k % 6
  side_face = let a = r.from in let b = r.to in omega arith

  pub side_cell : c + side_of g c k % 1024 ≡ k / 6
  side_cell = let a = r.from in let b = r.to in omega arith

-- LAW: the rows of the words are those of the faces
pub side_rows : (S : Scene) (b : Attribute) (g : List ℕ) (c : ℕ) (keys : List ℕ) → All (InRow g c) keys → rows_of (side_row S b c) (map (side_of g c) keys) ≡ rows_of (word_row S b g) keys
side_rows S b g c [] h = refl
side_rows S b g c (k ∷ keys) h =
    let r = h.0 in
    let t = side_type r in
    let f = side_face r in
    let at = side_cell r in
    let rest = side_rows S b g c keys h.1 in
    λ i. attribute_in (floats S.types) b 4 (words_in S (t i) (f i) (at i)) ++ rest i

-- each row has the attribute's floats of four vertices
pub row_wide : (S : Scene) (b : Attribute) → b.start + b.width ≤ floats S.types → (t f c : ℕ) → length (attribute_in (floats S.types) b 4 (words_in S t f c)) ≡ 4 * b.width
row_wide S b has t f c = length_attribute (floats S.types) b has 4 (words_in S t f c) (omega (arith, words_sized S t f c)) ∙ omega arith
