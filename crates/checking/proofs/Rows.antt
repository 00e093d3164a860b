-- WRONG_SET, row by row. Assumes nothing.
use mathlib.Core.Path.{◌≡◌, sym, ap, ◌∙◌}
use mathlib.Core.Bool.{Bool}
use mathlib.Core.List.{List}
use Prim.Native.Nat.{ℕ, ◌+◌, ◌*◌, ◌/◌, ◌%◌, ◌≤◌, ◌<◌}
use native.Mathlib.Omega.{arith}
use Rattle.rules.specs.Lists.{lowest}
use Rattle.rules.specs.Mesh.{World, drawn}
use Rattle.rules.proofs.ListLaws.{lowest_good, lowest_bad}
use Rattle.rules.proofs.Searches.{Searched, found}
use Rattle.rules.specs.Answers.{is_filled, unlike}
use Rattle.checking.specs.Faces.{wrong_slot, wrong_in_row}
use Rattle.checking.proofs.Faces.{passed_many}

-- a face of a cell of a row, by its key
pub row_slot : (sides : ℕ → ℕ → Bool) (slots : List ℕ) (first x f : ℕ) → f < 6
    → wrong_in_row sides slots first (6 * x + f) ≡ unlike (sides x f) (is_filled slots (6 * (first + x) + f))
row_slot sides slots first x f h =
    let cell : (6 * x + f) / 6 ≡ x = omega arith in
    let face : (6 * x + f) % 6 ≡ f = omega arith in
    let key : 6 * first + (6 * x + f) ≡ 6 * (first + x) + f = omega arith in
    rw (cell, face, key)

module _ (W : World) (faces g slots : List ℕ) (n c w : ℕ) (fits : 6 * (c + w) ≤ n) (s : Searched n (wrong_slot W faces g slots) (6 * c)) where
  abbrev in_row : ℕ → Bool
  in_row = wrong_in_row (λ x. drawn W faces g (c + x)) slots c

  in_grid : (k : ℕ) → in_row k ≡ wrong_slot W faces g slots (6 * c + k)
  in_grid k =
      let cell : c + k / 6 ≡ (6 * c + k) / 6 = omega arith in
      let face : k % 6 ≡ (6 * c + k) % 6 = omega arith in
      rw (cell, face)

  passed_to : (r : ℕ) → r ≤ 6 * w → r ≤ lowest (6 * w) in_row → Searched n (wrong_slot W faces g slots) (6 * c + r)
  passed_to r h l =
      passed_many n (wrong_slot W faces g slots) (6 * c) r (omega arith) s (λ k j. sym (in_grid k) ∙ lowest_good (6 * w) in_row k (omega arith))

  -- a row with no wrong face
  pub row_right : (r : ℕ) → r ≡ lowest (6 * w) in_row → 6 * w ≤ r → Searched n (wrong_slot W faces g slots) (6 * (c + w))
  row_right r e h =
      let all : 6 * (c + w) ≡ 6 * c + 6 * w = omega arith in
      rw all (passed_to (6 * w) (omega arith) (omega arith))

  -- a row with one
  pub row_wrong : (r : ℕ) → r ≡ lowest (6 * w) in_row → r < 6 * w → 6 * c + r ≡ lowest n (wrong_slot W faces g slots)
  row_wrong r e h =
      found n (wrong_slot W faces g slots) (6 * c + r) (omega arith) (passed_to r (omega arith) (omega arith))
      (sym (in_grid r) ∙ ap in_row e ∙ lowest_bad (6 * w) in_row (omega arith))
