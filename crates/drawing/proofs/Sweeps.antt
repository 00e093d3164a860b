-- The quads of faces of a row, written one after the other into the list of each attribute. Assumes nothing.
use mathlib.Core.Path.{◌≡◌, refl, sym, ap, ◌∙◌}
use mathlib.Core.List.{List}
use Prim.Native.Nat.{ℕ, ◌+◌, ◌*◌, ◌≤◌, ◌<◌}
use native.Mathlib.Nat.{mul-le-mul_left}
use native.Mathlib.Omega.{arith}
use lib.ListN.{length, get_or, take}
use lib.Seq.{length-take-le, take-length}
use Rattle.rules.specs.Mesh.{Attribute, Vertices}
use Rattle.rules.specs.Calls.{Scene}
use Rattle.rules.proofs.Attributes.{inside_of, each_list_lem, each_again, each_stays}
use Rattle.vav.specs.Rows.{put}
use Rattle.vav.proofs.Laws.{put_none}
use Rattle.drawing.specs.Written.{rows_of, side_row, side_words, quad_written, rows_written, Long}
use Rattle.drawing.proofs.Sides.{row_wide}
use Rattle.drawing.proofs.Turns.{next, kept_rows}

module _ (S : Scene) (c base : ℕ) (sides : List ℕ) (vs : Vertices) where
  -- the quads of the first i faces are written
  abbrev pub Swept : ℕ → Vertices → Type 0
  Swept i ws = ws ≡ rows_written S c (take i sides) base vs

  pub begun : Swept 0 vs
  begun = sym (each_stays S.types.coloured vs)
      ∙ each_list_lem S.types.coloured vs (λ a xs. xs) (λ a xs. put (4 * a.width * base) (rows_of (side_row S a c) (take 0 sides)) xs) (λ a xs l. put_none (4 * a.width * base) xs)

  pub further : {i : ℕ} {ws us : Vertices} → Long S.types.coloured (base + length sides) vs → i < length sides → Swept i ws
      → us ≡ quad_written S.types.coloured (base + i) (side_words S c (get_or sides i 0)) ws → Swept (i + 1) us
  further {i} long h w e =
      let tint = S.types.coloured in
      let f : Attribute → List ℕ → List ℕ = λ a xs. put (4 * a.width * (base + i)) (side_row S a c (get_or sides i 0)) xs in
      let g : Attribute → List ℕ → List ℕ = λ a xs. put (4 * a.width * base) (rows_of (side_row S a c) (take i sides)) xs in
      e ∙ ap (quad_written tint (base + i) (side_words S c (get_or sides i 0))) w ∙ each_again tint vs f g
      ∙ each_list_lem tint vs (λ a xs. f a (g a xs)) (λ a xs. put (4 * a.width * base) (rows_of (side_row S a c) (take (i + 1) sides)) xs)
      (λ a xs l.
      let s = 4 * a.width in
      let wide : (k : ℕ) → length (side_row S a c k) ≡ s = λ k. row_wide S a (inside_of tint vs a xs l) _ _ _ in
      let far : base + length (take i sides) ≤ base + length sides = omega (arith, length-take-le i sides (omega arith)) in
      let kept = kept_rows s (side_row S a c) wide base (take i sides) xs (omega (arith, mul-le-mul_left s far, long a xs l)) in
      (next s (side_row S a c) wide base sides xs (long a xs l) h (record { is = refl; kept = kept }) refl).is)

  pub swept : {i : ℕ} {ws : Vertices} → i ≡ length sides → Swept i ws → ws ≡ rows_written S c sides base vs
  swept e w = w ∙ ap (λ (k : ℕ). rows_written S c (take k sides) base vs) e ∙ ap (λ (xs : List ℕ). rows_written S c xs base vs) (take-length sides)
