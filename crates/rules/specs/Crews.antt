-- 02, Q-14: two crews' entries. Definitions only.
use Rattle.std.specs.Prelude.{ℕ, ◌≢◌, List, [], ◌∷◌}
use Rattle.std.proofs.Math.Option.{some}
use Rattle.rules.specs.Cells.{Size, neighbour}
use Rattle.rules.specs.Update.{Entry}

-- a cell is clear of another: they are different, and not neighbours across a face
pub record Clear (s : Size) (c d : ℕ) : Type 0 where
  pub different : c ≢ d
  pub not_beside : (f : ℕ) → neighbour s c f ≢ some d

-- an order of two crews' entries that keeps each crew's own
pub data Merged : List Entry → List Entry → List Entry → Type 0 where
  none_left : Merged [] [] []
  of_one : {e : Entry} {one other both : List Entry} → Merged one other both → Merged (e ∷ one) other (e ∷ both)
  of_other : {e : Entry} {one other both : List Entry} → Merged one other both → Merged one (e ∷ other) (e ∷ both)
