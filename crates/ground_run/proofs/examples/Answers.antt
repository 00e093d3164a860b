use Rattle.std.proofs.Common.{ℕ, ◌≡◌, not, refl, ap, ◌∙◌, Option, Some, None}
use Rattle.std.proofs.Math.Option.{some}
use Rattle.rules.specs.Cells.{Size, neighbour}
use Rattle.rules.specs.Answers.{bad_limits}
use Rattle.face.specs.declared.Cell.{Cell}
use Rattle.util.specs.Grid.{cell_in}
use Rattle.ground_run.proofs.examples.Goals as goal

pub expect-requires : goal.expect-requires
unfolding bad_limits
expect-requires c = ap not (c.bad_limits.ensures ∙ ap bad_limits c.size.ensures)

pub expect-requires-2 : goal.expect-requires-2
unfolding bad_limits
expect-requires-2 c = c.bad_limits-2.ensures ∙ ap bad_limits c.size-2.ensures

-- an option that holds a cell's number holds the cell
held : (o : Option Cell) (n : ℕ) → cell_in o ≡ some n → o ≡ Some (record { 0 = n })
held (Some cell) n e = let k : cell.0 ≡ n = cc in ap {B = Option Cell} (λ (m : ℕ). Some (record { 0 = m })) k
held None n e = cc

pub expect-requires-3 : goal.expect-requires-3
unfolding neighbour
expect-requires-3 c =
    rw (c.eq.ensures, held c.get_neighbor.result 4 (c.get_neighbor.ensures ∙ ap (λ (s : Size). neighbour s 0 0) c.size-3.ensures)) refl
