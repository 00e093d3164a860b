use mathlib.Core.Path.{◌≡◌}
use mathlib.Core.List.{List}
use Prim.Native.Nat.{ℕ, ◌+◌}
use lib.ListN.{length}
use Rattle.rules.specs.Cells.{set_of}
use Rattle.rules.specs.Mesh.{drawn}
use Rattle.util.specs.Grid.{size_of}
use Rattle.culling.specs.Culling.{world_of, outer_set}
use Rattle.culling.proofs.Passing.{Passed}
use Rattle.culling.proofs.row_by_cells.Given as goal

abbrev pub invariant-loop-x : goal.invariant-loop-x
invariant-loop-x l =
    (length l.sets ≡ length l.initial.sets) × ((faces : List ℕ) → l.outer ≡ outer_set faces
    → Passed (λ k. set_of (drawn (world_of (size_of l.ground.dims) l.ground.kinds.now l.ground.covers.now) faces l.ground.grid.now (l.row.first + k))) l.initial.sets l.sets l.x)
