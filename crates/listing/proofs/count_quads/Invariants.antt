use mathlib.Core.Path.{◌≡◌}
use Prim.Native.Nat.{◌-◌, ◌≤◌}
use lib.ListN.{length}
use Rattle.rules.specs.Cells.{cells, coordinates}
use Rattle.util.specs.Grid.{size_of, cords_of}
use Rattle.culling.specs.Culling.{world_of}
use Rattle.listing.specs.Fresh.{set_at, faces_of, asked}
use Rattle.listing.proofs.count_quads.Given as goal

abbrev pub invariant-loop-row : goal.invariant-loop-row
invariant-loop-row l = let ground = l.look.ground in
    (l.end ≡ cells (size_of ground.dims)) × (l.row.first ≤ l.end) × (length l.sets ≡ length l.initial.sets)
    × (l.n ≡ asked (set_at l.culling (world_of (size_of ground.dims) ground.kinds.now ground.covers.now) (faces_of l.look.outer) ground.grid.now) 0 l.row.first)
    × (cords_of 0 l.row.y l.row.z ≡ coordinates (size_of ground.dims) l.row.first)

abbrev pub decreases-loop-row : goal.decreases-loop-row
decreases-loop-row l = l.end - l.row.first
