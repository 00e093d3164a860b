use mathlib.Core.Path.{◌≡◌}
use mathlib.Core.List.{List}
use Prim.Native.Nat.{ℕ, ◌-◌, ◌*◌, ◌≤◌}
use lib.ListN.{length}
use Rattle.rules.specs.Cells.{cells, coordinates}
use Rattle.rules.proofs.Searches.{Searched}
use Rattle.util.specs.Grid.{size_of, cords_of}
use Rattle.culling.specs.Culling.{outer_set}
use Rattle.checking.specs.Faces.{wrong_at}
use Rattle.checking.proofs.lowest_by_rows.Given as goal

abbrev pub invariant-loop-row : goal.invariant-loop-row
invariant-loop-row l =
    let ground = l.look.ground in
    let size = size_of ground.dims in
    (l.end ≡ cells size) × (l.row.first ≤ l.end) × (length l.sets ≡ length l.initial.sets)
    × ((faces : List ℕ) → l.look.outer ≡ outer_set faces → Searched (6 * cells size) (wrong_at ground faces l.slots) (6 * l.row.first))
    × (cords_of 0 l.row.y l.row.z ≡ coordinates size l.row.first)

abbrev pub decreases-loop-row : goal.decreases-loop-row
decreases-loop-row l = l.end - l.row.first
