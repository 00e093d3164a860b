use mathlib.Core.Path.{◌≡◌}
use mathlib.Core.Bool.{Bool}
use Prim.Native.Nat.{ℕ, ◌*◌, ◌≤◌, ◌<◌, ◌-◌}
use lib.ListN.{length, get_or}
use Rattle.rules.specs.Cells.{set_of}
use Rattle.rules.proofs.Searches.{Searched}
use Rattle.checking.specs.Faces.{wrong_in_row}
use Rattle.checking.proofs.lowest_in_row.Given as goal

abbrev pub invariant-loop-x : goal.invariant-loop-x
invariant-loop-x l =
    (l.x ≤ length l.sets)
    × ((sides : ℕ → ℕ → Bool) → ((k : ℕ) → k < length l.sets → get_or l.sets k 0 ≡ set_of (sides k)) → Searched (6 * length l.sets) (wrong_in_row sides l.slots l.first) (6 * l.x))

abbrev pub decreases-loop-x : goal.decreases-loop-x
decreases-loop-x l = length l.sets - l.x
