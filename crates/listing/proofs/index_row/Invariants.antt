use Prim.Native.Nat.{◌-◌, ◌≤◌}
use lib.ListN.{length}
use Rattle.listing.proofs.Listing.{RowEntered}
use Rattle.listing.proofs.index_row.Given as goal

abbrev pub invariant-loop-x : goal.invariant-loop-x
invariant-loop-x l =
    (l.x ≤ length l.sets) × RowEntered l.first l.base l.sets l.grid l.initial.links l.initial.slots l.initial.sides l.links l.slots l.sides l.n l.x

abbrev pub decreases-loop-x : goal.decreases-loop-x
decreases-loop-x l = length l.sets - l.x
