use Rattle.listing.proofs.Listing.{Indexed}
use Rattle.listing.proofs.index_cell.Given as goal

abbrev pub invariant-loop-rest : goal.invariant-loop-rest
invariant-loop-rest l =
    Indexed l.cell.0 l.set l.side l.base l.n l.initial.links l.initial.slots l.initial.sides l.links l.slots l.sides l.next l.rest

abbrev pub decreases-loop-rest : goal.decreases-loop-rest
decreases-loop-rest l = l.rest
