use mathlib.Core.Path.{◌≡◌}
use Rattle.listing.specs.Fresh.{sets_from, asked}
use Rattle.listing.proofs.quads_in_few.Given as goal

abbrev pub invariant-loop-set : goal.invariant-loop-set
invariant-loop-set l = l.n ≡ asked (sets_from 0 l.sets) 0 l.set-index
