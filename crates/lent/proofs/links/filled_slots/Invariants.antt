use Rattle.std.proofs.Common.{◌≡◌, ◌+◌, []}
use Rattle.rules.specs.Mesh.{book_of}
use Rattle.rules.specs.Answers.{slots_filled}
use Rattle.lent.proofs.links.filled_slots.Given as goal

abbrev pub invariant-loop-slot : goal.invariant-loop-slot
invariant-loop-slot l = l.full + l.slot-index ≡ slots_filled l.slot-index (book_of [] l.slots) + l.n
