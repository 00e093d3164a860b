-- `lent::links::filled_slots` meets its contract. Assumes nothing.
use Rattle.std.proofs.Common.{◌≡◌, ◌<◌, [], length, take, arith, length-take, get_or-take}
use Rattle.rules.specs.Mesh.{book_of}
use Rattle.lent.proofs.Linked.{filled_none, filled_more}
use Rattle.lent.proofs.links.filled_slots.Goals as goal

pub loop-slot-init : goal.loop-slot-init
loop-slot-init c = omega (arith, filled_none (book_of [] c.args.slots.now))

pub loop-slot-preserved : goal.loop-slot-preserved
loop-slot-preserved c =
    let k = c.loop-slot.slot-index in
    let whole : length (take c.args.n c.args.slots.now) ≡ c.args.n = simp length-take (omega arith) in
    let below : k < c.args.n = omega arith in
    let empty = rw get_or-take at c.from-full.ensures in
    omega (arith, empty, filled_more (book_of [] c.args.slots.now) k (omega arith))
