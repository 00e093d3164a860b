-- `lines::write_refused` meets its contract. Assumes nothing.
use Rattle.lines.proofs.Writing.{room_one, room_two, room_three, wrote_three}
use Rattle.lines.proofs.Lining.{refused_pieces}
use Rattle.lines.proofs.write_refused.Goals as goal

pub write_named-next-requires : goal.write_named-next-requires
write_named-next-requires c = rw c.from.ensures (room_one (refused_pieces c.args.number c.args.place) c.requires)

pub write_named-last-requires : goal.write_named-last-requires
write_named-last-requires c =
    room_two (refused_pieces c.args.number c.args.place) c.requires (rw c.from.ensures at c.write_named-next.ensures)

pub write_byte-requires : goal.write_byte-requires
write_byte-requires c =
    room_three (refused_pieces c.args.number c.args.place) c.requires (rw c.from.ensures at c.write_named-next.ensures) c.write_named-last.ensures

pub returns : goal.returns
returns c =
    wrote_three (refused_pieces c.args.number c.args.place) c.requires (rw c.from.ensures at c.write_named-next.ensures) c.write_named-last.ensures
    c.write_byte.ensures
