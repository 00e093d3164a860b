-- `lines::write_quad` meets its contract. Assumes nothing.
use Rattle.lines.proofs.Writing.{room_one, room_two, room_three, wrote_three}
use Rattle.lines.proofs.Lining.{quad_pieces}
use Rattle.lines.proofs.write_quad.Goals as goal

pub write_ended-second-requires : goal.write_ended-second-requires
write_ended-second-requires c = room_one (quad_pieces c.args.number c.args.cell c.args.face) c.requires

pub write_ended-third-requires : goal.write_ended-third-requires
write_ended-third-requires c = rw c.from.ensures (room_two (quad_pieces c.args.number c.args.cell c.args.face) c.requires c.write_ended-second.ensures)

pub write_ended-requires : goal.write_ended-requires
write_ended-requires c =
    rw c.from-2.ensures
    (room_three (quad_pieces c.args.number c.args.cell c.args.face) c.requires c.write_ended-second.ensures
    (rw c.from.ensures at c.write_ended-third.ensures))

pub returns : goal.returns
returns c =
    wrote_three (quad_pieces c.args.number c.args.cell c.args.face) c.requires c.write_ended-second.ensures
    (rw c.from.ensures at c.write_ended-third.ensures)
    (rw c.from-2.ensures at c.write_ended.ensures)
