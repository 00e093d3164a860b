-- `lines::outer_of` meets its contract. Assumes nothing.
use Rattle.std.proofs.Common.{sym}
use Rattle.lines.proofs.Writing.{room_next, wrote_as, wrote_then}
use Rattle.lines.proofs.Lining.{faces_none, faces_more, faces_next}
use Rattle.lines.proofs.outer_of.Goals as goal

pub loop-f-init : goal.loop-f-init
loop-f-init c = faces_none _ _

pub write_if-next-requires : goal.write_if-next-requires
write_if-next-requires c = room_next _ _ (faces_next c.args.set c.loop-f.f c.args.out.now c.loop-f-test.true c.requires) c.loop-f.invariant

pub loop-f-preserved : goal.loop-f-preserved
loop-f-preserved c =
    wrote_as (sym (faces_more _ _))
    (wrote_then _ _ (faces_next c.args.set c.loop-f.f c.args.out.now c.loop-f-test.true c.requires) c.loop-f.invariant c.write_if-next.ensures)
