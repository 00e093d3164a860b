-- `lines::write_quads` meets its contract. Assumes nothing.
use Rattle.std.proofs.Common.{arith}
use Rattle.lines.proofs.Lining.{begun_none, begun_room, begun_more, begun_all}
use Rattle.lines.proofs.write_quads.Goals as goal

pub loop-i-init : goal.loop-i-init
loop-i-init c = begun_none _ _ _ c.requires.1

pub write_link-next-requires : goal.write_link-next-requires
write_link-next-requires c =
    let more = c.loop-i-test.true in
    (c.requires.0 c.loop-i.i more, begun_room c.loop-i.invariant more)

pub loop-i-preserved : goal.loop-i-preserved
loop-i-preserved c =
    begun_more c.loop-i.invariant c.loop-i-test.true c.write_link-next.ensures

pub returns : goal.returns
returns c = begun_all c.loop-i.invariant (omega arith)
