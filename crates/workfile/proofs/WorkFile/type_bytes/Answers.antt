use Rattle.std.proofs.Common.{arith}
use Rattle.rules.proofs.Rows.{filled_none, filled_more}
use Rattle.workfile.proofs.Files.{types_are}
use Rattle.workfile.proofs.WorkFile.type_bytes.Goals as goal

pub loop-t-init : goal.loop-t-init
loop-t-init c = filled_none _ _

pub loop-t-preserved : goal.loop-t-preserved
loop-t-preserved c =
    filled_more _ _ c.args.out.now _ (omega (arith, types_are _ c.args.self.good c.read_work-t-end.ensures)) c.loop-t.invariant
