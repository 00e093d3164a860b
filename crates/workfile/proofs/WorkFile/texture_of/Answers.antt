use Rattle.std.proofs.Common.{ap, ◌∙◌, set, arith}
use Rattle.rules.proofs.Rows.{filled_none, filled_more}
use Rattle.workfile.proofs.WorkFile.texture_of.Goals as goal

pub loop-i-init : goal.loop-i-init
loop-i-init c = filled_none _ _

pub loop-i-preserved : goal.loop-i-preserved
loop-i-preserved c =
    let l = c.loop-i in
    ap (set l.out l.i) c.u32_at.ensures ∙ filled_more _ l.i c.args.out.now l.out (omega arith) l.invariant
