-- `culling::outer_set` meets its contract. Assumes nothing.
use mathlib.Core.Path.{ap, ◌∙◌}
use lib.Bits.{bit_or}
use lib.ListN.{get_or}
use lib.Seq.{take_all}
use Rattle.culling.specs.Culling.{outer_set}
use Rattle.culling.proofs.Sides.{outer_none, outer_more, shifted}
use native.Mathlib.Omega.{arith}
use Rattle.culling.proofs.outer_set.Goals as goal

pub loop-face-init : goal.loop-face-init
loop-face-init c = outer_none c.args.outer.now

pub overflow_shl-set : goal.overflow_shl-set
overflow_shl-set c = omega (arith, c.requires c.loop-face.face-index (omega arith))

pub loop-face-preserved : goal.loop-face-preserved
loop-face-preserved c =
    let l = c.loop-face in
    let outer = c.args.outer.now in
    let small = c.requires l.face-index (omega arith) in
    ap (bit_or l.set) (shifted (get_or outer l.face-index 0) small) ∙ outer_more outer l.face-index l.set (omega arith) small l.invariant

pub returns : goal.returns
returns c =
    let l = c.loop-face in
    let outer = c.args.outer.now in
    l.invariant ∙ ap outer_set (take_all l.face-index outer (omega arith))
