use mathlib.Core.Path.{◌≡◌, ap, ◌∙◌}
use mathlib.Core.List.{List}
use Prim.Native.Nat.{ℕ, ◌+◌, ◌*◌}
use lib.ListN.{get_or, set}
use Rattle.vav.proofs.Laws.{put_none, copy_more}
use native.Mathlib.Omega.{arith}
use Rattle.vav.proofs.copy_down.Goals as goal

pub loop-i-init : goal.loop-i-init
loop-i-init c = put_none (c.args.n * c.args.to) c.args.list.now

pub loop-i-preserved : goal.loop-i-preserved
loop-i-preserved c =
    let l = c.loop-i in
    let a = c.args in
    let start = a.n * a.from in
    let at = a.n * a.to in
    ap (λ (x : List ℕ). set x (at + l.i) (get_or x (start + l.i) 0)) l.invariant
    ∙ copy_more start at l.i a.list.now (omega arith) (omega arith)

pub returns : goal.returns
returns c =
    let e : c.loop-i.i ≡ c.args.n * c.args.rows = omega arith in
    rw e at c.loop-i.invariant
