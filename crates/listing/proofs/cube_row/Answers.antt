-- `listing::cube_row` meets its contract: 63 for a NormalCube, 0 for the others. Assumes nothing.
use mathlib.Core.Path.{refl, ap, ◌∙◌}
use mathlib.Core.Bool.{cond}
use Prim.Native.Nat.{ℕ, ◌+◌, ◌<◌}
use lib.Dec.{eqb}
use lib.ListN.{length, get_or}
use native.Mathlib.Omega.{arith}
use Rattle.rules.proofs.ListLaws.{within}
use Rattle.culling.proofs.Passing.{passed, pass}
use Rattle.listing.proofs.Sets.{naive_set}
use Rattle.listing.proofs.cube_row.Goals as goal

pub loop-x-init : goal.loop-x-init
loop-x-init c = passed _ _

pub bounds-ground-code : goal.bounds-ground-code
bounds-ground-code c =
    omega (arith, c.from-code.ensures, c.args.ground.both, c.args.ground.whole.typed (c.args.first + c.loop-x.x) (omega (arith, c.loop-x-test.true, c.requires.0, c.args.ground.whole.whole)))

pub loop-x-preserved : goal.loop-x-preserved
loop-x-preserved c =
    let kinds = c.args.ground.kinds.now in
    pass _ _ c.loop-x.invariant (omega (arith, c.loop-x-test.true, c.loop-x.invariant.long, c.requires.1)) (c.bit_if.ensures.0 ∙ ap (λ (t : ℕ). cond (eqb (get_or kinds t 0) 1) 63 0) c.from-code.ensures)

pub returns : goal.returns
returns c =
    λ covers outer x h. let g = c.args.ground.grid.now in
    let kinds = c.args.ground.kinds.now in
    let i : c.args.first + x < length g = omega (arith, c.requires.0, c.args.ground.whole.whole) in
    c.loop-x.invariant.right x (omega (arith, c.loop-x-test.false))
    ∙ ap (λ (t : ℕ). cond (eqb (get_or kinds t 0) 1) 63 0) (within g (c.args.first + x) 0 255 i) ∙ naive_set _ outer g (c.args.first + x) _ refl
