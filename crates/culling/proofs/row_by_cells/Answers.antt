-- `culling::row_by_cells` meets its contract: the cells before x are done. Assumes nothing.
use mathlib.Core.Path.{refl}
use lib.ListN.{length-set}
use Rattle.util.specs.Grid.{size_of}
use Rattle.util.proofs.Rows.{row_end, row_cords}
use Rattle.culling.proofs.Passing.{passed, pass}
use native.Mathlib.Omega.{arith}
use Rattle.culling.proofs.row_by_cells.Goals as goal

pub loop-x-init : goal.loop-x-init
loop-x-init c = (refl, λ faces e. passed _ _)

pub overflow_add-row : goal.overflow_add-row
overflow_add-row c = let w = c.args.ground.whole.within in omega (arith, row_end (size_of c.args.ground.dims) w c.requires.0, w.most)

pub drawn_set-requires : goal.drawn_set-requires
drawn_set-requires c =
    let size = size_of c.args.ground.dims in
    let w = c.args.ground.whole.within in
    (omega (arith, row_end size w c.requires.0), row_cords size w c.requires.0 _ c.loop-x-test.true)

pub loop-x-preserved : goal.loop-x-preserved
loop-x-preserved c = let l = c.loop-x in (simp length-set l.invariant.0, λ faces e. pass _ _ (l.invariant.1 faces e) (omega arith) (c.drawn_set.ensures faces e))

pub returns : goal.returns
returns c = λ faces e x h. (c.loop-x.invariant.1 faces e).right x (omega arith)
