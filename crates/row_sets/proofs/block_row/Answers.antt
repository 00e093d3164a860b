-- `row_sets::block_row` meets its contract: the cells before x are done. Assumes nothing.
use Rattle.culling.proofs.Passing.{passed}
use Rattle.row_sets.proofs.Plain.{fill}
use native.Mathlib.Omega.{arith}
use Rattle.row_sets.proofs.block_row.Goals as goal

pub loop-x-init : goal.loop-x-init
loop-x-init c = (omega arith, passed _ _)

pub block_start-start-requires : goal.block_start-start-requires
block_start-start-requires c = (c.loop-x-test.true, omega (arith, c.width-width.ensures, c.requires.1), omega (arith, c.width-width.ensures, c.args.rows.are.within.sides.widest))

pub block_of-block-requires : goal.block_of-block-requires
block_of-block-requires c = (c.requires.2, omega (arith, c.width-width.ensures, c.block_start-start.ensures.2), c.requires.3)

pub store_block-requires : goal.store_block-requires
store_block-requires c = omega (arith, c.block_start-start.ensures.2, c.loop-x.invariant.1.long, c.width-width.ensures, c.requires.0)

pub overflow_add-x : goal.overflow_add-x
overflow_add-x c = omega (arith, c.block_start-start.ensures.2, c.width-width.ensures, c.args.rows.are.within.sides.widest)

pub loop-x-smaller : goal.loop-x-smaller
loop-x-smaller c = omega (arith, c.block_start-start.ensures.1, c.loop-x-test.true)

pub loop-x-preserved : goal.loop-x-preserved
loop-x-preserved c =
    let b = c.block_start-start.ensures in
    let block = c.block_of-block in
    (b.2, fill _ block.result c.loop-x.invariant.1 b.0 c.store_block.ensures block.ensures)

pub shape_of-sets : goal.shape_of-sets
shape_of-sets c = c.loop-x.invariant.1.long

pub returns : goal.returns
returns c = λ x h. c.loop-x.invariant.1.right x (omega arith)
