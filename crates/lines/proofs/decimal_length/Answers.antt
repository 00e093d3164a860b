-- `lines::decimal_length` meets its contract. Assumes nothing.
use mathlib.Core.Path.{refl}
use native.Mathlib.Omega.{arith}
use Rattle.lines.proofs.Decimals.{length-decimal, length_more, length_last}
use Rattle.lines.proofs.decimal_length.Goals as goal

pub loop-left-init : goal.loop-left-init
loop-left-init c = (omega arith, refl)

pub overflow_add-count : goal.overflow_add-count
overflow_add-count c = omega (arith, length-decimal c.args.n)

pub loop-left-smaller : goal.loop-left-smaller
loop-left-smaller c = omega arith

pub loop-left-preserved : goal.loop-left-preserved
loop-left-preserved c = (omega arith, omega (arith, length_more c.loop-left.left c.loop-left-test.true (omega arith)))

pub returns : goal.returns
returns c = omega (arith, length_last c.loop-left.left (omega arith))
