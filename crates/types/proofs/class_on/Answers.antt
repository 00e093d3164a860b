-- `types::class_on` meets its contract. Assumes nothing.
use Rattle.floats.proofs.Numbers.{no_nan_bits}
use Rattle.rules.specs.Types.{class_on}
use Rattle.types.proofs.class_on.Goals as goal

pub float_from_bits-x : goal.float_from_bits-x
float_from_bits-x c = no_nan_bits _ c.requires.1

pub float_from_bits-y : goal.float_from_bits-y
float_from_bits-y c = no_nan_bits _ c.requires.2

pub float_from_bits-z : goal.float_from_bits-z
float_from_bits-z c = no_nan_bits _ c.requires.3

pub float_from_bits-middle : goal.float_from_bits-middle
float_from_bits-middle c = no_nan_bits _ c.requires.0

pub returns-then-x-middle : goal.returns-then-x-middle
unfolding class_on
returns-then-x-middle c = simp (c.if-x-y.true, c.if-x-middle.true)

pub returns-then-x-y : goal.returns-then-x-y
unfolding class_on
returns-then-x-y c = simp (c.if-x-y.true, c.if-x-middle.false)

pub returns : goal.returns
unfolding class_on
returns c = simp c.if-x-y.false
