-- `floats::moved_word` meets its contract: the product of two finite numbers is no NaN, and so is its sum with a finite one. Assumes nothing.
use mathlib.Core.Path.{refl}
use native.Mathlib.Omega.{arith}
use Rattle.rules.specs.Types.{moved_word}
use Rattle.floats.proofs.Numbers.{bits_finite, no_nan_bits, no_nan, whole_finite, mul_number, add_number}
use Rattle.floats.proofs.moved_word.Goals as goal

pub returns : goal.returns
unfolding moved_word
returns c = refl

pub float_from_bits-shift : goal.float_from_bits-shift
float_from_bits-shift c = no_nan_bits _ c.requires.2

pub float_from_bits-result : goal.float_from_bits-result
float_from_bits-result c = no_nan_bits _ c.requires.0

pub float_to_bits-result : goal.float_to_bits-result
float_to_bits-result c = no_nan (add_number (bits_finite _ c.requires.0) (mul_number (whole_finite _ (omega arith)) (bits_finite _ c.requires.2)))
