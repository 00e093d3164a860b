-- `floats::corner_word` meets its contract: a corner is no NaN. Assumes nothing.
use mathlib.Core.Path.{ap}
use lib.Ieee.{Float, binary32, to_bits}
use Rattle.rules.specs.Cube.{corner_word}
use Rattle.floats.proofs.Numbers.{no_nan}
use Rattle.floats.proofs.Corners.{corner_number}
use Rattle.floats.proofs.corner_word.Goals as goal

pub float_to_bits-result : goal.float_to_bits-result
float_to_bits-result c = rw c.corner.ensures (no_nan (corner_number c.args.high _ _ c.requires.0 c.requires.1))

pub returns : goal.returns
unfolding corner_word
returns c = ap (λ (x : Float). to_bits binary32 x) c.corner.ensures
