-- `floats::corner` meets its contract. Assumes nothing.
use Rattle.floats.proofs.Numbers.{no_nan_bits}
use Rattle.floats.proofs.corner.Goals as goal

pub float_from_bits-size : goal.float_from_bits-size
float_from_bits-size c = no_nan_bits _ c.requires.0

pub float_from_bits-middle : goal.float_from_bits-middle
float_from_bits-middle c = no_nan_bits _ c.requires.1
