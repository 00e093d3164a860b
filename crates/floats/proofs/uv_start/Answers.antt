-- `floats::uv_start` meets its contract. Assumes nothing.
use Rattle.floats.proofs.Numbers.{no_nan_bits}
use Rattle.floats.proofs.uv_start.Goals as goal

pub float_from_bits-result : goal.float_from_bits-result
float_from_bits-result c = no_nan_bits _ c.requires.3
