use Rattle.std.proofs.Common.{arith}
use Rattle.lines.proofs.Decimals.{decimal_room}
use Rattle.workfile_run.proofs.is_right_decimal.Goals as goal

pub write_decimal-end-requires : goal.write_decimal-end-requires
write_decimal-end-requires c = decimal_room _ (omega arith)
