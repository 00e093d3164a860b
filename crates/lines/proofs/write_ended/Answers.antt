-- `lines::write_ended` meets its contract. Assumes nothing.
use Rattle.std.proofs.Common.{[], ◌∷◌}
use Rattle.rules.specs.Program.{decimal}
use Rattle.lines.proofs.Writing.{wrote_then}
use Rattle.lines.proofs.write_ended.Goals as goal

pub returns : goal.returns
returns c = wrote_then (decimal c.args.n) (c.args.end ∷ []) c.requires c.write_decimal-next.ensures c.write_byte.ensures
