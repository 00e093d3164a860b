-- `lines::write_named` meets its contract. Assumes nothing.
use Rattle.rules.specs.Program.{decimal}
use Rattle.lines.proofs.Writing.{wrote_then}
use Rattle.lines.proofs.write_named.Goals as goal

pub returns : goal.returns
returns c = wrote_then c.args.name.now (decimal c.args.n) c.requires c.write_text-next.ensures c.write_decimal.ensures
