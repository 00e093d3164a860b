-- `lines::write_lines` meets its contract. Assumes nothing.
use Rattle.lines.proofs.Lining.{lines_written}
use Rattle.lines.proofs.write_lines.Goals as goal

pub returns : goal.returns
returns c =
    lines_written c.args.quads c.args.moved c.args.links.now c.requires.1 c.write_head-next.ensures c.write_quads.ensures
