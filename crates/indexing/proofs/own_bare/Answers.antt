-- `indexing::own_bare` meets its contract: side by side, VIVI tells it. Assumes nothing.
use Rattle.std.proofs.Common.{rules}
use Rattle.rules.specs.Cells.{key_of}
use Rattle.indexing.specs.Due.{is_bare}
use Rattle.indexing.proofs.Doing.{bare_told}
use Rattle.indexing.proofs.own_bare.Goals as goal

pub returns : goal.returns
returns c = c.side_set.ensures (λ f. is_bare c.args.slots.now (key_of c.args.cell.0 f)) (λ face b h. search (rules, bare_told))
