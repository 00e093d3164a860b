-- `indexing::met_sides` meets its contract: side by side. Assumes nothing.
use Rattle.std.proofs.Common.{rules}
use Rattle.indexing.specs.Due.{is_met}
use Rattle.indexing.proofs.met_sides.Goals as goal

pub returns : goal.returns
returns c = c.side_set.ensures (is_met c.args.keys.now) (λ face b h. search rules)
