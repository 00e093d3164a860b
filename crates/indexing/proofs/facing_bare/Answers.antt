-- `indexing::facing_bare` meets its contract: side by side. Assumes nothing.
use Rattle.std.proofs.Common.{rules}
use Rattle.works.specs.Sets.{key_met}
use Rattle.indexing.specs.Due.{is_bare}
use Rattle.indexing.proofs.facing_bare.Goals as goal

pub returns : goal.returns
returns c = c.side_set.ensures (λ f. is_bare c.args.slots.now (key_met c.args.keys.now 1 f)) (λ face b h. search rules)
