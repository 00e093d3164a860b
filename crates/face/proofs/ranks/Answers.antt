use Rattle.rules.specs.Lists.{count, each}
use Rattle.face.proofs.Sets as laws
use Rattle.face.proofs.ranks.Goals as goal

-- `face::ranks` meets its contract: the table that is written out is the one that the rule gives. antt computes it, all 384 numbers. Assumes nothing.

pub returns : goal.returns
unfolding each count
returns c = laws.ranks
