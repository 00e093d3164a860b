-- `util::inverse_of` meets its contract. Assumes nothing.
use Rattle.util.specs.Grid.{inverse_of}
use Rattle.util.proofs.inverse_of.Goals as goal

pub returns : goal.returns
unfolding inverse_of
returns c = cc
