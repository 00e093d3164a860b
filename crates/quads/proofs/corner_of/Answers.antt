-- `quads::corner_of` meets its contract: the table is the rule's order. Assumes nothing.
use mathlib.Core.Path.{refl}
use Rattle.rules.specs.Types.{order}
use Rattle.quads.proofs.corner_of.Goals as goal

pub returns : goal.returns
unfolding order
returns c = refl
