use Rattle.face.proofs.Lowest.{with_last}
use Rattle.face.proofs.lowest_side.Goals as goal

-- `face::lowest_side` meets its contract. Assumes nothing.

pub returns : goal.returns
returns c = with_last c.args.set c.requires.0 c.requires.1
