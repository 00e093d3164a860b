-- `chunk::empty_room` meets its contract. Assumes nothing.
use mathlib.Core.Path.{refl}
use Rattle.chunk.specs.Steps.{zeros}
use Rattle.chunk.proofs.empty_room.Goals as goal

pub returns : goal.returns
unfolding zeros
returns c = refl
