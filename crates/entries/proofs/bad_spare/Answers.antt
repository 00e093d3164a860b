-- `entries::bad_spare` meets its contract. Assumes nothing.
use Rattle.std.proofs.Common.{refl}
use Rattle.rules.specs.Answers.{bad_spare}
use Rattle.entries.proofs.bad_spare.Goals as goal

pub returns : goal.returns
unfolding bad_spare
returns c = refl
