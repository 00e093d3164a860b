-- `works::given` meets its contract. Assumes nothing.
use mathlib.Core.Path.{sym}
use Rattle.entries.proofs.Entries.{given_is}
use Rattle.works.proofs.given.Goals as goal

pub returns : goal.returns
returns c = sym (given_is c.args.entry c.args.face c.requires)
