use mathlib.Core.Path.{sym}
use Rattle.face.proofs.Sets.{quads_ones}
use Rattle.face.proofs.quads_of.Goals as goal

pub returns : goal.returns
returns c = sym (quads_ones c.args.set c.requires)
