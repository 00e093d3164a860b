-- `lent::triangles::is_pattern` meets its contract. Assumes nothing.
use Rattle.lent.proofs.Patterns.{same_pattern}
use Rattle.lent.proofs.triangles.is_pattern.Goals as goal

pub returns : goal.returns
returns c = same_pattern _ _ c.requires.0
