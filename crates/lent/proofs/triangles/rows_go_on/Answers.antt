-- `lent::triangles::rows_go_on` meets its contract. Assumes nothing.
use Rattle.std.proofs.Common.{refl, add-one}
use Rattle.rules.specs.Lists.{every}
use Rattle.lent.proofs.triangles.rows_go_on.Goals as goal

pub loop-k-init : goal.loop-k-init
unfolding every
loop-k-init c = refl

pub loop-k-preserved : goal.loop-k-preserved
unfolding every
loop-k-preserved c = rw (add-one, every) (cc)
