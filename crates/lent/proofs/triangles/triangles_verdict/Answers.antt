-- `lent::triangles::triangles_verdict` meets its contract. Assumes nothing.
use Rattle.std.proofs.Common.{not, sym, ap}
use Rattle.rules.proofs.Checking.{fine_lowest}
use Rattle.lent.proofs.triangles.triangles_verdict.Goals as goal

pub returns-then-all_patterned : goal.returns-then-all_patterned
returns-then-all_patterned c = λ vertices links slots.
    sym (fine_lowest _ _ _ (λ q h. ap not (c.all_patterned.ensures c.if-all_patterned.true q h)))
