use Rattle.std.proofs.Common.{◌≡◌}
use Rattle.rules.specs.Lists.{every}
use Rattle.lent.specs.Patterns.{goes_on}
use Rattle.lent.proofs.triangles.rows_go_on.Given as goal

abbrev pub invariant-loop-k : goal.invariant-loop-k
invariant-loop-k l = l.good ≡ every l.k (goes_on l.triangles)
