use Rattle.std.proofs.Common.{◌≡◌, ◌-◌}
use Rattle.rules.specs.Lists.{lowest, lowest_from}
use Rattle.rules.specs.Answers.{bad_entry}
use Rattle.entries.proofs.first_bad_entry.Given as goal

abbrev pub invariant-loop-k : goal.invariant-loop-k
invariant-loop-k l = lowest l.entries (bad_entry l.cells l.types l.log) ≡ lowest_from l.k (l.entries - l.k) (bad_entry l.cells l.types l.log)
