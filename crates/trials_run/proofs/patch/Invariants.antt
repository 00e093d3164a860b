use Rattle.std.proofs.Common.{◌-◌, ◌≤◌, ◌+◌, length}
use Rattle.trials_run.proofs.patch.Given as goal

abbrev pub invariant-loop-at : goal.invariant-loop-at
invariant-loop-at l = l.at ≤ length l.patches + 4294967297

abbrev pub decreases-loop-at : goal.decreases-loop-at
decreases-loop-at l = length l.patches - l.at
