use Rattle.std.proofs.Common.{length}
use Rattle.workfile_run.proofs.run.Given as goal

abbrev pub decreases-loop-kind : goal.decreases-loop-kind
decreases-loop-kind l = length l.left
