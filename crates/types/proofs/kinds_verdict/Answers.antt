use Rattle.std.proofs.Common.{rules}
use Rattle.rules.specs.Answers.{bad_type}
use Rattle.types.proofs.kinds_verdict.Goals as goal

pub returns : goal.returns
unfolding bad_type
returns c = search rules
