use Rattle.std.proofs.Common.{sym, ◌∙◌}
use Rattle.workfile.proofs.Files.{good}
use Rattle.workfile.proofs.WorkFile.open.Goals as goal

pub invariant_of-result : goal.invariant_of-result
invariant_of-result c = record { good = good _ (sym c.is_bad_file.ensures ∙ c.if-is_bad_file.false) }
