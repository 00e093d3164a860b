-- `chunk::answer_file` meets its contract. Assumes nothing.
use Rattle.std.proofs.Common.{List, [], ℕ, ap, ◌∙◌}
use Rattle.rules.specs.Program.{type_count, build_from, built_lines}
use Rattle.lines.proofs.Writing.{wrote_as}
use Rattle.chunk.proofs.Printing.{bad_printed, good_printed}
use Rattle.chunk.proofs.answer_file.Goals as goal

pub returns-in-Some : goal.returns-in-Some
returns-in-Some c =
    wrote_as
    (ap (λ (file : List ℕ). built_lines file (build_from file 0 (type_count file) [])) c.in-Some.ensures.1 ∙ good_printed _ c.in-Some.ensures.0)
    c.answer_good.ensures

pub returns-in-None : goal.returns-in-None
returns-in-None c = wrote_as (bad_printed _ c.in-None.ensures) c.write_refusal.ensures
