use Rattle.std.proofs.Common.{ℕ, ◌≤◌, List, [], ◌∷◌, arith}
use Rattle.rules.specs.Cells.{code_in}
use Rattle.rules.specs.Calls.{answered}
use Rattle.rules.proofs.ListLaws.{all_at}
use Rattle.lines.specs.Written.{OfFaces, quads_of}
use Rattle.lines.proofs.Lining.{lines_room}
use Rattle.workfile_run.proofs.is_right_example.Goals as goal

abbrev example : List ℕ
example = 1 ∷ 536870913 ∷ 2684354561 ∷ 2147483649 ∷ 1610612737 ∷ 1073741825 ∷ []

faces : OfFaces example
faces i h = all_at (λ w. code_in w ≤ 5) example i 0 (omega arith, (omega arith, (omega arith, (omega arith, (omega arith, (omega arith, tt)))))) h

pub write_lines-end-requires : goal.write_lines-end-requires
write_lines-end-requires c = (
  faces,
  lines_room (answered 6 14) (quads_of example) (omega arith)
      (omega arith, (omega arith, (omega arith, (omega arith, (omega arith, (omega arith, tt)))))) (omega arith) (omega arith),
)
