-- `chunk::answer_good` meets its contract. Assumes nothing.
use Rattle.std.proofs.Common.{List, ℕ, ap, sym, ◌∙◌, arith}
use lib.Seq.{take_at}
use Rattle.rules.specs.Calls.{check_by}
use Rattle.rules.specs.Program.{scene_in, worked, lines_of}
use Rattle.answers.specs.Verdicts.{verdict_of}
use Rattle.lines.proofs.Writing.{wrote_as}
use Rattle.chunk.proofs.Rooms.{room_lent}
use Rattle.working.proofs.Cubing.{built_lines_lem, done_number}
use Rattle.chunk.proofs.answer_good.Goals as goal

pub returns-in-Ok : goal.returns-in-Ok
returns-in-Ok c =
    let file = c.args.file.bytes.now in
    let back = c.build_cubes.auto.registry ∙ sym (room_lent c.empty_room-registry.ensures _ (omega (arith, c.registry_words-words.ensures.1))) in
    wrote_as
    (ap (λ (cubes : List ℕ). lines_of (scene_in file cubes) (worked file (scene_in file cubes))) (take_at _ _ _ back)
    ∙ built_lines_lem file (check_by (verdict_of c.build_cubes.result)) _ c.build_cubes.ensures (done_number _ c.in-Ok.is))
    c.answer_built.ensures
