-- `chunk::answer_built` meets its contract. Assumes nothing.
use Rattle.std.proofs.Common.{ap, ◌∙◌}
use Rattle.rules.specs.Program.{type_count, type_byte, room_in, lines_of}
use Rattle.workfile.specs.declared.Work.{Work}
use Rattle.lines.specs.Written.{faces_of}
use Rattle.workfile.proofs.Files.{types_are}
use Rattle.lines.proofs.Writing.{wrote_as}
use Rattle.working.specs.Steps.{scene_with, worked_on}
use Rattle.chunk.proofs.Rooms.{first_filled, first_wrote}
use Rattle.chunk.proofs.answer_built.Goals as goal

pub returns : goal.returns
returns c =
    let read = c.read_work-work in
    let file = c.args.file.bytes.now in
    let cubes = c.args.cubes.now in
    let types = types_are file c.args.file.good read.ensures in
    let kinds = first_filled (λ t. type_byte file t 0) (type_count file) read.result.types _ _ types c.kinds_of.ensures in
    let covers = first_filled (λ t. type_byte file t 1) (type_count file) read.result.types _ _ types c.covers_of.ensures in
    let outer = first_wrote c.outer_of-faces.ensures ∙ ap (λ (w : Work). faces_of w.outer) read.ensures in
    wrote_as
    (λ i. lines_of (scene_with file (kinds i) (covers i) cubes) (worked_on file (scene_with file (kinds i) (covers i) cubes) (outer i) (room_in file)))
    c.answer_typed.ensures
