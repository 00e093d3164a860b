-- `chunk::answer_typed` meets its contract: the work is done in empty room, and its answer written. Assumes nothing.
use Rattle.std.proofs.Common.{length, drop, refl, sym, ap, ◌∙◌, arith}
use lib.Seq.{take_at}
use Rattle.rules.specs.Program.{room_in}
use Rattle.update.specs.Outcome.{answer_of}
use Rattle.terms.specs.Loans.{lists_lent}
use Rattle.lines.proofs.Writing.{wrote_as}
use Rattle.working.specs.Steps.{scene_with, worked_on}
use Rattle.chunk.specs.Steps.{lines_with}
use Rattle.chunk.proofs.Rooms.{room_lent, lists_room, part_inside}
use Rattle.chunk.proofs.Printing.{worked_fits, worked_written}
use Rattle.chunk.proofs.answer_typed.Goals as goal

pub slice_bounds-work_lists-end : goal.slice_bounds-work_lists-end
slice_bounds-work_lists-end c = room_lent c.empty_room-positions.ensures _ (omega arith)

pub slice_bounds-work_lists-end-2 : goal.slice_bounds-work_lists-end-2
slice_bounds-work_lists-end-2 c = room_lent c.empty_room-normals.ensures _ (omega arith)

pub slice_bounds-work_lists-end-3 : goal.slice_bounds-work_lists-end-3
slice_bounds-work_lists-end-3 c = room_lent c.empty_room-uvs.ensures _ (omega arith)

pub slice_bounds-work_lists-end-4 : goal.slice_bounds-work_lists-end-4
slice_bounds-work_lists-end-4 c = room_lent c.empty_room-colours.ensures _ (omega arith)

pub slice_bounds-work_lists-end-5 : goal.slice_bounds-work_lists-end-5
slice_bounds-work_lists-end-5 c = room_lent c.empty_room-triangles.ensures _ (omega arith)

pub slice_bounds-work_lists-end-6 : goal.slice_bounds-work_lists-end-6
slice_bounds-work_lists-end-6 c = room_lent c.empty_room-links.ensures _ (omega arith)

pub slice_bounds-links-end-2 : goal.slice_bounds-links-end-2
slice_bounds-links-end-2 c =
    part_inside c.work_lists-updated.new.links _
    (c.work_lists-updated.auto.links ∙ sym (room_lent c.empty_room-links.ensures _ (omega arith)))

pub slice_bounds-write_answer-end : goal.slice_bounds-write_answer-end
slice_bounds-write_answer-end c =
    let back = c.work_lists-updated.auto.links ∙ sym (room_lent c.empty_room-links.ensures _ (omega arith)) in
    sym (ap length (take_at c.work_lists-updated.new.links (drop 128 c.empty_room-links.result) 128 back) ∙ back)

pub write_answer-requires : goal.write_answer-requires
write_answer-requires c =
    let a = c.args in
    let file = a.file.bytes.now in
    let scene = scene_with file a.kinds.now a.covers.now a.cubes.now in
    let new = c.work_lists-updated.new in
    let exit = lists_lent new.positions new.normals new.uvs new.colours new.triangles new.links new.slots in
    let back = c.work_lists-updated.auto.links ∙ sym (room_lent c.empty_room-links.ensures _ (omega arith)) in
    let told = c.work_lists-updated.ensures ∙ ap (worked_on file scene a.outer.now)
    (lists_room file c.empty_room-positions.ensures c.empty_room-normals.ensures c.empty_room-uvs.ensures c.empty_room-colours.ensures c.empty_room-triangles.ensures
    c.empty_room-links.ensures c.empty_room-slots.ensures c.slot_count-six.ensures) in (
      omega (arith, c.requires),
      rw (take_at new.links (drop 128 c.empty_room-links.result) 128 back)
          (worked_fits file scene a.outer.now (room_in file) c.work_lists-updated.result exit told a.out.now a.file.good.cells refl c.requires),
    )

pub returns : goal.returns
returns c =
    let a = c.args in
    let file = a.file.bytes.now in
    let scene = scene_with file a.kinds.now a.covers.now a.cubes.now in
    let new = c.work_lists-updated.new in
    let exit = lists_lent new.positions new.normals new.uvs new.colours new.triangles new.links new.slots in
    let back = c.work_lists-updated.auto.links ∙ sym (room_lent c.empty_room-links.ensures _ (omega arith)) in
    let told = c.work_lists-updated.ensures ∙ ap (worked_on file scene a.outer.now)
    (lists_room file c.empty_room-positions.ensures c.empty_room-normals.ensures c.empty_room-uvs.ensures c.empty_room-colours.ensures c.empty_room-triangles.ensures
    c.empty_room-links.ensures c.empty_room-slots.ensures c.slot_count-six.ensures) in
    wrote_as
    (ap (lines_with (answer_of c.work_lists-updated.result)) (take_at new.links (drop 128 c.empty_room-links.result) 128 back)
    ∙ worked_written file scene a.outer.now (room_in file) c.work_lists-updated.result exit told a.out.now
    (worked_fits file scene a.outer.now (room_in file) c.work_lists-updated.result exit told a.out.now a.file.good.cells refl c.requires))
    c.write_answer.ensures
