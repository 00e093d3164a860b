-- `update::run_log` meets its contract: entry by entry, the lists are the layout of the rule's mesh. Assumes nothing.
use mathlib.Core.Path.{sym, ◌∙◌}
use native.Mathlib.Omega.{arith}
use Rattle.terms.specs.Modes.{tested_by}
use Rattle.update.proofs.Running.{found, run_gridded, run_dues, run_small, run_over, run_fits, run_word, run_turned, run_full, run_through, run_ended}
use Rattle.update.proofs.run_log.Goals as goal

pub due_work-due-requires : goal.due_work-due-requires
due_work-due-requires c = run_gridded (tested_by c.args.task.tested) c.requires c.loop-k.invariant.0 c.loop-k-test.true c.read_entry-entry.ensures c.keys_around-keys.ensures

-- each side of what is due is one of six
pub has_room-requires : goal.has_room-requires
has_room-requires c =
    let s = tested_by c.args.task.tested in
    let r = c.loop-k.invariant.0 in
    (run_dues s c.requires r (found r c.loop-k-test.true c.read_entry-entry.ensures c.work_of-work.ensures c.keys_around-keys.ensures c.due_work-due.ensures), run_small s c.requires r)

pub word-requires : goal.word-requires
word-requires c =
    let s = tested_by c.args.task.tested in
    let r = c.loop-k.invariant.0 in
    run_dues s c.requires r (found r c.loop-k-test.true c.read_entry-entry.ensures c.work_of-work.ensures c.keys_around-keys.ensures c.due_work-due.ensures)

-- an entry that finds no room
pub returns-then-not-has_room : goal.returns-then-not-has_room
returns-then-not-has_room c =
    let s = tested_by c.args.task.tested in
    let r = c.loop-k.invariant.0 in
    let f = found r c.loop-k-test.true c.read_entry-entry.ensures c.work_of-work.ensures c.keys_around-keys.ensures c.due_work-due.ensures in
    run_ended s c.requires r (run_full s c.requires r c.loop-k-test.true (run_over s c.requires r f c.has_room.ensures c.if-not-has_room.true))

-- one that finds its room
pub index_work-tally-requires : goal.index_work-tally-requires
index_work-tally-requires c =
    let s = tested_by c.args.task.tested in
    let r = c.loop-k.invariant.0 in
    let f = found r c.loop-k-test.true c.read_entry-entry.ensures c.work_of-work.ensures c.keys_around-keys.ensures c.due_work-due.ensures in
    let fit = run_fits s c.requires r f c.has_room.ensures c.if-not-has_room.false in
    run_word s c.requires r f fit c.loop-k.steps c.loop-k.invariant.3 c.word.ensures

pub overflow_mul-words : goal.overflow_mul-words
overflow_mul-words c =
    let s = tested_by c.args.task.tested in
    let r = c.loop-k.invariant.0 in
    let f = found r c.loop-k-test.true c.read_entry-entry.ensures c.work_of-work.ensures c.keys_around-keys.ensures c.due_work-due.ensures in
    let fit = run_fits s c.requires r f c.has_room.ensures c.if-not-has_room.false in
    let w = c.index_work-tally in
    let x = run_turned s c.requires r f fit c.loop-k.steps c.loop-k.invariant.3 c.word.ensures w.new.links w.new.slots w.new.steps w.result w.ensures w.auto.steps in
    omega (arith, x.taken, w.auto.steps, c.loop-k.invariant.3)

pub slice_bounds-steps-end : goal.slice_bounds-steps-end
slice_bounds-steps-end c =
    let s = tested_by c.args.task.tested in
    let r = c.loop-k.invariant.0 in
    let f = found r c.loop-k-test.true c.read_entry-entry.ensures c.work_of-work.ensures c.keys_around-keys.ensures c.due_work-due.ensures in
    let fit = run_fits s c.requires r f c.has_room.ensures c.if-not-has_room.false in
    let w = c.index_work-tally in
    let x = run_turned s c.requires r f fit c.loop-k.steps c.loop-k.invariant.3 c.word.ensures w.new.links w.new.slots w.new.steps w.result w.ensures w.auto.steps in
    x.taken

pub slice_bounds-replay_steps-end : goal.slice_bounds-replay_steps-end
slice_bounds-replay_steps-end c =
    let s = tested_by c.args.task.tested in
    let r = c.loop-k.invariant.0 in
    let f = found r c.loop-k-test.true c.read_entry-entry.ensures c.work_of-work.ensures c.keys_around-keys.ensures c.due_work-due.ensures in
    let fit = run_fits s c.requires r f c.has_room.ensures c.if-not-has_room.false in
    let w = c.index_work-tally in
    let x = run_turned s c.requires r f fit c.loop-k.steps c.loop-k.invariant.3 c.word.ensures w.new.links w.new.slots w.new.steps w.result w.ensures w.auto.steps in
    sym x.lent

pub replay_steps-requires : goal.replay_steps-requires
replay_steps-requires c =
    let s = tested_by c.args.task.tested in
    let r = c.loop-k.invariant.0 in
    let f = found r c.loop-k-test.true c.read_entry-entry.ensures c.work_of-work.ensures c.keys_around-keys.ensures c.due_work-due.ensures in
    let fit = run_fits s c.requires r f c.has_room.ensures c.if-not-has_room.false in
    let w = c.index_work-tally in
    let x = run_turned s c.requires r f fit c.loop-k.steps c.loop-k.invariant.3 c.word.ensures w.new.links w.new.slots w.new.steps w.result w.ensures w.auto.steps in
    (x.replaying, c.inverted-inverse.ensures)

pub loop-k-preserved : goal.loop-k-preserved
loop-k-preserved c =
    let s = tested_by c.args.task.tested in
    let r = c.loop-k.invariant.0 in
    let f = found r c.loop-k-test.true c.read_entry-entry.ensures c.work_of-work.ensures c.keys_around-keys.ensures c.due_work-due.ensures in
    let fit = run_fits s c.requires r f c.has_room.ensures c.if-not-has_room.false in
    let w = c.index_work-tally in
    let x = run_turned s c.requires r f fit c.loop-k.steps c.loop-k.invariant.3 c.word.ensures w.new.links w.new.slots w.new.steps w.result w.ensures w.auto.steps in
    (x.on _ c.replay_steps.ensures, w.auto.links ∙ c.loop-k.invariant.1, w.auto.slots ∙ c.loop-k.invariant.2, w.auto.steps ∙ c.loop-k.invariant.3)

pub returns : goal.returns
returns c =
    let s = tested_by c.args.task.tested in
    let r = c.loop-k.invariant.0 in
    run_ended s c.requires r (run_through s c.requires r (let h = c.loop-k-test.false in omega arith))
