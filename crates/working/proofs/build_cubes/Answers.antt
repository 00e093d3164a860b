-- `working::build_cubes` meets its contract. Assumes nothing.
use Rattle.std.proofs.Common.{◌+◌, ◌*◌, ◌≤◌, ◌<◌, length, arith}
use Rattle.rules.specs.Calls.{check_by}
use Rattle.rules.specs.Program.{type_count}
use Rattle.answers.specs.Verdicts.{verdict_of}
use Rattle.answers.proofs.Chains.{given}
use Rattle.workfile.proofs.Files.{types_are}
use Rattle.working.proofs.Words.{registry_few}
use Rattle.working.proofs.Cubing.{building_none, building_all, stretch_inside, turn_stop, turn_more, refused_number, done_number}
use Rattle.working.proofs.build_cubes.Goals as goal

more : (c : goal.In-loop-t) → c.loop-t.t < type_count c.args.file.bytes.now
more c = omega (arith, types_are _ c.args.file.good c.read_work-t-end.ensures, c.loop-t-test.true)

inside : (c : goal.In-loop-t)
    → c.cube_words-words.result * c.loop-t.t + c.cube_words-words.result ≤ length c.loop-t.registry
inside c = rw c.cube_words-words.ensures (stretch_inside _ _ _ c.loop-t.invariant (more c))

few : (c : goal.In-loop-t) → length c.loop-t.registry ≤ 2304
few c = rw c.loop-t.invariant.long (registry_few _ c.args.file.good)

pub loop-t-init : goal.loop-t-init
loop-t-init c = building_none _ _ c.requires

pub slice_bounds-build_cube-end : goal.slice_bounds-build_cube-end
slice_bounds-build_cube-end c = omega (arith, inside c)

pub returns-in_err-build_cube : goal.returns-in_err-build_cube
returns-in_err-build_cube c =
    let x = c.build_cube.result in
    rw (given c.from_residual.result x c.in_err-build_cube.was c.from_residual.ensures.1)
    (turn_stop _ _ _ c.loop-t.invariant (rw (types_are _ c.args.file.good c.read_work-t-end.ensures) at c.loop-t-test.true) (check_by (verdict_of x)) _
    c.cube_words-words.result c.cube_words-words.ensures (c.build_cube.ensures, c.build_cube.auto.out) _ (refused_number x c.in_err-build_cube.was))

pub loop-t-preserved : goal.loop-t-preserved
loop-t-preserved c =
    let x = c.build_cube.result in
    turn_more _ _ _ c.loop-t.invariant (rw (types_are _ c.args.file.good c.read_work-t-end.ensures) at c.loop-t-test.true) (check_by (verdict_of x)) _
    c.cube_words-words.result c.cube_words-words.ensures (c.build_cube.ensures, c.build_cube.auto.out) (done_number x c.in_ok-build_cube.was)

pub returns : goal.returns
returns c = building_all _ _ _ c.loop-t.invariant (omega (arith, types_are _ c.args.file.good c.read_work-t-end.ensures, c.loop-t-test.false))
