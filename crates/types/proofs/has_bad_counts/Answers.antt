-- `types::has_bad_counts` meets its contract. Assumes nothing.
use Prim.Native.Nat.{◌*◌, ◌≤◌}
use lib.Dec.{ltb}
use native.Mathlib.Nat.{mul-le-mul}
use borrow.Author.Tests.{ltb-false}
use lib.ListN.{length}
use Rattle.rules.specs.Answers.{bad_counts}
use Rattle.rules.proofs.ListLaws.{or_false}
use Rattle.voxel_mesh.proofs.Shapes.{few}
use native.Mathlib.Omega.{arith}
use Rattle.types.proofs.has_bad_counts.Goals as goal

pub returns-then-n : goal.returns-then-n
unfolding bad_counts
returns-then-n c = simp c.if-n.true

pub overflow_mul-result : goal.overflow_mul-result
overflow_mul-result c = omega (arith, c.floats_of.ensures, few c.args.types.coloured)

pub overflow_mul-result-2 : goal.overflow_mul-result-2
overflow_mul-result-2 c =
    let args = c.args in
    let n = length args.types.kinds.now in
    let most : n ≤ 255 = ltb-false 255 n (or_false (ltb n 1) (ltb 255 n) c.if-n.false).1 in
    let words : 24 * c.floats_of.result ≤ 288 = omega (arith, c.floats_of.ensures, few args.types.coloured) in
    omega (arith, mul-le-mul words most)

pub returns : goal.returns
unfolding bad_counts
returns c = simp (c.if-n.false, c.floats_of.ensures)
