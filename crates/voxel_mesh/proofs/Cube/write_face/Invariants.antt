use mathlib.Core.Path.{◌≡◌}
use Prim.Native.Nat.{◌+◌, ◌*◌}
use Rattle.rules.specs.Lists.{table}
use Rattle.rules.specs.Cube.{cube_word}
use Rattle.rules.proofs.Rows.{written}
use Rattle.voxel_mesh.specs.Outcome.{shape_of}
use Rattle.voxel_mesh.proofs.Cube.write_face.Given as goal

abbrev pub invariant-loop-i : goal.invariant-loop-i
invariant-loop-i l =
    let s = l.fn.self in
    l.out ≡ written l.floats (λ k. table l.floats (cube_word (shape_of s.shape s.texture.now) (4 * l.face + k))) l.i l.initial.out
