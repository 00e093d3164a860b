use mathlib.Core.Path.{◌≡◌}
use mathlib.Core.List.{List}
use Prim.Native.Nat.{ℕ, ◌*◌}
use Rattle.rules.specs.Lists.{each, table}
use Rattle.rules.specs.Cube.{floats_of, cube_word}
use Rattle.rules.proofs.Rows.{written}
use Rattle.voxel_mesh.specs.Outcome.{shape_of}
use Rattle.voxel_mesh.proofs.Cube.write.Given as goal

-- the vertices of a face
abbrev pub rows_of : ℕ → (ℕ → ℕ → ℕ) → ℕ → List ℕ
rows_of floats word f = each 4 (4 * f) (λ v. table floats (word v))

abbrev pub invariant-loop-face : goal.invariant-loop-face
invariant-loop-face l =
    let s = l.fn.self in
    l.out ≡ written l.words (rows_of (floats_of s.shape.coloured) (cube_word (shape_of s.shape s.texture.now))) l.face l.initial.out
