use mathlib.Core.Path.{◌≡◌}
use mathlib.Core.Bool.{not}
use Rattle.rules.specs.Lists.{every}
use Rattle.rules.specs.Answers.{bad_tile}
use Rattle.voxel_mesh.proofs.has_tiles.Given as goal

abbrev pub invariant-loop-i : goal.invariant-loop-i
invariant-loop-i l = l.ok ≡ every l.i (λ k. not (bad_tile l.texture k))
