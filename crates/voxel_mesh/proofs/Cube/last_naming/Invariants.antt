use mathlib.Core.Path.{◌≡◌}
use Rattle.rules.specs.Cube.{last_naming}
use Rattle.voxel_mesh.proofs.Cube.last_naming.Given as goal

abbrev pub invariant-loop-n : goal.invariant-loop-n
invariant-loop-n l = last_naming l.fn.self.texture.now l.face 6 ≡ last_naming l.fn.self.texture.now l.face l.n
