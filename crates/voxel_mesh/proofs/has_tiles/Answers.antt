-- `voxel_mesh::has_tiles` meets its contract: after i turns, `ok` says it of the first i entries. Assumes nothing.
use mathlib.Core.Path.{refl}
use native.Mathlib.Numerals.{add-one}
use Rattle.rules.specs.Lists.{every}
use Rattle.voxel_mesh.proofs.has_tiles.Goals as goal

pub loop-i-init : goal.loop-i-init
unfolding every
loop-i-init c = refl

pub loop-i-preserved : goal.loop-i-preserved
unfolding every
loop-i-preserved c = simp (add-one, c.loop-i.invariant)
