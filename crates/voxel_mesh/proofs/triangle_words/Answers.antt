-- `voxel_mesh::triangle_words` meets its contract: the table is the rule's constant. Assumes nothing.
use mathlib.Core.Path.{refl}
use Rattle.rules.specs.Lists.{each}
use Rattle.voxel_mesh.proofs.triangle_words.Goals as goal

pub returns : goal.returns
unfolding each
returns c = refl
