-- `voxel_mesh::is_bad_atlas` meets its contract. Assumes nothing.
use Rattle.rules.specs.Answers.{bad_atlas}
use Rattle.voxel_mesh.proofs.is_bad_atlas.Goals as goal

pub returns : goal.returns
unfolding bad_atlas
returns c = cc
