-- `voxel_mesh::texture_verdict` meets its contract. Assumes nothing.
use Rattle.std.proofs.Common.{rules}
use Rattle.rules.specs.Answers.{BAD_TEXTURE}
use Rattle.answers.proofs.Chains.{stops, goes}
use Rattle.voxel_mesh.proofs.texture_verdict.Goals as goal

pub returns-in_err-refuse_lowest : goal.returns-in_err-refuse_lowest
unfolding BAD_TEXTURE
returns-in_err-refuse_lowest c =
    stops _ _ _ _ c.in_err-refuse_lowest.was c.from_residual.ensures.1 (c.refuse_lowest.ensures _ (search rules))

pub returns : goal.returns
unfolding BAD_TEXTURE
returns c = goes _ _ c.in_ok-refuse_lowest.was (c.refuse_lowest.ensures _ (search rules)) c.refuse_if.ensures
