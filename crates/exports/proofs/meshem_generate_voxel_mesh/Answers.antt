-- `exports::meshem_generate_voxel_mesh` meets its contract: the cube call's, with the answer told. Assumes nothing.
use Rattle.answers.specs.Verdicts.{verdict_of}
use Rattle.telling.proofs.Telling.{bare, cube_told}
use Rattle.exports.proofs.meshem_generate_voxel_mesh.Goals as goal

pub returns : goal.returns
returns c =
    cube_told (bare c.told_by_verdict-cubed.result (verdict_of c.generate_voxel_mesh.result) c.told_by_verdict-cubed.ensures)
    (rw c.is_yes.ensures at c.generate_voxel_mesh.ensures)
