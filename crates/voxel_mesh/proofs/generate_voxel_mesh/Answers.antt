-- `voxel_mesh::generate_voxel_mesh` meets its contract: it writes exactly where nothing is refused. Assumes nothing.
use lib.ListN.{length}
use Rattle.voxel_mesh.specs.Outcome.{shape_of}
use Rattle.voxel_mesh.proofs.Shapes.{accepted}
use Rattle.voxel_mesh.proofs.generate_voxel_mesh.Goals as goal

pub new-requires : goal.new-requires
new-requires c = let args = c.args in (accepted (shape_of args.shape args.texture.now) (length args.out.now) c.in_ok-verdict.ensures).0

pub write-requires : goal.write-requires
write-requires c =
    let args = c.args in
    rw c.new.ensures.0 (accepted (shape_of args.shape args.texture.now) (length args.out.now) c.in_ok-verdict.ensures).1
