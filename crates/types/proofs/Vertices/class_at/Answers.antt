-- `types::Vertices::class_at` meets its contract. Assumes nothing.
use Rattle.rules.specs.Types.{class_at}
use Rattle.voxel_mesh.proofs.Shapes.{finite_along}
use Rattle.types.proofs.Vertices.class_at.Goals as goal

pub class_on-requires : goal.class_on-requires
class_on-requires c =
    let placed = c.args.self.placed in (
      rw c.along.ensures (finite_along _ c.args.self.centred c.args.axis),
      rw c.position_of.ensures (placed _ _ c.requires.1 c.requires.0),
      rw c.position_of-2.ensures (placed _ _ c.requires.2 c.requires.0),
      rw c.position_of-3.ensures (placed _ _ c.requires.3 c.requires.0),
    )

pub returns : goal.returns
unfolding class_at
returns c = simp (
  c.class_on.ensures,
  c.along.ensures,
  c.position_of.ensures,
  c.position_of-2.ensures,
  c.position_of-3.ensures,
)
