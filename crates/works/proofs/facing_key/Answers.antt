-- `works::facing_key` meets its contract. Assumes nothing.
use mathlib.Core.Path.{sym, ap, ◌∙◌}
use native.Mathlib.Omega.{arith}
use Rattle.rules.proofs.Neighbours.{beside}
use Rattle.face.specs.Face.{number}
use Rattle.util.specs.Grid.{size_of, cell_in}
use Rattle.works.proofs.facing_key.Goals as goal

-- the grid has the neighbour
pub key-requires : goal.key-requires
key-requires c =
    let w = c.requires.0 in
    let i = (beside (size_of c.args.dims) w.sides.wide w.sides.long c.args.cell.0 c.requires.1 (number c.args.face) _ (sym c.neighbor_at.ensures ∙ ap cell_in c.in-Some.is)).inside in
    omega (arith, w.most)
