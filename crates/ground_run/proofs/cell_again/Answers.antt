use Rattle.std.proofs.Common.{ap, arith}
use Rattle.rules.specs.Cells.{Triple}
use Rattle.util.specs.Grid.{size_of}
use Rattle.rules.proofs.Neighbours.{inside_of}
use Rattle.ground_run.proofs.cell_again.Goals as goal

-- the coordinates of a cell are within the sizes
pub one_d_cords-requires : goal.one_d_cords-requires
one_d_cords-requires c =
    let e = c.three_d_cords-cords.ensures in
    let x = ap (λ (v : Triple). v.x) e in
    let y = ap (λ (v : Triple). v.y) e in
    let z = ap (λ (v : Triple). v.z) e in
    let within = c.requires.0 in
    let i = inside_of (size_of c.args.dims) c.args.cell within.sides.wide within.sides.long c.requires.1 in
    (within, omega arith, omega arith, omega arith)
