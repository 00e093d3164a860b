-- `row_sets::Rows::cell_set` meets its contract. Assumes nothing.
use mathlib.Core.Path.{◌∙◌}
use Rattle.util.specs.Grid.{size_of}
use Rattle.row_sets.proofs.Plain.{kept_sides, cell_is_plain}
use Rattle.row_sets.proofs.Rows.cell_set.Goals as goal

pub returns : goal.returns
returns c =
    let rows = c.args.self in
    let size = size_of rows.look.ground.dims in
    c.plain_set.ensures
    ∙ cell_is_plain size rows.are.within rows.around rows.are rows.look.full rows.look.outer rows.look.ground.grid.now c.requires
    (kept_sides size rows.are.within rows.around rows.are rows.look.along.now c.args.x rows.look.along_is c.requires.wide)
