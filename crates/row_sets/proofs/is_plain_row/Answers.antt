-- `row_sets::is_plain_row` meets its contract. Assumes nothing.
use Rattle.rules.proofs.ListLaws.{and_true}
use Rattle.util.specs.Grid.{size_of}
use Rattle.row_sets.proofs.Plain.{plain_around}
use Rattle.row_sets.proofs.is_plain_row.Goals as goal

pub returns : goal.returns
returns c =
    λ e. let rows = c.args.rows in
    let three = and_true _ _ e in
    let two = and_true _ _ three.0 in
    let one = and_true _ _ two.0 in
    plain_around (size_of rows.look.ground.dims) rows.are.within rows.around rows.are rows.look.clear rows.look.full rows.look.ground.grid.now
    (c.are_plain.ensures c.if-not-are_plain.false) (c.are_plain-2.ensures one.0) (c.are_plain-3.ensures one.1) (c.are_plain-4.ensures two.1) (c.are_plain-5.ensures three.1)
