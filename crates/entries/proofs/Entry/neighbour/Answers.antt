use Rattle.std.proofs.Common.{◌∙◌, eq-eqb, ne_eqb}
use Rattle.face.proofs.Laws.{number_below}
use Rattle.entries.proofs.Entries.{read_is}
use Rattle.entries.proofs.Entry.neighbour.Goals as goal

pub returns-then-given : goal.returns-then-given
returns-then-given c =
    let r = read_is c.args.self c.number.ensures (number_below c.args.face) in
    rw (eq-eqb _ 255 (r ∙ c.if-given.true))

pub returns-else-given : goal.returns-else-given
returns-else-given c =
    let r = read_is c.args.self c.number.ensures (number_below c.args.face) in
    rw (r, ne_eqb _ 255 c.if-given.false)
