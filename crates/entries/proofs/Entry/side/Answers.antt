use Rattle.std.proofs.Common.{rules, get_or, sym, ap, ◌∙◌}
use Rattle.face.proofs.Laws.{number_below}
use Rattle.entries.specs.Log.{side_of}
use Rattle.entries.proofs.Entries.{read_is, side_kept}
use Rattle.entries.proofs.Entry.side.Goals as goal

pub returns-in-1 : goal.returns-in-1
returns-in-1 c =
    let r = read_is c.args.self c.number.ensures (number_below c.args.face) in
    sym (ap side_of (r ∙ c.in-1.is))

pub returns-in-2 : goal.returns-in-2
returns-in-2 c =
    let r = read_is c.args.self c.number.ensures (number_below c.args.face) in
    sym (ap side_of (r ∙ c.in-2.is))

pub returns-in_default : goal.returns-in_default
returns-in_default c =
    let r = read_is c.args.self c.number.ensures (number_below c.args.face) in
    side_kept (get_or c.args.self.neighbours c.number.result 0) (search rules) (search rules) ∙ sym (ap side_of r)
