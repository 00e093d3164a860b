-- `lent::triangles::all_patterned` meets its contract. Assumes nothing.
use Rattle.std.proofs.Common.{sym, ◌∙◌}
use Rattle.rules.proofs.ListLaws.{and_true}
use Rattle.lent.proofs.Patterns.{patterned}
use Rattle.lent.proofs.triangles.all_patterned.Goals as goal

pub returns : goal.returns
returns c = λ e.
    let both = and_true _ _ e in
    patterned _ _ c.requires.0 c.requires.1 (sym c.is_pattern.ensures ∙ both.0) (sym c.rows_go_on.ensures ∙ both.1)
