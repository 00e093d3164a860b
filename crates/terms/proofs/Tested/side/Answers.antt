-- `terms::Tested::side` meets its contract, mode by mode. Assumes nothing.
use mathlib.Core.Path.{sym, ap, ◌∙◌}
use Rattle.face.specs.Face.{number}
use Rattle.terms.specs.declared.Tested.{Tested}
use Rattle.terms.specs.Modes.{tested_by}
use Rattle.terms.proofs.Tested.side.Goals as goal

pub returns-in-Opposite : goal.returns-in-Opposite
returns-in-Opposite c =
    let a = c.args in
    c.opposite.ensures ∙ ap (λ (t : Tested). tested_by t (number a.face)) (sym c.in-Opposite.is)
