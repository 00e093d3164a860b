use mathlib.Core.List.{[], ◌∷◌}
use native.Mathlib.Numerals.{unary_clauses}
use Rattle.vav.proofs.Laws.{stored}
use Rattle.vav.proofs.write_four.Goals as goal

pub returns : goal.returns
returns c =
    let a = c.args in
    simp unary_clauses (stored a.at (a.a ∷ a.b ∷ a.c ∷ a.d ∷ []) a.list.now c.requires)
