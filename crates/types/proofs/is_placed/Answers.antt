-- `types::is_placed` meets its contract: the first k words are finite. Assumes nothing.
use mathlib.Core.Path.{sym, ap, ◌∙◌}
use Rattle.rules.specs.Floats.{finite}
use native.Mathlib.Omega.{arith}
use Rattle.rules.proofs.ListLaws.{every_all}
use Rattle.types.proofs.Known.{every_false}
use Rattle.types.proofs.is_placed.Goals as goal

pub returns-then-not-is_finite_bits : goal.returns-then-not-is_finite_bits
returns-then-not-is_finite_bits c =
    sym (every_false 72 _ c.loop-k.k (omega arith) (sym (c.is_finite_bits.ensures ∙ ap finite c.position_of.ensures) ∙ c.if-not-is_finite_bits.true))

pub returns : goal.returns
returns c = sym (every_all 72 _ (λ k h. c.loop-k.invariant k (omega arith)))
