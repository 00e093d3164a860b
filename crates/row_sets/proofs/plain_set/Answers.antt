-- `row_sets::plain_set` meets its contract. Assumes nothing.
use Rattle.std.proofs.Common.{rules}
use mathlib.Core.Path.{ap, ◌∙◌}
use mathlib.Core.Bool.{cond}
use Prim.Native.Nat.{ℕ}
use lib.Bits.{or_lt}
use lib.Dec.{ltb, leb}
use native.Mathlib.Omega.{arith}
use Rattle.row_sets.specs.Rows.{code_of, plain_set}
use Rattle.row_sets.proofs.Plain.{formula_is}
use Rattle.row_sets.proofs.plain_set.Goals as goal

pub overflow_sub-edge : goal.overflow_sub-edge
overflow_sub-edge c = omega (arith, or_lt 6 c.args.keep c.args.outer c.requires.0 c.requires.1)

pub returns : goal.returns
unfolding plain_set
returns c =
    let a = c.args in
    let opened = c.side_set-open.ensures (λ f. ltb (code_of a.codes f) a.full) (λ face b post. search rules) in
    c.bit_if.ensures.0
    ∙ ap (λ (n : ℕ). cond (leb a.full a.own) n 0)
    (formula_is (λ f. ltb (code_of a.codes f) a.full) c.side_set-open.result a.keep a.outer opened c.requires.0 c.requires.1)
