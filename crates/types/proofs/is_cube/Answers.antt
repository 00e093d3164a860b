-- `types::is_cube` meets its contract: the first faces are classed to themselves. Assumes nothing.
use mathlib.Core.Path.{sym, ◌∙◌, subst}
use native.Mathlib.Omega.{arith}
use lib.Dec.{T}
use Rattle.rules.specs.Types.{is_cube}
use Rattle.rules.proofs.ListLaws.{every_all}
use Rattle.types.proofs.Known.{placed, every_false}
use Rattle.types.proofs.is_cube.Goals as goal

pub returns-then-not-is_placed : goal.returns-then-not-is_placed
unfolding is_cube
returns-then-not-is_placed c = simp (← c.is_placed.ensures, c.if-not-is_placed.true)

pub invariant_of-vertices : goal.invariant_of-vertices
invariant_of-vertices c = record {
  whole = c.requires.0;
  placed = placed c.args.cube.now c.args.floats (subst T c.is_placed.ensures (subst T (sym c.if-not-is_placed.false) tt));
  centred = c.requires.1;
}

pub returns-then-not-is_classed : goal.returns-then-not-is_classed
unfolding is_cube
returns-then-not-is_classed c =
    rw (sym c.is_placed.ensures ∙ c.if-not-is_placed.false, every_false 6 _ c.loop-face.face c.loop-face-test.true (sym c.is_classed.ensures ∙ c.if-not-is_classed.true))

pub returns : goal.returns
unfolding is_cube
returns c = rw (sym c.is_placed.ensures ∙ c.if-not-is_placed.false, every_all 6 _ (λ f h. c.loop-face.invariant f (omega arith)))
