-- `types::is_not_a_cube` meets its contract. Assumes nothing.
use mathlib.Core.Path.{◌≡◌, ap, ◌∙◌}
use mathlib.Core.Bool.{not}
use Prim.Native.Nat.{ℕ, ◌+◌, ◌-◌, ◌*◌}
use lib.ListN.{take, drop}
use native.Mathlib.Omega.{arith}
use borrow.Author.Tests.{eq-eqb, ne_eqb}
use Rattle.rules.specs.Types.{is_cube}
use Rattle.rules.specs.Answers.{not_a_cube}
use Rattle.floats.specs.Triples.{triple_of}
use Rattle.types.proofs.is_not_a_cube.Goals as goal

pub returns-then-types-t-ne1 : goal.returns-then-types-t-ne1
unfolding not_a_cube
returns-then-types-t-ne1 c = simp (ne_eqb _ _ c.if-types-t-ne1.true)

pub returns : goal.returns
unfolding not_a_cube
returns c =
    let args = c.args in
    let cubes = args.types.cubes.now in
    let centre = triple_of args.centre in
    let floats = c.floats_of-floats.result in
    let span = 24 * floats in
    let e : span * args.t + span - span * args.t ≡ span = omega arith in
    rw (eq-eqb _ _ c.if-types-t-ne1.false)
    (ap not
    (c.is_cube.ensures ∙ ap (λ (n : ℕ). is_cube (take n (drop (span * args.t) cubes)) floats centre) e
    ∙ ap (λ (n : ℕ). is_cube (take (24 * n) (drop (24 * n * args.t) cubes)) n centre) c.floats_of-floats.ensures))
