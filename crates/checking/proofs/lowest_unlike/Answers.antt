-- `checking::lowest_unlike` meets its contract. Assumes nothing.
use mathlib.Core.Path.{◌≡◌, sym, ap, ◌∙◌}
use mathlib.Core.Bool.{not}
use Prim.Native.Nat.{◌/◌, ◌%◌, ◌^◌}
use lib.Dec.{eqb}
use borrow.Author.Tests.{eq-eqb, ne_eqb}
use Rattle.rules.specs.Cells.{has}
use Rattle.rules.specs.Answers.{unlike}
use Rattle.checking.proofs.Faces.{unlike_bits}
use Rattle.rules.proofs.Searches.{searched, found, passed, ended}
use native.Mathlib.Omega.{arith}
use Rattle.checking.proofs.lowest_unlike.Goals as goal
use Rattle.checking.proofs.lowest_unlike.Goals.{In-loop-face}

bits : (c : In-loop-face) →
    let a = c.args.a in let b = c.args.b in let f = c.loop-face.face in
    unlike (has a f) (has b f) ≡ not (eqb (a / 2 ^ f % 2) (b / 2 ^ f % 2))
bits c =
    let a = c.args.a in
    let b = c.args.b in
    let f = c.loop-face.face in
    sym (unlike_bits (a / 2 ^ f % 2) (b / 2 ^ f % 2) (omega arith) (omega arith))

pub loop-face-init : goal.loop-face-init
loop-face-init c = searched _ _

pub returns-then-a-face : goal.returns-then-a-face
returns-then-a-face c = found _ _ _ c.loop-face-test.true c.loop-face.invariant (bits c.before ∙ ap not (ne_eqb _ _ c.if-a-face.true))

pub loop-face-preserved : goal.loop-face-preserved
loop-face-preserved c = passed _ _ _ c.loop-face-test.true c.loop-face.invariant (bits c.before ∙ ap not (eq-eqb _ _ c.if-a-face.false))

pub returns : goal.returns
returns c = let e : c.loop-face.face ≡ 6 = omega arith in sym e ∙ ended _ _ _ c.loop-face-test.false c.loop-face.invariant
