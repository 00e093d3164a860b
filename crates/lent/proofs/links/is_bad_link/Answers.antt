-- `lent::links::is_bad_link` meets its contract. Assumes nothing.
use Rattle.std.proofs.Common.{◌≡◌, ℕ, ◌*◌, ◌<◌, not, ◌||◌, eqb, length, get_or, true, false, ltb, leb, ap, ◌∙◌, arith, ltb-false, leb-false}
use Rattle.rules.specs.Cells.{code_in, cell_in}
use Rattle.rules.specs.Mesh.{NONE}
use Rattle.rules.specs.Answers.{bad_link}
use Rattle.rules.proofs.ListLaws.{or_false, within}
use Rattle.lent.proofs.links.is_bad_link.Goals as goal

pub returns-then-code_of-cells : goal.returns-then-code_of-cells
unfolding bad_link
returns-then-code_of-cells c =
    let word = get_or c.args.links.now c.args.q 0 in
    let bad : (ltb 5 (code_in word) || leb c.args.cells (cell_in word)) ≡ true = rw (c.code_of.ensures, c.cell_of.ensures) at c.if-code_of-cells.true in
    rw bad

pub returns : goal.returns
unfolding bad_link
returns c =
    let slots = c.args.slots.now in
    let word = get_or c.args.links.now c.args.q 0 in
    let cells = c.args.cells in
    let both : (ltb 5 (code_in word) ≡ false) × (leb cells (cell_in word) ≡ false) =
    or_false _ _ (rw (c.code_of.ensures, c.cell_of.ensures) at c.if-code_of-cells.false) in
    let lies : c.key_of.result < length slots = omega (arith, c.key_of.ensures, ltb-false 5 (code_in word) both.0, leb-false cells (cell_in word) both.1) in
    rw (both.0, both.1)
    (ap (λ (n : ℕ). not (eqb n (4 * c.args.q))) (within slots c.key_of.result 0 NONE lies ∙ ap (λ (k : ℕ). get_or slots k NONE) c.key_of.ensures))
