-- `checking::are_alike` meets its contract. Assumes nothing.
use mathlib.Core.Path.{◌≡◌, ap, ◌∙◌}
use Prim.Native.Nat.{ℕ, ◌+◌, ◌*◌}
use lib.ListN.{get_or}
use Rattle.checking.specs.Faces.{four_sets}
use Rattle.checking.proofs.Faces.{four_cells}
use borrow.Author.Tests.{eqb-true}
use native.Mathlib.Omega.{arith}
use Rattle.checking.proofs.are_alike.Goals as goal

pub returns : goal.returns
returns c = λ e.
    let sets = c.args.sets.now in
    let x = c.args.x in
    let same : get_or sets (x + 0) 0 ≡ get_or sets x 0 = ap (λ (k : ℕ). get_or sets k 0) (omega arith) in
    let drawn : four_sets (λ i. get_or sets (x + i) 0) ≡ c.from.result + 64 * c.from-2.result + 4096 * c.from-3.result + 262144 * c.from-4.result =
    omega (arith, c.from.ensures, c.from-2.ensures, c.from-3.ensures, c.from-4.ensures) in
    (omega arith, drawn ∙ eqb-true _ _ e ∙ c.filled_bits.ensures ∙ four_cells c.args.slots.now (c.args.first + x))
