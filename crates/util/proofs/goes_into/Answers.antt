-- `util::goes_into` meets its contract: the product, without its low half. Assumes nothing.
use mathlib.Core.Path.{ap, ◌∙◌}
use Prim.Native.Nat.{ℕ, ◌*◌, ◌/◌, ◌≤◌}
use native.Mathlib.Nat.{mul-le-mul_left}
use native.Mathlib.Omega.{arith}
use Rattle.util.proofs.Dividing.{goes}
use Rattle.util.proofs.goes_into.Goals as goal
use Rattle.util.proofs.goes_into.Goals.{After-from}

small : (c : After-from) → c.from.result * c.args.inverse ≤ c.from.result * 8589934592
small c = mul-le-mul_left c.from.result c.requires.1

pub overflow_mul-result : goal.overflow_mul-result
overflow_mul-result c = omega (arith, small c, c.requires.0, c.from.ensures)

pub overflow_cast-result : goal.overflow_cast-result
overflow_cast-result c = omega (arith, small c, c.requires.0, c.from.ensures)

pub returns : goal.returns
returns c = λ n low high e. rw (c.from.ensures) (ap (λ (m : ℕ). c.args.c * m / 4294967296) e ∙ goes n low high c.args.c c.requires.0)
