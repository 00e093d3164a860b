-- A grid of a known size meets what is asked of one. Assumes nothing.
use mathlib.Core.Path.{◌≡◌, sym, subst}
use mathlib.Core.Bool.{false}
use Prim.Native.Nat.{ℕ, ◌<◌}
use Rattle.rules.specs.Cells.{Size, cells}
use Rattle.rules.specs.Answers.{bad_limits}
use Rattle.util.specs.Grid.{Within}
use Rattle.util.proofs.Limits.{within}

pub grid : (cell : ℕ) {s t : Size} → s ≡ t → bad_limits t ≡ false → cell < cells t → Within s × (cell < cells s)
grid cell e fine h = subst (λ (s : Size). Within s × (cell < cells s)) (sym e) (within _ fine, h)
