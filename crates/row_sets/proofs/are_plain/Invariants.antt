use mathlib.Core.Path.{◌≡◌}
use mathlib.Core.Bool.{true}
use Prim.Native.Nat.{ℕ, ◌+◌, ◌<◌}
use lib.ListN.{get_or}
use Rattle.row_sets.specs.Plainly.{Plain}
use Rattle.row_sets.proofs.are_plain.Given as goal

abbrev pub invariant-loop-code : goal.invariant-loop-code
invariant-loop-code l = l.plain ≡ true → (k : ℕ) → k < l.code-index → Plain l.look.clear l.look.full (get_or l.look.ground.grid.now (l.at + k) 0)
