use Prim.Native.Nat.{◌+◌}
use Rattle.culling.proofs.Passing.{Passed}
use Rattle.row_sets.specs.Rows.{plain_in}
use Rattle.row_sets.proofs.Rows.block_of.Given as goal

abbrev pub invariant-loop-i : goal.invariant-loop-i
invariant-loop-i l = Passed (λ k. plain_in l.self.look l.self.around (l.x + k)) l.initial.block l.block l.i
