-- `indexing::remove_quad` meets its contract: each list by the leaf that mends it. Assumes nothing.
use mathlib.Core.Path.{refl, ap}
use Prim.Native.Nat.{ℕ, ◌+◌}
use Rattle.steps.specs.Steps.{CUT}
use Rattle.indexing.specs.Index.{gone_at}
use Rattle.indexing.proofs.Doing.{same_index, steps_more}
use Rattle.indexing.proofs.remove_quad.Goals as goal

pub returns : goal.returns
unfolding gone_at
returns c =
    let a = c.args in
    same_index c.free_row.ensures c.renumber.ensures refl (ap (λ (v : ℕ). a.tally.moved + v) c.moved_by.ensures) refl
    (steps_more a.tally.steps a.quad.0 CUT a.steps.now c.requires.1)
