use mathlib.Core.Path.{◌≡◌}
use Prim.Native.Nat.{ℕ}
use lib.ListN.{length}
use Rattle.face.proofs.Lowest.{Rest}
use Rattle.entries.specs.Log.{entry_in}
use Rattle.steps.proofs.Turning.{Turning}
use Rattle.works.specs.Sets.{deed_at}
use Rattle.indexing.specs.Index.{index_of, index_run, Ready}
use Rattle.indexing.proofs.index_work.Given as goal

abbrev pub invariant-loop-rest : goal.invariant-loop-rest
invariant-loop-rest l =
    (f : ℕ) × Turning index_run (Ready (length l.initial.steps)) 24 (deed_at l.keys (entry_in l.entry) l.sides) f (index_of l.initial.links l.initial.slots l.initial.steps l.initial.left) (index_of l.links l.slots l.steps l.left)
    × Rest 32 24 l.sides f l.rest × (length l.links ≡ length l.initial.links) × (length l.slots ≡ length l.initial.slots) × (length l.steps ≡ length l.initial.steps)

abbrev pub decreases-loop-rest : goal.decreases-loop-rest
decreases-loop-rest l = l.rest
