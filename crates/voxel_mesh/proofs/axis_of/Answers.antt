-- `voxel_mesh::axis_of` meets its contract, by one computed test. Assumes nothing.
use mathlib.Core.Path.{◌≡◌}
use mathlib.Core.Bool.{cond}
use Prim.Native.Nat.{ℕ, ◌<◌}
use lib.Dec.{eqb, ltb}
use lib.Ieee.Bits.{is_true}
use lib.ListN.{get_or}
use borrow.Author.Tests.{eqb-true, lt-ltb, le-ltb}
use Rattle.rules.specs.Lists.{every}
use Rattle.rules.specs.Cube.{axes}
use Rattle.rules.proofs.Searches.{every_at}
use Rattle.voxel_mesh.proofs.axis_of.Goals as goal

axis-is : (f : ℕ) → f < 6 → cond (ltb f 2) 1 (cond (ltb f 4) 0 2) ≡ get_or axes f 0
unfolding every axes
axis-is f h = eqb-true _ _ (is_true _ (every_at 6 (λ f. eqb (cond (ltb f 2) 1 (cond (ltb f 4) 0 2)) (get_or axes f 0)) tt f h))

pub returns-then-face-lt2 : goal.returns-then-face-lt2
returns-then-face-lt2 c = rw (lt-ltb _ _ c.if-face-lt2.true) at (axis-is c.args.face c.requires)

pub returns-then-face-lt4 : goal.returns-then-face-lt4
returns-then-face-lt4 c = rw (le-ltb _ _ c.if-face-lt2.false, lt-ltb _ _ c.if-face-lt4.true) at (axis-is c.args.face c.requires)

pub returns-else-face-lt4 : goal.returns-else-face-lt4
returns-else-face-lt4 c = rw (le-ltb _ _ c.if-face-lt2.false, le-ltb _ _ c.if-face-lt4.false) at (axis-is c.args.face c.requires)
