use mathlib.Core.Path.{◌≡◌}
use lib.ListN.{take}
use Rattle.culling.specs.Culling.{outer_set}
use Rattle.culling.proofs.outer_set.Given as goal

abbrev pub invariant-loop-face : goal.invariant-loop-face
invariant-loop-face l = l.set ≡ outer_set (take l.face-index l.outer)
