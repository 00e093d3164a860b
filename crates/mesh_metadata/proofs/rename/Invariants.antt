use mathlib.Core.Path.{◌≡◌}
use mathlib.Core.List.{map}
use Rattle.mesh_metadata.specs.Index.{shifted}
use Rattle.mesh_metadata.proofs.rename.Given as goal

abbrev pub invariant-loop-i : goal.invariant-loop-i
invariant-loop-i l = l.slots ≡ map (shifted l.q l.from l.i) l.initial.slots
