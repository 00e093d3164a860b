use Prim.Native.Nat.{◌-◌, ◌≤◌}
use Rattle.drawing.proofs.Patterns.{Patterned}
use Rattle.drawing.proofs.write_patterns.Given as goal

abbrev pub invariant-loop-q : goal.invariant-loop-q
invariant-loop-q l = (l.q - l.from ≤ l.to - l.from) × Patterned l.from l.q l.initial.triangles l.triangles
