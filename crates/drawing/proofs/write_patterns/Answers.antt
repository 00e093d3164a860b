-- `drawing::write_patterns` meets its contract: place after place. Assumes nothing.
use native.Mathlib.Omega.{arith}
use Rattle.drawing.proofs.Patterns.{start, next, stop}
use Rattle.drawing.proofs.write_patterns.Goals as goal

pub loop-q-init : goal.loop-q-init
loop-q-init c = (omega arith, start _ _)

pub loop-q-preserved : goal.loop-q-preserved
loop-q-preserved c = (omega (arith, c.loop-q-test.true), next c.loop-q-test.true c.requires.0 c.loop-q.invariant.1 c.write_pattern.ensures)

pub returns : goal.returns
returns c = stop _ (omega (arith, c.loop-q.invariant.0, c.loop-q-test.false)) c.loop-q.invariant.1
