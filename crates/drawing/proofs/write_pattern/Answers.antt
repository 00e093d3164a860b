-- `drawing::write_pattern` meets its contract. Assumes nothing.
use Prim.Native.Nat.{◌+◌, ◌*◌}
use native.Mathlib.Omega.{arith}
use Rattle.drawing.proofs.Turns.{six_stored}
use Rattle.drawing.proofs.write_pattern.Goals as goal

pub returns : goal.returns
returns c =
    let q = c.args.q in
    six_stored (6 * q) (4 * q) (4 * q + 1) (4 * q + 2) (4 * q + 3) (4 * q + 2) (4 * q + 1) c.args.triangles.now (omega (arith, c.requires.0))
