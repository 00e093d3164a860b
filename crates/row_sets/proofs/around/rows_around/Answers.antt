-- `row_sets::around::rows_around` meets its contract. Assumes nothing.
use mathlib.Core.Path.{refl, subst}
use Prim.Native.Nat.{ℕ}
use Rattle.rules.specs.Cells.{Size, Triple, coordinates}
use Rattle.util.specs.Grid.{size_of, Starts}
use Rattle.util.proofs.Rows.{row_end}
use native.Mathlib.Omega.{arith}
use Rattle.row_sets.proofs.around.rows_around.Goals as goal

own : (s : Size) (c y z : ℕ) → Starts s c y z → Starts s c (coordinates s c).y (coordinates s c).z
own s c y z h = subst (λ (v : Triple). Starts s c v.y v.z) h.cords h

pub returns : goal.returns
returns c = (
  record {
    within = c.requires.0;
    starts = own _ _ _ _ c.requires.1;
    fits = row_end (size_of c.args.dims) c.requires.0 c.requires.1;
    up = c.row_beside-up.ensures refl;
    down = c.row_beside-down.ensures refl;
    back = c.row_beside-back.ensures refl;
    forward = c.row_beside-forward.ensures refl;
    sides = omega (arith, c.bit_if.ensures.0, c.bit_if-2.ensures.0, c.bit_if-3.ensures.0, c.bit_if-4.ensures.0);
  },
  refl,
)
