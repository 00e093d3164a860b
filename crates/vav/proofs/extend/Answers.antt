use mathlib.Core.Path.{refl}
use Prim.Native.Nat.{◌*◌}
use lib.ListN.{length}
use Rattle.vav.proofs.Laws.{lent}
use Rattle.vav.proofs.extend.Goals as goal

pub returns : goal.returns
returns c =
    let row = c.args.row.now in lent (length row * c.args.count) (length row) c.args.list.now _ row c.copy_from_slice.ensures.after refl
