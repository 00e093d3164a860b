use Prim.Native.Nat.{◌*◌}
use lib.ListN.{length-replicate}
use Rattle.std.proofs.Common.{rules}
use Rattle.vav.specs.Rows.{zeros}
use Rattle.vav.proofs.Laws.{lent}
use Rattle.vav.proofs.clear.Goals as goal

pub returns : goal.returns
returns c = lent (c.args.n * c.args.q) c.args.n c.args.list.now _ (zeros c.args.n) (search rules) (length-replicate c.args.n 0)
