use Rattle.std.proofs.Common.{◌+◌, ◌*◌, get_or, arith}
use Rattle.rules.specs.Update.{ENTRY_BYTES, entry_at}
use Rattle.entries.proofs.Entries.{six}
use Rattle.entries.proofs.read_entry.Goals as goal

pub returns : goal.returns
unfolding entry_at
returns c =
    let log = c.args.log.now in
    let s = six (ENTRY_BYTES * c.args.k) log (omega arith) in
    let x = c.u32_at.ensures in
    let y = c.from.ensures in
    λ i. record { cell = x i; change = y i; type = get_or log (ENTRY_BYTES * c.args.k + 5) 0; given = s i; former = get_or log (ENTRY_BYTES * c.args.k + 12) 0 }
