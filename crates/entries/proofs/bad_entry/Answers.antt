use Rattle.std.proofs.Common.{◌+◌, ◌*◌, ◌||◌, ltb, leb, get_or}
use Rattle.rules.specs.Update.{ENTRY_BYTES}
use Rattle.rules.specs.Answers.{bad_former, bad_entry}
use Rattle.entries.proofs.bad_entry.Goals as goal

-- field by field
pub returns : goal.returns
unfolding bad_entry bad_former
returns c =
    let a = c.args in
    let at = ENTRY_BYTES * a.k in
    λ i. leb 16777216 a.k || leb a.cells (c.u32_at.ensures i) || ltb 3 (get_or a.log.now (at + 4) 0) || leb a.types (c.from.ensures i) || c.bad_bytes.ensures i
    || c.bad_former.ensures i || c.bad_spare.ensures i
