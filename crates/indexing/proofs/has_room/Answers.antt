-- `indexing::has_room` meets its contract: of two sets of six sides twelve quads come at most. Assumes nothing.
use mathlib.Core.Path.{sym}
use Prim.Native.Nat.{ℕ, ◌+◌, ◌≤◌}
use native.Mathlib.Omega.{arith}
use borrow.Author.Tests.{le-leb}
use Rattle.rules.specs.Cells.{has, quads_of}
use Rattle.rules.proofs.Index.{count_le}
use Rattle.indexing.proofs.has_room.Goals as goal

few : (set : ℕ) → quads_of set ≤ 6
few set = count_le 6 (has set)

pub returns-then-count-room : goal.returns-then-count-room
returns-then-count-room c =
    let a = c.args in
    let far = c.if-count-room.true in
    sym (le-leb (a.count + quads_of a.due.shown + quads_of a.due.drawn) (a.room + quads_of a.due.own) (omega (arith, few a.due.shown, few a.due.drawn)))

-- each of the three sets is small
pub quads_of-gone-requires : goal.quads_of-gone-requires
quads_of-gone-requires c = let r = c.requires.0 in omega (arith, r 0, r 1, r 2)

pub quads_of-requires : goal.quads_of-requires
quads_of-requires c = let r = c.requires.0 in omega (arith, r 0, r 1, r 2)

pub quads_of-requires-2 : goal.quads_of-requires-2
quads_of-requires-2 c = let r = c.requires.0 in omega (arith, r 0, r 1, r 2)
