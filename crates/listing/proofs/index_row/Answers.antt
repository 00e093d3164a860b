-- `listing::index_row` meets its contract: before cell x, the faces of the cells before it are entered. Assumes nothing.
use mathlib.Core.Path.{◌≡◌}
use native.Mathlib.Omega.{arith}
use lib.ListN.{length}
use Rattle.listing.proofs.Listing.{row_begin, row_kept, row_room, row_next, row_end}
use Rattle.listing.proofs.index_row.Goals as goal
use Rattle.listing.proofs.index_row.Lts
use Rattle.listing.proofs.index_row.Tie
use Rattle.listing.proofs.index_row.Reads

abbrev At-loop-x : Type 0
At-loop-x = Lts.At-loop Tie.the-claims Reads.Pre Reads.Post goal.the-invariant-loop-x goal.the-decreases-loop-x

abbrev Start : Type 0
Start = Lts.Start Tie.the-claims Reads.Pre Reads.Post goal.the-invariant-loop-x goal.the-decreases-loop-x

abbrev start : At-loop-x → Start
start l = l.before.before.before.before.before.before

kept : (l : At-loop-x) → let a = (start l).args in (length l.loop-x.links ≡ length a.links.now) × (length l.loop-x.slots ≡ length a.slots.now)
kept l = row_kept _ _ _ _ _ _ _ l.loop-x.invariant.1 l.loop-x.invariant.0 (start l).requires.0.links

pub index_cell-n-requires : goal.index_cell-n-requires
index_cell-n-requires c =
    let l = c.before.before.before.before.before.before.before.before in
    let s = start l in
    let p = s.requires.0 in
    let t = c.loop-x-test.true in
    let r = row_room _ _ _ _ _ _ _ l.loop-x.invariant.1 t in (
      omega (arith, t, p.cells),
      omega (arith, t, p.slots, (kept l).1),
      omega (arith, r.0, p.links, (kept l).0),
      omega (arith, r.0, p.few),
      omega (arith, r.1, p.sides, l.loop-x.invariant.1.are.kept),
      p.set _ t,
      c.side_at-side.ensures.1,
      s.requires.2,
    )

pub loop-x-preserved : goal.loop-x-preserved
loop-x-preserved c =
    let l = c.before.before.before.before.before.before.before.before.before.before.before.before.before.before.before in
    let e = c.index_cell-n.ensures in
    (omega (arith, c.loop-x-test.true), row_next _ _ _ _ _ _ _ l.loop-x.invariant.1 (omega (arith, (start l).requires.0.links)) c.side_at-side.ensures.0 e.0 e.1)

pub loop-x-init : goal.loop-x-init
loop-x-init c = (omega arith, row_begin _ _ _ _ _ _ _)

pub side_at-side-requires : goal.side_at-side-requires
side_at-side-requires c = omega (arith, c.loop-x-test.true, (start c.before.before.before).requires.0.width)

pub shape_of-links : goal.shape_of-links
shape_of-links c = (kept c.before.before).0

pub shape_of-slots : goal.shape_of-slots
shape_of-slots c = (kept c.before.before).1

pub shape_of-sides : goal.shape_of-sides
shape_of-sides c = c.loop-x.invariant.1.are.kept

pub returns : goal.returns
returns c = row_end _ _ _ _ _ _ _ c.loop-x.invariant.1 (omega arith)
