-- `listing::count_quads` meets its contract: before a row, the quads of the rows before it are counted. Assumes nothing.
use mathlib.Core.Path.{◌≡◌, refl, ◌∙◌}
use Prim.Native.Nat.{ℕ, ◌+◌, ◌≤◌, ◌<◌}
use native.Mathlib.Omega.{arith}
use mathlib.Core.List.{List}
use lib.ListN.{length, take}
use lib.Seq.{get_or-take, length-take-le}
use Rattle.util.specs.Grid.{Starts, size_of}
use Rattle.culling.specs.Culling.{world_of}
use Rattle.listing.specs.Fresh.{RowOf, sets_from, set_at, faces_of, asked}
use Rattle.listing.proofs.Sets.{set_below}
use Rattle.util.proofs.Rows.{first, row_end}
use Rattle.listing.proofs.Rows.{asked_few, asked_row, asked_on}
use Rattle.listing.proofs.count_quads.Goals as goal

-- as many as the row's cells ask for
counted : (sets : ℕ → ℕ) (first w n : ℕ) (list : List ℕ) → w ≤ length list → RowOf sets first w list
    → n ≡ asked (sets_from 0 (take w list)) 0 (length (take w list)) → n ≡ asked sets first w
counted sets first w n list long r e = e ∙ asked_row sets first w list long r

pub loop-row-init : goal.loop-row-init
unfolding asked
loop-row-init c = (c.cell_count-end.ensures, omega arith, refl, refl, first (size_of c.args.look.ground.dims))

pub quads_in-requires : goal.quads_in-requires
quads_in-requires c =
    let look = c.args.look in
    let ground = look.ground in
    let w = ground.dims.width in
    let list = c.side_row.new.sets in
    let l = length-take-le w list (omega (arith, c.side_row.auto.sets, c.loop-row.invariant.2, c.requires)) in (
      omega (arith, ground.whole.within.sides.widest),
      λ x h. let k : x < w = omega arith in
          rw (get_or-take w list x 0 k, c.side_row.ensures x k)
          (set_below c.args.culling (world_of (size_of ground.dims) ground.kinds.now ground.covers.now) (faces_of look.outer) ground.grid.now (c.loop-row.row.first + x)),
    )

pub overflow_add-n : goal.overflow_add-n
overflow_add-n c =
    let ground = c.args.look.ground in
    let l = c.loop-row in
    let all = set_at c.args.culling (world_of (size_of ground.dims) ground.kinds.now ground.covers.now) (faces_of c.args.look.outer) ground.grid.now in
    let more = counted all l.row.first ground.dims.width _ _ (omega (arith, c.side_row.auto.sets, l.invariant.2, c.requires)) c.side_row.ensures c.quads_in.ensures in
    omega (arith, l.invariant.3, more, asked_few all l.row.first 0, asked_few all ground.dims.width l.row.first, ground.whole.within.most, ground.whole.within.sides.widest, l.invariant.0, l.invariant.1)

pub loop-row-preserved : goal.loop-row-preserved
loop-row-preserved c =
    let ground = c.args.look.ground in
    let size = size_of ground.dims in
    let l = c.loop-row in
    let all = set_at c.args.culling (world_of size ground.kinds.now ground.covers.now) (faces_of c.args.look.outer) ground.grid.now in
    let more = counted all l.row.first ground.dims.width _ _ (omega (arith, c.side_row.auto.sets, l.invariant.2, c.requires)) c.side_row.ensures c.quads_in.ensures in
    let here : Starts size l.row.first l.row.y l.row.z = record { inside = omega (arith, l.invariant.0, c.loop-row-test.true); cords = l.invariant.4 } in (
      l.invariant.0,
      omega (arith, c.next-row.ensures.0, row_end size ground.whole.within here, l.invariant.0),
      c.side_row.auto.sets ∙ l.invariant.2,
      rw c.next-row.ensures.0 (omega (arith, l.invariant.3, more, asked_on all l.row.first ground.dims.width)),
      c.next-row.ensures.1,
    )
