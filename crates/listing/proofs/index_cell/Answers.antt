-- `listing::index_cell` meets its contract: before each turn, the faces below the lowest that is left are entered. Assumes nothing.
use mathlib.Core.Path.{◌≡◌, refl, ap, ◌∙◌}
use Prim.Native.Nat.{ℕ, ◌+◌, ◌-◌, ◌*◌, ◌≤◌, ◌<◌}
use native.Mathlib.Omega.{arith}
use lib.Bits.{and_le_r}
use lib.Count.{count_trailing_zeros}
use lib.ListN.{length, set}
use Rattle.rules.specs.Cells.{key_of, link_word, first_vertex, rank}
use Rattle.face.specs.Face.{number}
use Rattle.listing.proofs.Listing.{begin, index_kept, index_below, index_room, index_place, index_next, end}
use Rattle.listing.proofs.index_cell.Goals as goal
use Rattle.listing.proofs.index_cell.Lts
use Rattle.listing.proofs.index_cell.Tie
use Rattle.listing.proofs.index_cell.Reads

abbrev In-loop-rest : Type 0
In-loop-rest = Lts.In-loop Tie.the-claims Reads.Pre Reads.Post goal.the-invariant-loop-rest goal.the-decreases-loop-rest

abbrev After-rank : Type 0
After-rank = Lts.After-rank Tie.the-claims Reads.Pre Reads.Post goal.the-invariant-loop-rest goal.the-decreases-loop-rest

abbrev After-slice_known-in-loop-rest-2-1 : Type 0
After-slice_known-in-loop-rest-2-1 = Lts.After-slice_known5 Tie.the-claims Reads.Pre Reads.Post goal.the-invariant-loop-rest goal.the-decreases-loop-rest

abbrev After-insert : Type 0
After-insert = Lts.After-insert Tie.the-claims Reads.Pre Reads.Post goal.the-invariant-loop-rest goal.the-decreases-loop-rest

-- the lowest face that is left
abbrev low : In-loop-rest → ℕ
low i = count_trailing_zeros 8 i.loop-rest.rest

below : (i : In-loop-rest) → low i < 6
below i = index_below _ _ _ _ _ _ _ _ i.requires.2 i.loop-rest.invariant i.loop-rest-test.true refl

abbrev turn : After-rank → In-loop-rest
turn c = c.before.before.before

found-low : (c : After-rank) → number c.face_at-face.result ≡ low (turn c)
found-low c = c.face_at-face.ensures ∙ c.lowest_side-f.ensures

-- its rank
ranked : (c : After-rank) → c.rank.result ≡ rank (turn c).args.set (low (turn c))
ranked c = c.rank.ensures ∙ ap (rank (turn c).args.set) (found-low c)

-- is the next place
placed : (c : After-rank) → (turn c).args.n + c.rank.result ≡ (turn c).loop-rest.next
placed c =
    let i = turn c in
    omega (arith, ranked c, index_place _ _ _ _ _ _ _ _ i.requires.2 i.loop-rest.invariant i.loop-rest-test.true refl)

within : (c : After-rank) →
    let a = (turn c).args in
    let l = (turn c).loop-rest in
    (a.n + c.rank.result < length l.sides) × (a.base + (a.n + c.rank.result) < length l.links) × (a.base + (a.n + c.rank.result) < 6291456)
    × (key_of a.cell.0 (low (turn c)) < length l.slots)
within c =
    let i = turn c in
    let s = i in
    let l = i.loop-rest in
    let k = index_kept _ _ _ _ _ _ _ _ s.requires.2 l.invariant in
    let r = index_room _ _ _ _ _ _ _ _ s.requires.2 l.invariant i.loop-rest-test.true refl in (
      omega (arith, ranked c, r, s.requires.4, l.invariant.are.kept),
      omega (arith, ranked c, r, s.requires.2, k.0),
      omega (arith, ranked c, r, s.requires.3),
      omega (arith, below i, s.requires.1, k.1),
    )

pub insert-requires : goal.insert-requires
insert-requires c =
    let r = c.before.before in
    let w = within r in
    (omega (arith, (turn r).requires.0), omega (arith, w.2), omega (arith, w.1), omega (arith, w.3, found-low r))

abbrev wrote : After-slice_known-in-loop-rest-2-1 → After-insert
wrote c = c.before.before.before.before

abbrev found : After-slice_known-in-loop-rest-2-1 → After-rank
found c = (wrote c).before.before.before

some : (i : In-loop-rest) → 1 ≤ i.loop-rest.rest
some i = let d = i.loop-rest-test.true in omega arith

pub loop-rest-smaller : goal.loop-rest-smaller
loop-rest-smaller c =
    let i = turn (found c.before) in
    let r = i.loop-rest.rest in
    let a = and_le_r r (r - 1) in
    let b = some i in
    omega arith

pub loop-rest-preserved : goal.loop-rest-preserved
loop-rest-preserved c =
    let r = found c.before in
    let i = turn r in
    let s = i in
    let l = i.loop-rest in
    let w = within r in
    let f = found-low r in
    let e = (wrote c.before).insert.ensures in
    index_next _ _ _ _ _ _ _ _ s.requires.2 l.invariant i.loop-rest-test.true refl (placed r) w.0 w.1
    (e.0 ∙ ap (λ (k : ℕ). set l.links (s.args.base + (s.args.n + r.rank.result)) (link_word s.args.cell.0 k)) f)
    (e.1 ∙ ap (λ (k : ℕ). set l.slots (key_of s.args.cell.0 k) (first_vertex (s.args.base + (s.args.n + r.rank.result)))) f)
    (ap (λ (k : ℕ). set l.sides (s.args.n + r.rank.result) (s.args.side + 1024 * k)) r.lowest_side-f.ensures)

pub loop-rest-init : goal.loop-rest-init
loop-rest-init c = rw c.from-rest.ensures (begin _ _ _ _ _ _ _ _ c.requires.5)

pub lowest_side-f-requires : goal.lowest_side-f-requires
lowest_side-f-requires c = (c.loop-rest.invariant.left.few, c.loop-rest-test.true)

pub face_at-face-requires : goal.face_at-face-requires
face_at-face-requires c = omega (arith, below c.before, c.lowest_side-f.ensures)

pub rank-requires : goal.rank-requires
rank-requires c = let s = c in (s.requires.5, s.requires.7)

pub overflow_add-at : goal.overflow_add-at
overflow_add-at c = omega (arith, (within c).2)

pub overflow_add-base : goal.overflow_add-base
overflow_add-base c = omega (arith, (within c.before.before).2)

pub overflow_cast-base : goal.overflow_cast-base
overflow_cast-base c = omega (arith, (within c.before.before).2)

pub overflow_mul-sides : goal.overflow_mul-sides
overflow_mul-sides c = omega (arith, below (turn (found c.before)))

pub overflow_add-sides : goal.overflow_add-sides
overflow_add-sides c = omega (arith, below (turn (found c.before)), c.requires.6)

pub offset_bounds-sides-at : goal.offset_bounds-sides-at
offset_bounds-sides-at c = omega (arith, (within (found c.before)).0)

pub bounds-sides-at : goal.bounds-sides-at
bounds-sides-at c = (within (found c.before)).0

pub overflow_add-next : goal.overflow_add-next
overflow_add-next c = omega (arith, (within (found c.before)).2)

pub overflow_sub-rest : goal.overflow_sub-rest
overflow_sub-rest c = some (turn (found c.before))

pub shape_of-links : goal.shape_of-links
shape_of-links c = (index_kept _ _ _ _ _ _ _ _ c.requires.2 c.loop-rest.invariant).0

pub shape_of-slots : goal.shape_of-slots
shape_of-slots c = (index_kept _ _ _ _ _ _ _ _ c.requires.2 c.loop-rest.invariant).1

pub shape_of-sides : goal.shape_of-sides
shape_of-sides c = c.loop-rest.invariant.are.kept

pub returns : goal.returns
returns c = end _ _ _ _ _ _ _ _ c.loop-rest-test.false c.loop-rest.invariant
