-- `checking::lowest_by_rows` meets its contract: before a row, no face of the rows before it is wrong. Assumes nothing.
use mathlib.Core.Path.{◌≡◌, ap, ◌∙◌}
use mathlib.Core.Bool.{Bool}
use mathlib.Core.List.{List}
use Prim.Native.Nat.{ℕ, ◌+◌, ◌*◌, ◌≤◌, ◌<◌}
use native.Mathlib.Omega.{arith}
use lib.ListN.{length, get_or, take}
use lib.Seq.{get_or-take, length-take-le}
use Rattle.rules.specs.Lists.{lowest}
use Rattle.rules.specs.Cells.{cells, coordinates, set_of}
use Rattle.rules.specs.Mesh.{drawn}
use Rattle.rules.proofs.Searches.{ended}
use Rattle.util.specs.Grid.{size_of, cords_of}
use Rattle.culling.specs.Culling.{world_of, RowShown}
use Rattle.culling.specs.declared.Ground.{Ground}
use Rattle.checking.specs.Faces.{wrong_in_row}
use Rattle.util.proofs.Rows.{row_end}
use Rattle.checking.proofs.Rows.{row_right, row_wrong}
use Rattle.checking.proofs.lowest_by_rows.Goals as goal

-- the row's end is in the grid
end_of : (told : Ground) (k y z n : ℕ) → n ≡ cells (size_of told.dims) → k < n → cords_of 0 y z ≡ coordinates (size_of told.dims) k
    → k + told.dims.width ≤ cells (size_of told.dims)
end_of told k y z n e h cords = row_end (size_of told.dims) told.whole.within (record { inside = omega arith; cords = cords })

-- what the search of a row says of the grid
in_grid : (told : Ground) (faces slots sets : List ℕ) (k r : ℕ) → told.dims.width ≤ length sets
    → RowShown (size_of told.dims) told.kinds.now told.covers.now faces told.grid.now k sets
    → ((sides : ℕ → ℕ → Bool) → ((x : ℕ) → x < length (take told.dims.width sets) → get_or (take told.dims.width sets) x 0 ≡ set_of (sides x))
    → r ≡ lowest (6 * length (take told.dims.width sets)) (wrong_in_row sides slots k))
    → r ≡ lowest (6 * told.dims.width) (wrong_in_row (λ x. drawn (world_of (size_of told.dims) told.kinds.now told.covers.now) faces told.grid.now (k + x)) slots k)
in_grid told faces slots sets k r long shown searched =
    let w = told.dims.width in
    let whole : length (take w sets) ≡ w = length-take-le w sets long in
    let sides : ℕ → ℕ → Bool = λ x. drawn (world_of (size_of told.dims) told.kinds.now told.covers.now) faces told.grid.now (k + x) in
    searched sides (λ x h. let b : x < w = omega arith in get_or-take w sets x 0 b ∙ shown x b)
    ∙ ap (λ (n : ℕ). lowest (6 * n) (wrong_in_row sides slots k)) whole

pub lowest_in_row-face-requires : goal.lowest_in_row-face-requires
lowest_in_row-face-requires c =
    let l = c.loop-row in
    let told = c.args.look.ground in
    let whole = length-take-le told.dims.width c.drawn_row.new.sets (omega (arith, c.drawn_row.auto.sets)) in
    let end = end_of told l.row.first l.row.y l.row.z _ l.invariant.0 c.loop-row-test.true l.invariant.4 in
    (omega (arith, whole, end), omega (arith, whole, end, told.whole.within.most))

pub returns-then-face-width : goal.returns-then-face-width
returns-then-face-width c =
    λ faces e. let l = c.loop-row in
    let told = c.args.look.ground in
    let end = end_of told l.row.first l.row.y l.row.z _ l.invariant.0 c.loop-row-test.true l.invariant.4 in
    row_wrong (world_of (size_of told.dims) told.kinds.now told.covers.now) faces told.grid.now c.args.slots.now (6 * cells (size_of told.dims)) l.row.first told.dims.width
    (omega (arith, end)) (l.invariant.3 faces e) c.lowest_in_row-face.result
    (in_grid told faces _ _ _ _ (omega (arith, c.drawn_row.auto.sets)) (c.drawn_row.ensures faces e) c.lowest_in_row-face.ensures) c.if-face-width.true

pub loop-row-preserved : goal.loop-row-preserved
loop-row-preserved c =
    let l = c.loop-row in
    let told = c.args.look.ground in
    let end = end_of told l.row.first l.row.y l.row.z _ l.invariant.0 c.loop-row-test.true l.invariant.4 in (
      l.invariant.0,
      omega (arith, c.next-row.ensures.0, end),
      c.drawn_row.auto.sets ∙ l.invariant.2,
      λ faces e. rw c.next-row.ensures.0
          (row_right (world_of (size_of told.dims) told.kinds.now told.covers.now) faces told.grid.now c.args.slots.now (6 * cells (size_of told.dims)) l.row.first told.dims.width
          (omega (arith, end)) (l.invariant.3 faces e) c.lowest_in_row-face.result
          (in_grid told faces _ _ _ _ (omega (arith, c.drawn_row.auto.sets)) (c.drawn_row.ensures faces e) c.lowest_in_row-face.ensures) c.if-face-width.false),
      c.next-row.ensures.1,
    )

pub returns : goal.returns
returns c =
    λ faces e. let l = c.loop-row in
    let all : 6 * c.cell_count-end.result ≡ 6 * l.row.first = omega (arith, l.invariant.1, c.loop-row-test.false) in
    all ∙ ended _ _ (6 * l.row.first) (omega (arith, l.invariant.0, l.invariant.1, c.loop-row-test.false)) (l.invariant.3 faces e)
