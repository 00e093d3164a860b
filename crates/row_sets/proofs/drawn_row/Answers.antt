-- `row_sets::drawn_row` meets its contract. Assumes nothing.
use mathlib.Core.Path.{ap, ◌∙◌}
use Prim.Native.Nat.{ℕ, ◌+◌}
use Rattle.rules.specs.Cells.{set_of}
use Rattle.rules.specs.Mesh.{drawn}
use Rattle.util.specs.Grid.{size_of}
use Rattle.culling.specs.Culling.{world_of}
use Rattle.row_sets.proofs.Plain.{row_is_drawn}
use Rattle.row_sets.proofs.drawn_row.Goals as goal

pub returns-then-is_plain_row : goal.returns-then-is_plain_row
returns-then-is_plain_row c =
    λ faces e x h. let look = c.args.look in
    let ground = look.ground in
    let s = size_of ground.dims in
    let r = c.rows_around-around in
    c.plain_row.ensures x h
    ∙ row_is_drawn s r.result look.clear look.full look.outer ground.grid.now ground.kinds.now ground.covers.now r.ensures.0 ground.whole ground.both look.plain
    (c.is_plain_row.ensures c.if-is_plain_row.true) faces e x h
    ∙ ap (λ (n : ℕ). set_of (drawn (world_of s ground.kinds.now ground.covers.now) faces ground.grid.now (n + x))) r.ensures.1
