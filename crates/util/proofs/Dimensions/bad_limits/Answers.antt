use mathlib.Core.Path.{◌≡◌, sym, ap, ◌∙◌}
use mathlib.Core.Bool.{Bool, true, false, cond}
use lib.Dec.{ltb}
use Rattle.rules.specs.Cells.{cells}
use Rattle.util.specs.Grid.{size_of}
use Rattle.util.proofs.Limits.{sides_hold, sides, limits}
use Rattle.util.proofs.Dimensions.bad_limits.Goals as goal

pub cell_count-requires : goal.cell_count-requires
cell_count-requires c = sides (size_of c.before.before.before.before.args.self) (cc)

pub returns-then-is_side : goal.returns-then-is_side
returns-then-is_side c =
    let s = size_of c.before.before.before.before.before.args.self in
    let held : sides_hold s ≡ true = cc in
    ap (ltb 1048576) c.cell_count.ensures ∙ sym (limits s ∙ ap (λ (b : Bool). cond b (ltb 1048576 (cells s)) true) held)

pub returns-else-is_side : goal.returns-else-is_side
returns-else-is_side c =
    let s = size_of c.before.before.before.before.args.self in
    let failed : sides_hold s ≡ false = cc in
    sym (limits s ∙ ap (λ (b : Bool). cond b (ltb 1048576 (cells s)) true) failed)
