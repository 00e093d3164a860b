-- `culling::drawn_set` meets its contract: the sides that show, of a NormalCube alone. Assumes nothing.
use Rattle.std.proofs.Common.{rules}
use mathlib.Core.Path.{refl, sym, ap, ◌∙◌}
use mathlib.Core.Bool.{Bool, ◌&&◌}
use mathlib.Core.List.{[]}
use Prim.Native.Nat.{ℕ}
use lib.Dec.{eqb}
use lib.ListN.{get_or}
use native.Mathlib.Omega.{arith}
use Rattle.rules.specs.Cells.{neighbour}
use Rattle.rules.specs.Mesh.{drawn}
use Rattle.util.specs.Grid.{size_of}
use Rattle.culling.specs.Culling.{world_of, shown_at}
use Rattle.rules.proofs.ListLaws.{within}
use Rattle.culling.proofs.Sides.{set_of_cong, shown_by, only_if}
use Rattle.culling.proofs.drawn_set.Goals as goal

pub returns : goal.returns
returns c =
    λ faces e. let ground = c.args.ground in
    let size = size_of ground.dims in
    let g = ground.grid.now in
    let side : ℕ → Bool = shown_at size ground.covers.now faces g c.args.cell.0 in
    let cube : ℕ → Bool = λ t. eqb (get_or ground.kinds.now t 0) 1 in
    let own = c.from.ensures ∙ within g c.args.cell.0 0 255 (omega arith) in
    let shown = c.side_set-shown.ensures side (λ face b post. search rules) in
    c.bit_if.ensures.0 ∙ rw (shown, only_if (cube c.from.result) side)
    (set_of_cong (λ f. cube c.from.result && side f) (drawn (world_of size ground.kinds.now ground.covers.now) faces g c.args.cell.0)
    (λ f l. rw (sym own) (ap (λ (b : Bool). cube c.from.result && b) (shown_by (world_of size [] ground.covers.now) (world_of size ground.kinds.now ground.covers.now) faces g f (neighbour size c.args.cell.0 f) refl))))
