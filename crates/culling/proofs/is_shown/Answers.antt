-- `culling::is_shown` meets its contract: each return is what the tests before it leave. Assumes nothing.
use mathlib.Core.Path.{◌≡◌, sym, ap, ◌∙◌}
use mathlib.Core.Bool.{not}
use mathlib.Core.List.{List}
use mathlib.Core.Option.{some}
use Prim.Native.Nat.{ℕ, ◌<◌}
use lib.ListN.{length, get_or}
use Rattle.rules.specs.Cells.{Size, cells, neighbour, has}
use Rattle.rules.proofs.Neighbours.{beside}
use Rattle.rules.proofs.ListLaws.{within}
use Rattle.culling.specs.Culling.{Whole}
use Rattle.culling.proofs.is_shown.Goals as goal

inside : (size : Size) (g : List ℕ) (types c f n : ℕ) → Whole size g types → c < cells size → some n ≡ neighbour size c f → n < length g
inside size g types c f n w h e = rw w.whole (beside _ w.within.sides.wide w.within.sides.long _ h f _ (sym e)).inside

pub bounds-ground-beside : goal.bounds-ground-beside
bounds-ground-beside c = inside _ _ _ _ _ _ c.args.ground.whole c.requires.0 c.in-Some.ensures

pub bounds-ground-from : goal.bounds-ground-from
bounds-ground-from c = rw c.from.ensures (c.args.ground.whole.typed _ (inside _ _ _ _ _ _ c.args.ground.whole c.requires.0 c.in-Some.ensures))

pub returns-in-Some : goal.returns-in-Some
returns-in-Some c =
    λ faces e. let code = within c.args.ground.grid.now c.in-Some.beside.0 0 255 (inside _ _ _ _ _ _ c.args.ground.whole c.requires.0 c.in-Some.ensures) in
    let facing = ap (has (get_or c.args.ground.covers.now c.from.result 0)) c.opposite-facing.ensures in
    rw (sym c.in-Some.ensures) (ap not (rw (c.from.ensures, code) at (c.has.ensures ∙ facing)))
