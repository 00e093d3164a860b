-- `checking::filled_set` meets its contract. Assumes nothing.
use Rattle.std.proofs.Common.{rules}
use mathlib.Core.Path.{◌≡◌, refl, ◌∙◌}
use mathlib.Core.Bool.{not}
use native.Mathlib.Omega.{arith}
use lib.Dec.{eqb}
use lib.ListN.{get_or}
use Rattle.rules.specs.Answers.{is_filled}
use Rattle.rules.specs.Cells.{key_of}
use Rattle.rules.specs.Mesh.{NONE}
use Rattle.face.specs.Face.{number}
use Rattle.face.proofs.Laws.{number_below}
use Rattle.checking.proofs.Faces.{slot_is}
use Rattle.checking.proofs.filled_set.Goals as goal

pub returns : goal.returns
returns c =
    let slots = c.args.slots.now in
    c.side_set.ensures (λ f. is_filled slots (key_of c.args.cell f))
    (λ face b post.
    let read : b ≡ not (eqb (get_or slots (key_of c.args.cell (number face)) 0) NONE) = search rules in
    read ∙ slot_is slots _ _ refl (omega (arith, number_below face)))
