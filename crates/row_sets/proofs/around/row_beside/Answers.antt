-- `row_sets::around::row_beside` meets its contract. Assumes nothing.
use mathlib.Core.Path.{sym}
use Rattle.util.specs.Grid.{size_of}
use Rattle.face.proofs.Laws.{number_below}
use Rattle.row_sets.proofs.Plain.{beside_some, beside_none}
use Rattle.row_sets.proofs.around.row_beside.Goals as goal

pub returns-in-Some : goal.returns-in-Some
returns-in-Some c = λ t. beside_some (size_of c.args.dims) c.requires.0 c.requires.1 _ _ (number_below c.args.face) t (sym c.in-Some.ensures)

pub returns-in-None : goal.returns-in-None
returns-in-None c = λ t. beside_none (size_of c.args.dims) c.requires.0 c.requires.1 _ (number_below c.args.face) t (sym c.in-None.ensures)
