-- `comparing::is_other_word` meets its contract. Assumes nothing.
use mathlib.Core.Path.{sym, ap, ◌∙◌}
use mathlib.Core.Bool.{not}
use Prim.Native.Nat.{ℕ, ◌+◌, ◌*◌}
use lib.Dec.{eqb}
use lib.ListN.{get_or}
use Rattle.rules.specs.Cube.{floats_of}
use Rattle.util.specs.Grid as grid
use Rattle.floats.specs.Triples.{triple_of}
use Rattle.vav.specs.Attributes.{attribute_of}
use Rattle.quads.proofs.Writing.{word_at}
use Rattle.comparing.proofs.is_other_word.Goals as goal

pub returns : goal.returns
returns c =
    let a = c.args in
    let q = a.quad in
    let l = ap (λ (n : ℕ). get_or a.row.now (n * a.i + a.k) 0) c.width.ensures in
    let r = c.word.ensures
    ∙ sym (word_at q.corners.now q.floats (triple_of q.d) 0 (grid.triple_of q.at) (attribute_of a.attribute) c.requires.0 a.i a.k c.requires.1 c.requires.2) in
    λ j. not (eqb (l j) (r j))
