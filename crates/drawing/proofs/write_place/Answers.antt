-- `drawing::write_place` meets its contract: the quad's stretch that was lent is back in its place. Assumes nothing.
use mathlib.Core.Path.{sym, ap, ◌∙◌}
use Prim.Native.Nat.{ℕ, ◌*◌}
use Rattle.rules.specs.Cube.{floats_of}
use Rattle.rules.specs.Mesh.{attribute_in}
use Rattle.util.specs.Grid as grid
use Rattle.floats.specs.Triples.{triple_of}
use Rattle.vav.specs.Attributes.{attribute_of}
use Rattle.vav.specs.Rows.{put}
use Rattle.vav.proofs.Laws.{lent}
use Rattle.quads.specs.Words.{words_of}
use Rattle.quads.proofs.Writing.{length_row_of}
use Rattle.drawing.proofs.write_place.Goals as goal

pub returns : goal.returns
returns c =
    let a = c.args in
    let q = a.quad in
    let w = c.width-words.result in
    let b = attribute_of a.attribute in
    let row = attribute_in q.floats b 4 (words_of q) in
    lent (4 * w * a.q) (4 * w) a.list.now c.write.new.out row c.write.ensures
    (length_row_of q.corners.now q.floats (triple_of q.d) 0 (grid.triple_of q.at) b c.requires.0 ∙ ap (λ (k : ℕ). 4 * k) (sym c.width-words.ensures))
    ∙ ap (λ (k : ℕ). put (4 * k * a.q) row a.list.now) c.width-words.ensures
