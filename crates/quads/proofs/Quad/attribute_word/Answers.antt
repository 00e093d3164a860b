-- `quads::Quad::attribute_word` meets its contract: word j is a float of a vertex. Assumes nothing.
use mathlib.Core.Path.{sym, ap, ◌∙◌}
use Prim.Native.Nat.{ℕ, ◌/◌, ◌%◌}
use lib.ListN.{get_or}
use Rattle.rules.specs.Mesh.{attribute_in}
use Rattle.util.specs.Grid as grid
use Rattle.floats.specs.Triples.{triple_of}
use Rattle.vav.specs.Attributes.{attribute_of}
use Rattle.quads.specs.Words.{words_of}
use Rattle.quads.proofs.Writing.{split_word, word_at}
use Rattle.quads.proofs.Quad.attribute_word.Goals as goal

pub returns : goal.returns
returns c =
    let q = c.args.self in
    let j = c.args.j in
    let n = q.floats in
    let b = attribute_of c.args.attribute in
    let s = split_word c.args.attribute j c.requires.1 in
    c.word.ensures
    ∙ rw c.width-width.ensures
    (sym (word_at q.corners.now n (triple_of q.d) 0 (grid.triple_of q.at) b c.requires.0 (j / b.width) (j % b.width) s.vertex s.float)
    ∙ ap (λ (j : ℕ). get_or (attribute_in n b 4 (words_of q)) j 0) s.whole)
