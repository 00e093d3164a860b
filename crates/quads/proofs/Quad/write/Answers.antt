-- `quads::Quad::write` meets its contract: normals by themselves, any other attribute four words at a time. Assumes nothing.
use mathlib.Core.Path.{◌≡◌, sym, subst, ◌∙◌}
use Prim.Native.Nat.{ℕ, ◌+◌, ◌*◌}
use native.Mathlib.Omega.{arith}
use mathlib.Core.List.{List}
use lib.ListN.{length}
use Rattle.rules.specs.Mesh.{normal, attribute_in}
use Rattle.util.specs.Grid as grid
use Rattle.floats.specs.Triples.{triple_of}
use Rattle.vav.specs.Attributes.{attribute_of}
use Rattle.vav.specs.Rows.{four}
use Rattle.vav.proofs.Attributes.{is_normal}
use Rattle.vav.proofs.Laws.{Begun, none_begun, begun_more, begun_all, four_at}
use Rattle.quads.specs.Words.{words_of}
use Rattle.quads.proofs.Writing.{length_row_of}
use Rattle.vav.specs.declared.Attribute.{Attribute}
use Rattle.quads.specs.Quads.{Has}
use Rattle.quads.specs.declared.Quad.{Quad}
use Rattle.quads.proofs.Quad.write.Goals as goal
use Rattle.quads.proofs.Quad.write.Goals.{Then-eq}

is-it : (c : Then-eq) → attribute_of c.args.attribute ≡ normal
is-it c = is_normal c.args.attribute (sym c.eq.ensures ∙ c.if-eq.true)

abbrev whole : Quad → Attribute → List ℕ
whole q a = attribute_in q.floats (attribute_of a) 4 (words_of q)

long : (q : Quad) (a : Attribute) → Has q.floats (attribute_of a) → length (whole q a) ≡ 4 * (attribute_of a).width
long q a has = length_row_of q.corners.now q.floats (triple_of q.d) 0 (grid.triple_of q.at) (attribute_of a) has

pub loop-g-init : goal.loop-g-init
loop-g-init c = none_begun _ _ (c.requires.1 ∙ sym (long c.args.self c.args.attribute c.requires.0))

pub loop-g-preserved : goal.loop-g-preserved
loop-g-preserved c =
    let l = c.loop-g in
    let a = c.args in
    let e : 4 * l.g + 4 ≡ 4 * (l.g + 1) = omega arith in
    subst (λ (j : ℕ). Begun (whole a.self a.attribute) j c.write_words.new.out) e
    (begun_more (whole a.self a.attribute) (four (whole a.self a.attribute) (4 * l.g)) l.invariant
    (omega (arith, long a.self a.attribute c.requires.0, c.width-g-end.ensures, c.loop-g-test.true)) (omega arith) (four_at (whole a.self a.attribute) (4 * l.g)) c.write_words.ensures)

pub returns : goal.returns
returns c = begun_all _ (omega (arith, long c.args.self c.args.attribute c.requires.0, c.width-g-end.ensures, c.loop-g-test.false)) c.loop-g.invariant
