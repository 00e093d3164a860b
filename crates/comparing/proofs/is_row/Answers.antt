-- `comparing::is_row` meets its contract: each turn compares a vertex. Assumes nothing.
use mathlib.Core.Path.{◌≡◌, sym, ap, subst, ◌∙◌}
use mathlib.Core.Bool.{true≢false}
use Prim.Native.Nat.{ℕ, ◌+◌, ◌*◌}
use native.Mathlib.Omega.{arith}
use lib.ListN.{length, get_or}
use borrow.Author.Count.{below_more}
use borrow.Author.Tests.{eqb-true}
use Rattle.rules.specs.Cube.{floats_of}
use Rattle.rules.proofs.ListLaws.{and_true, not_true, not_false}
use Rattle.util.specs.Grid as grid
use Rattle.floats.specs.Triples.{triple_of}
use Rattle.vav.specs.declared.Attribute.{Attribute}
use Rattle.vav.specs.Attributes.{attribute_of}
use Rattle.vav.proofs.Laws.{Begun, none_begun, begun_on, begun_all}
use Rattle.quads.specs.Quads.{Has}
use Rattle.quads.specs.declared.Quad.{Quad}
use Rattle.quads.proofs.Writing.{length_row_of}
use Rattle.comparing.proofs.Compared.{row_next}
use Rattle.comparing.proofs.is_row.Invariants.{wanted}
use Rattle.comparing.proofs.is_row.Goals as goal

long : (q : Quad) (a : Attribute) → Has q.floats (attribute_of a) → length (wanted q a) ≡ 4 * (attribute_of a).width
long q a has = length_row_of q.corners.now q.floats (triple_of q.d) 0 (grid.triple_of q.at) (attribute_of a) has

pub loop-i-init : goal.loop-i-init
loop-i-init c =
    let a = c.args in
    let z : 0 ≡ (attribute_of a.attribute).width * 0 = omega arith in
    subst (λ (j : ℕ). Begun (wanted a.quad a.attribute) j a.row.now) z (none_begun _ _ (c.requires.1 ∙ sym (long a.quad a.attribute c.requires.0)))

pub loop-k-init : goal.loop-k-init
loop-k-init c = λ good j h. absurd (omega arith)

pub is_other_word-requires : goal.is_other_word-requires
is_other_word-requires c = (c.requires.0, c.loop-i-test.true, omega (arith, c.width-width.ensures, c.loop-k-test.true), c.requires.1)

pub loop-k-preserved : goal.loop-k-preserved
loop-k-preserved c = λ good.
    let a = c.args in
    let w = (attribute_of a.attribute).width in
    let both = and_true _ _ good in
    let here : get_or a.row.now (w * c.loop-i.i + c.loop-k.k) 0 ≡ get_or (wanted a.quad a.attribute) (w * c.loop-i.i + c.loop-k.k) 0 =
    eqb-true _ _ (not_true _ (sym c.is_other_word.ensures ∙ not_false _ both.1)) in
    below_more (λ (j : ℕ). get_or a.row.now (w * c.loop-i.i + j) 0 ≡ get_or (wanted a.quad a.attribute) (w * c.loop-i.i + j) 0) c.loop-k.k (c.loop-k.invariant both.0) here

pub loop-i-preserved : goal.loop-i-preserved
loop-i-preserved c =
    let a = c.args in
    let w = (attribute_of a.attribute).width in
    let k : c.loop-k.k ≡ w = omega (arith, c.width-width.ensures, c.loop-k.auto, c.loop-k-test.false) in
    let next : w * c.loop-i.i + c.loop-k.k ≡ w * (c.loop-i.i + 1) = omega (arith, row_next w c.loop-i.i) in
    subst (λ (j : ℕ). Begun (wanted a.quad a.attribute) j a.row.now) next (begun_on _ c.loop-i.invariant (c.loop-k.invariant c.if-not-good.false))

pub returns-then-not-good : goal.returns-then-not-good
returns-then-not-good = (λ c good. absurd (true≢false (sym good)))

pub returns : goal.returns
returns c good =
    let a = c.args in
    let w = (attribute_of a.attribute).width in
    let e : c.loop-i.i ≡ 4 = omega (arith, c.loop-i.auto, c.loop-i-test.false) in
    let past : w * c.loop-i.i ≡ w * 4 = ap (λ (k : ℕ). w * k) e in
    begun_all _ (omega (arith, long a.quad a.attribute c.requires.0)) c.loop-i.invariant
