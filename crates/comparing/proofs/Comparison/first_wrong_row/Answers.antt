-- `comparing::Comparison::first_wrong_row` meets its contract. Assumes nothing.
use mathlib.Core.Path.{◌≡◌, refl, sym, ap, ◌∙◌}
use mathlib.Core.Bool.{not}
use mathlib.Core.List.{List}
use Prim.Native.Nat.{ℕ, ◌+◌, ◌-◌, ◌*◌}
use native.Mathlib.Omega.{arith}
use lib.ListN.{length, get_or, take, drop}
use borrow.Author.Count.{below_more}
use borrow.Author.Tests.{eqb-true, eqb-false, not-true, not-false}
use Rattle.rules.specs.Lists as Lists
use Rattle.rules.specs.Lists.{row}
use Rattle.rules.specs.Cube.{floats_of}
use Rattle.rules.specs.Types.{floats}
use Rattle.rules.specs.Mesh.{attribute_in}
use Rattle.rules.specs.Calls.{Scene}
use Rattle.rules.proofs.Searches.{found, passed, ended}
use Rattle.vav.specs.declared.Attribute as code
use Rattle.vav.specs.Attributes.{attribute_of}
use Rattle.quads.specs.Quads.{Has}
use Rattle.quads.specs.declared.Quad.{Quad}
use Rattle.quads.proofs.Writing.{length_row_of}
use Rattle.util.specs.Grid as grid
use Rattle.floats.specs.Triples.{triple_of}
use Rattle.quads.specs.Words.{words_of}
use Rattle.terms.specs.Scenes.{scene_of}
use Rattle.comparing.specs.Quads.{quad_words_at, other_row}
use Rattle.comparing.proofs.Compared.{Agreed, agreed_same, agreed_not, searched_from, lent_is, length_row_in}
use Rattle.comparing.proofs.Comparison.first_wrong_row.Invariants.{wanted}
use Rattle.comparing.proofs.Comparison.first_wrong_row.Goals as goal

pub quads-init : goal.quads-init
quads-init c =
    let s = c.args.self.now in
    (refl, searched_from c.args.to (other_row (scene_of s.scene) (attribute_of c.args.attribute) s.grid.now c.args.list.now s.lists.links.now) c.args.from c.requires.0 c.requires.4)

pub loop-float-preserved : goal.loop-float-preserved
loop-float-preserved c =
    let same = eqb-true _ _ (not-false _ (sym c.is_other_word.ensures ∙ c.if-is_other_word.false)) in (
      c.loop-float.invariant.0,
      λ k h. below_more _ ((attribute_of c.args.attribute).width * c.loop-vertex.vertex + c.loop-float.float) c.loop-float.invariant.1 same k (omega arith),
    )

-- the row that is lent is the list's, and the quad's words are the rule's
row-lent : (w n q : ℕ) (list : List ℕ) → n ≡ w → take (4 * n * q + 4 * n - 4 * n * q) (drop (4 * n * q) list) ≡ row (4 * w) list q
row-lent w n q list e = lent_is (4 * n * q) (4 * n) list ∙ ap (λ (k : ℕ). row (4 * k) list q) e

by_rule : (S : Scene) (g : List ℕ) (link : ℕ) (quad : Quad) (a : code.Attribute) → (quad.floats ≡ floats S.types) × (words_of quad ≡ quad_words_at S g link)
    → wanted quad a ≡ attribute_in (floats S.types) (attribute_of a) 4 (quad_words_at S g link)
by_rule S g link quad a e = λ i. attribute_in (e.0 i) (attribute_of a) 4 (e.1 i)

long : (quad : Quad) (a : code.Attribute) → Has quad.floats (attribute_of a) → length (wanted quad a) ≡ 4 * (attribute_of a).width
long q a has = length_row_of q.corners.now q.floats (triple_of q.d) 0 (grid.triple_of q.at) (attribute_of a) has

pub quads-preserved : goal.quads-preserved
quads-preserved c =
    let a = c.args in
    let s = a.self.now in
    let S = scene_of s.scene in
    let w = (attribute_of a.attribute).width in
    let quad = c.registered-quad.result in
    let e = c.registered-quad.ensures in
    let given = row-lent w _ c.quads.q a.list.now c.width-width.ensures in
    let v : c.loop-vertex.vertex ≡ 4 = omega (arith, c.loop-vertex.auto, c.loop-vertex-test.false) in
    let whole : w * c.loop-vertex.vertex ≡ w * 4 = ap (λ (v : ℕ). w * v) v in
    let has : Has quad.floats (attribute_of a.attribute) = rw e.0 c.requires.2 in
    let same : Agreed (row (4 * w) a.list.now c.quads.q) (wanted quad a.attribute) (4 * w) =
    λ k h. ap (λ (xs : List ℕ). get_or xs k 0) (sym given) ∙ c.loop-vertex.invariant.1 k (omega arith) in
    let is = agreed_same (row (4 * w) a.list.now c.quads.q) (wanted quad a.attribute) (4 * w)
    (length_row_in (4 * w) c.quads.q a.to a.list.now c.quads-test.true c.requires.3) (long quad a.attribute has) same in (
      c.loop-vertex.invariant.0,
      passed _ _ _ c.quads-test.true c.quads.invariant.1
          (ap not (ap (λ (ws : List ℕ). Lists.same (row (4 * w) a.list.now c.quads.q) ws) (sym (by_rule S s.grid.now _ quad a.attribute e)) ∙ is)),
    )

pub returns-after-quads : goal.returns-after-quads
returns-after-quads c =
    let e : c.args.to ≡ c.quads.q = omega (arith, c.quads.auto, c.quads-test.false, c.requires.0) in
    c.quads.invariant.0 ∙ e ∙ ended _ _ c.quads.q (omega arith) c.quads.invariant.1

pub returns-then-is_other_word : goal.returns-then-is_other_word
returns-then-is_other_word c =
    let a = c.args in
    let s = a.self.now in
    let S = scene_of s.scene in
    let w = (attribute_of a.attribute).width in
    let quad = c.registered-quad.result in
    let given = row-lent w _ c.quads.q a.list.now c.width-width.ensures in
    let at = w * c.loop-vertex.vertex + c.loop-float.float in
    let other = eqb-false _ _ (not-true _ (sym c.is_other_word.ensures ∙ c.if-is_other_word.true)) in
    let differs = agreed_not (row (4 * w) a.list.now c.quads.q) (wanted quad a.attribute) at (λ e. other (ap (λ (xs : List ℕ). get_or xs at 0) given ∙ e)) in
    found _ _ _ c.quads-test.true c.quads.invariant.1
    (ap not (ap (λ (ws : List ℕ). Lists.same (row (4 * w) a.list.now c.quads.q) ws) (sym (by_rule S s.grid.now _ quad a.attribute c.registered-quad.ensures)) ∙ differs))
