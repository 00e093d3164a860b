-- `quads::Quad::word` meets its contract: a position is moved, any other attribute is copied. Assumes nothing.
use mathlib.Core.Path.{◌≡◌, sym, ap, ◌∙◌}
use Prim.Native.Nat.{◌+◌, ◌*◌, ◌≤◌, ◌<◌}
use native.Mathlib.Omega.{arith}
use lib.ListN.{get_or}
use borrow.Author.Tests.{lt-ltb, le-ltb}
use Rattle.rules.specs.Types.{order, quad_word}
use Rattle.rules.specs.Mesh as rules
use Rattle.vav.specs.Attributes.{attribute_of}
use Rattle.vav.proofs.Attributes.{is_first, is_past}
use Rattle.quads.proofs.Writing.{order_below, low_along, finite_along}
use Rattle.quads.proofs.Quad.word.Goals as goal
use Rattle.quads.proofs.Quad.word.Goals.{Then-eq}

pub corner_word-word-requires : goal.corner_word-word-requires
corner_word-word-requires c = (rw c.corner_of-corner.ensures (order_below c.args.i c.requires.1), omega (arith, c.start.ensures, c.requires.0, c.requires.2))

-- ---- a position
module _ (c : Then-eq) where
  first : attribute_of c.args.attribute ≡ rules.position
  first = is_first c.args.attribute (sym c.eq.ensures ∙ c.if-eq.true)

  below : c.args.k < 3
  below = let w = ap (λ (a : rules.Attribute). a.width) first in omega (arith, c.requires.2)

  here : c.start.result + c.args.k ≡ c.args.k
  here = let z = ap (λ (a : rules.Attribute). a.start) first in omega (arith, c.start.ensures)

pub moved_word-requires : goal.moved_word-requires
moved_word-requires c =
    let q = c.args.self.is_drawable in
    let arm = c.before.before.before.before in (
      rw (c.corner_word-word.ensures, here arm) (q.placed _ _ (rw c.corner_of-corner.ensures (order_below c.args.i c.requires.1)) (below arm)),
      rw c.coordinate.ensures (low_along q c.args.k),
      rw c.along.ensures (finite_along q c.args.k),
    )

pub returns-then-eq : goal.returns-then-eq
unfolding quad_word
returns-then-eq c =
    let arm = c.before.before.before.before.before in
    let k : (attribute_of c.args.attribute).start + c.args.k ≡ c.args.k = omega (arith, c.start.ensures, here arm) in
    let z : 4 * 0 + get_or order c.args.i 0 ≡ get_or order c.args.i 0 = omega arith in
    rw (k, z)
    (simp (
      c.moved_word.ensures,
      c.along.ensures,
      c.coordinate.ensures,
      c.corner_word-word.ensures,
      c.corner_of-corner.ensures,
      here arm,
      lt-ltb _ _ (below arm),
    ))

-- ---- any other attribute
pub returns : goal.returns
unfolding quad_word
returns c =
    let past = is_past c.args.attribute (sym c.eq.ensures ∙ c.if-eq.false) in
    let far : 3 ≤ (attribute_of c.args.attribute).start + c.args.k = omega arith in
    let z : 4 * 0 + get_or order c.args.i 0 ≡ get_or order c.args.i 0 = omega arith in
    rw z (simp (c.corner_word-word.ensures, c.start.ensures, c.corner_of-corner.ensures, le-ltb _ _ far))
