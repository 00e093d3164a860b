-- `quads::Quad::write_normals` meets its contract: each turn gets a vertex's words right, and the next one's place is written over. Assumes nothing.
use mathlib.Core.Path.{◌≡◌, refl, sym, subst, ◌∙◌}
use Prim.Native.Nat.{ℕ, ◌+◌, ◌*◌, ◌≤◌, ◌<◌}
use native.Mathlib.Omega.{arith}
use lib.ListN.{length, get_or}
use Rattle.rules.specs.Lists.{part}
use Rattle.rules.specs.Types.{order}
use Rattle.rules.specs.Mesh.{normal}
use Rattle.util.specs.Grid as grid
use Rattle.floats.specs.Triples.{triple_of}
use Rattle.vav.specs.Rows.{four}
use Rattle.vav.proofs.Laws.{Begun, none_begun, begun_more, begun_all, four_at, part_at, length_part}
use Rattle.quads.specs.declared.Quad.{Quad}
use Rattle.quads.proofs.Writing.{order_below, corner_within, length_row_of, normal_word}
use Rattle.quads.proofs.Quad.write_normals.Invariants.{normals}
use Rattle.quads.proofs.Quad.write_normals.Goals as goal

module _ (q : Quad) where
  abbrev n : ℕ
  n = q.floats

  long : length (normals q) ≡ 12
  long = length_row_of q.corners.now n (triple_of q.d) 0 (grid.triple_of q.at) normal (omega (arith, q.is_drawable.words.least))

  -- three words of a corner and the next lie within the corners, and where they start is a number of the machine
  inside : (m v i : ℕ) → m ≡ n → v ≡ get_or order i 0 → i < 4 → (m * v + 3 + 4 ≤ length q.corners.now) × (m * v + 3 ≤ 48)
  inside m v i e f h =
      let words = q.is_drawable.words in
      let ends : m * v + m ≤ 4 * m = corner_within m v (rw f (order_below i h)) in
      (omega (arith, e, ends, words.least, words.whole), omega (arith, e, ends, words.most))

pub loop-i-init : goal.loop-i-init
loop-i-init c = none_begun _ _ (c.requires ∙ sym (long c.args.self))

pub overflow_mul-floats : goal.overflow_mul-floats
overflow_mul-floats c = omega (arith, inside c.args.self _ _ c.loop-i.i refl c.corner_of.ensures (omega arith))

pub overflow_add-floats : goal.overflow_add-floats
overflow_add-floats c = omega (arith, inside c.args.self _ _ c.loop-i.i refl c.corner_of.ensures (omega arith))

pub copy_four-requires : goal.copy_four-requires
copy_four-requires c =
    (omega (arith, c.loop-i.auto.out, c.requires), (inside c.args.self _ _ c.loop-i.i refl c.corner_of.ensures (omega arith)).0)

-- the words of a corner that are read are the normal of a vertex
right : (q : Quad) (m v i k : ℕ) → m ≡ q.floats → v ≡ get_or order i 0 → i < 4 → k < 3 → get_or q.corners.now (m * v + 3 + k) 0 ≡ get_or (normals q) (3 * i + k) 0
right q m v i k e f I K = rw (e, f) (sym (normal_word q.corners.now q.floats (triple_of q.d) (grid.triple_of q.at) i k q.is_drawable.words I K))

pub loop-i-preserved : goal.loop-i-preserved
loop-i-preserved c =
    let l = c.loop-i in
    let q = c.args.self in
    let from = c.args.self.floats * c.corner_of.result + 3 in
    let e : 3 * l.i + 3 ≡ 3 * (l.i + 1) = omega arith in
    subst (λ (j : ℕ). Begun (normals q) j c.copy_four.new.list) e
    (begun_more (normals q) (four q.corners.now from) l.invariant (omega (arith, long q, c.loop-i-test.true)) (omega arith)
    (λ k h. four_at q.corners.now from k (omega arith)
    ∙ right q _ _ l.i k refl c.corner_of.ensures (omega arith) h)
    c.copy_four.ensures)

pub select-requires : goal.select-requires
select-requires c =
    let z = (inside c.args.self _ _ 3 refl c.corner_of-2.ensures (omega arith)).0 in
    (omega (arith, c.loop-i.auto.out, c.requires), omega (arith, z))

pub returns : goal.returns
returns c =
    let l = c.loop-i in
    let q = c.args.self in
    let from = c.args.self.floats * c.corner_of-2.result + 3 in
    let e : 3 * l.i ≡ 9 = omega arith in
    let z = (inside q _ _ 3 refl c.corner_of-2.ensures (omega arith)).0 in
    let w = length_part from 3 q.corners.now (omega (arith, z)) in
    begun_all _ (omega (arith, long q))
    (begun_more _ (part from 3 q.corners.now) (subst (λ (j : ℕ). Begun (normals q) j l.out) e l.invariant) (omega (arith, long q, w)) (omega (arith, w))
    (λ k h. part_at from 3 q.corners.now k h ∙ right q _ _ 3 k refl c.corner_of-2.ensures (omega arith) h)
    c.select.ensures)
