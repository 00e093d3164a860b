-- `steps::replay_steps` meets its contract: step after step, on the list of each attribute. Assumes nothing.
use mathlib.Core.Path.{◌≡◌, refl, sym, ap, ◌∙◌}
use mathlib.Core.List.{List, [], ◌∷◌, ◌++◌}
use Prim.Native.Nat.{ℕ, ◌+◌, ◌-◌, ◌*◌, ◌≤◌}
use native.Mathlib.Omega.{arith}
use lib.ListN.{get_or, take, drop}
use Rattle.rules.specs.Lists.{part}
use Rattle.rules.specs.Mesh.{Attribute, Vertices, vertices_of}
use Rattle.rules.specs.Calls.{Scene}
use Rattle.rules.proofs.Rows.{length_lent}
use Rattle.rules.proofs.Attributes.{each_list_lem, each_again, each_stays}
use Rattle.vav.proofs.Laws.{part_at, part_lent}
use Rattle.terms.specs.Scenes.{scene_of}
use Rattle.drawing.proofs.Lengths.{Alike, alike_long}
use Rattle.steps.specs.Steps.{Step, gone, came, step_in, step_at, Shelf, shelf, left, Can}
use Rattle.steps.specs.Rows.{run_of, Shelves, shelves, ran_all, Drawn, ReplayingAll}
use Rattle.steps.proofs.Turning.{Piecewise, start, this, turn, done}
use Rattle.steps.proofs.replay_steps.Invariants.{Ready}
use Rattle.steps.proofs.replay_steps.Goals as goal

-- what is asked of other steps, with quads that the room holds
other : {S : Scene} {vs : Vertices} {xs ys : List Step} {Q R : ℕ} (p : ReplayingAll S xs vs Q) → R ≤ p.room → Can (Drawn S) p.room ys R → ReplayingAll S ys vs R
other p h c = record { room = p.room; within = p.within; fits = p.fits; here = h; can = c }

-- how many quads are left does not depend on the list
left_is : (S : Scene) (e : Attribute) (xs : List Step) (v : Shelf) → (run_of S e xs v).quads ≡ left xs v.quads
left_is S e [] v = refl
left_is S e (gone q ∷ xs) v = left_is S e xs _
left_is S e (came k t ∷ xs) v = left_is S e xs _

one_list : (S : Scene) (e : Attribute) (a b : List Step) (v : Shelf) → run_of S e (a ++ b) v ≡ run_of S e b (run_of S e a v)
one_list S e [] b v = refl
one_list S e (gone q ∷ a) b v = one_list S e a b _
one_list S e (came k t ∷ a) b v = one_list S e a b _

left-more : (a b : List Step) (Q : ℕ) → left (a ++ b) Q ≡ left b (left a Q)
left-more [] b Q = refl
left-more (gone q ∷ a) b Q = left-more a b (Q - 1)
left-more (came k t ∷ a) b Q = left-more a b (Q + 1)

piecewise : (S : Scene) (vs : Vertices) → Piecewise (ran_all S) (Ready S vs)
piecewise S vs = record {
  joined = joined;
  front = λ a b v p. other p p.here (parts a b v.quads p.here p.can).0;
  rest = λ a b v p. let r = parts a b v.quads p.here p.can in other p r.1 r.2;
}
  where
    joined : (a b : List Step) (v : Shelves) → ran_all S (a ++ b) v ≡ ran_all S b (ran_all S a v)
    joined a b v =
        let tint = S.types.coloured in
        let Q = v.quads in
        let one : Attribute → List ℕ → List ℕ = λ e xs. (run_of S e a (shelf xs Q)).words in
        let two : Attribute → List ℕ → List ℕ = λ e xs. (run_of S e b (shelf xs (left a Q))).words in
        let lists = each_list_lem tint v.vertices (λ e xs. (run_of S e (a ++ b) (shelf xs Q)).words) (λ e xs. two e (one e xs))
        (λ e xs l. ap (λ (u : Shelf). u.words) (one_list S e a b (shelf xs Q)) ∙ ap (λ (n : ℕ). (run_of S e b (shelf (one e xs) n)).words) (left_is S e a (shelf xs Q)))
        ∙ sym (each_again tint v.vertices two one) in
        λ i. shelves (lists i) (left-more a b Q i)

    parts : {R : ℕ} (a b : List Step) (Q : ℕ) → Q ≤ R → Can (Drawn S) R (a ++ b) Q → Can (Drawn S) R a Q × (left a Q ≤ R) × Can (Drawn S) R b (left a Q)
    parts [] b Q h c = (tt, h, c)
    parts (gone q ∷ a) b Q h c = let r = parts a b (Q - 1) (omega arith) c.1 in ((c.0, r.0), r.1, r.2)
    parts (came k t ∷ a) b Q h c = let r = parts a b (Q + 1) (omega (arith, c.0)) c.2 in ((c.0, c.1, r.0), r.1, r.2)

idle : (S : Scene) (v : Shelves) → ran_all S [] v ≡ v
idle S v = ap (λ (vs : Vertices). shelves vs v.quads) (each_stays S.types.coloured v.vertices)

-- a step's two words, lent by themselves
lent-step : (i : ℕ) (xs : List ℕ) → step_at (take (2 * i + 2 - 2 * i) (drop (2 * i) xs)) 0 ≡ step_at xs i
lent-step i xs =
    let e : take (2 * i + 2 - 2 * i) (drop (2 * i) xs) ≡ part (2 * i) 2 xs = part_lent (2 * i) 2 xs in
    let z : 2 * i + 0 ≡ 2 * i = omega arith in
    let a : get_or (part (2 * i) 2 xs) 0 0 ≡ get_or xs (2 * i) 0 = part_at (2 * i) 2 xs 0 (omega arith) ∙ ap (λ (k : ℕ). get_or xs k 0) z in
    let b = part_at (2 * i) 2 xs 1 (omega arith) in
    ap (λ (ys : List ℕ). step_at ys 0) e ∙ (λ j. step_in (a j) (b j))

pub replay_one-left-requires : goal.replay_one-left-requires
replay_one-left-requires c =
    let a = c.args in
    let l = c.loop-i in
    let k = l.auto in
    let vs = vertices_of a.positions.now a.normals.now a.uvs.now a.colours.now in
    let alike : Alike (vertices_of l.positions l.normals l.uvs l.colours) vs =
    record { positions = k.positions; normals = k.normals; uvs = k.uvs; colours = k.colours } in
    let p = this l.invariant (piecewise (scene_of a.scene) vs) c.loop-i-test.true in
    let x = lent-step l.i a.steps.now in (
      omega (arith, length_lent (2 * l.i) 2 a.steps.now (omega (arith, c.loop-i-test.true))),
      rw x (record { room = p.room; within = p.within; fits = alike_long a.scene.types.coloured _ _ _ alike p.fits; here = p.here; can = p.can }),
      c.requires.1,
    )

pub loop-i-preserved : goal.loop-i-preserved
loop-i-preserved c =
    let a = c.args in
    let vs = vertices_of a.positions.now a.normals.now a.uvs.now a.colours.now in
    let x = lent-step c.loop-i.i a.steps.now in
    turn c.loop-i.invariant (piecewise (scene_of a.scene) vs) c.loop-i-test.true (rw x at c.replay_one-left.ensures)

pub returns : goal.returns
returns c = ap (λ (v : Shelves). v.vertices) (done c.loop-i.invariant (idle (scene_of c.args.scene)) c.loop-i-test.false)

pub loop-i-init : goal.loop-i-init
loop-i-init c = start c.requires.0
