-- Deeds done on the index of a mesh, one after the other. Assumes nothing.
use mathlib.Core.Path.{◌≡◌, refl, sym, ap, ◌∙◌, subst}
use mathlib.Core.Logic.{⊎_elim}
use mathlib.Core.Bool.{true, false, not}
use mathlib.Core.List.{List, [], ◌∷◌, ◌++◌}
use mathlib.Core.Option.{none, some}
use Prim.Native.Nat.{ℕ, ◌+◌, ◌*◌, ◌/◌, ◌≤◌, ◌<◌, max}
use native.Mathlib.Omega.{arith}
use lib.Dec.{eqb}
use lib.ListN.{length, get_or, set, length-append, length-set}
use lib.Seq.{get_or-set_same, get_or-set_other}
use borrow.Author.Tests.{lt-ltb}
use Rattle.std.specs.Prelude as std
use Rattle.rules.specs.Lists.{each}
use Rattle.rules.specs.Cells.{key_in, only_if}
use Rattle.rules.specs.Mesh.{Quad, NONE, slot_of}
use Rattle.rules.specs.Update.{Op, step, moved_in, highest}
use Rattle.rules.proofs.Acting.{Acts}
use Rattle.rules.proofs.ListLaws.{All, within, split, length-table, each_same, each_split}
use Rattle.rules.proofs.Quads.{placed, moved_le}
use Rattle.rules.proofs.Laying.{length-links}
use Rattle.rules.proofs.Courses.{Good, sane_one, highest_ge}
use Rattle.face.specs.declared.Vertex.{Vertex}
use Rattle.mesh_metadata.specs.Index.{Linked, vertex_in, vertex_of}
use Rattle.mesh_metadata.proofs.Layouts as layouts
use Rattle.steps.specs.Steps.{Step, came, CUT, step_in, step_at, steps_in, Deed, show, hide, quad_by, op_of, ops_of, step_of}
use Rattle.steps.proofs.Turning.{Piecewise}
use Rattle.indexing.specs.declared.Tally.{Tally}
use Rattle.indexing.specs.Index.{Index, index_of, slot_in, came_at, index_one, index_run, book_of, Ready, Removable, Drawable}
use Rattle.indexing.proofs.Booking.{there_inside, slot_place, one_booked}

pub same_index : {l l' s s' : List ℕ} {q q' v v' h h' : ℕ} {x x' : List Step} → l ≡ l' → s ≡ s' → q ≡ q' → v ≡ v' → h ≡ h' → x ≡ x'
    → ◌≡◌ {A = Index} (record { links = l; slots = s; quads = q; moved = v; top = h; steps = x }) (record { links = l'; slots = s'; quads = q'; moved = v'; top = h'; steps = x' })
same_index l s q v h x = λ i. record { links = l i; slots = s i; quads = q i; moved = v i; top = h i; steps = x i }

-- ---- a step more in the list of steps
pub steps_more : (n a b : ℕ) (xs : List ℕ) → 2 * n + 2 ≤ length xs
    → steps_in (n + 1) (set (set xs (2 * n) a) (2 * n + 1) b) ≡ steps_in n xs ++ (step_in a b ∷ [])
unfolding each
steps_more n a b xs h =
    let ys = set (set xs (2 * n) a) (2 * n + 1) b in
    let l : length (set xs (2 * n) a) ≡ length xs = simp length-set in
    let z : 0 + n ≡ n = omega arith in
    let p : get_or ys (2 * n) 0 ≡ a = get_or-set_other (set xs (2 * n) a) (2 * n + 1) (2 * n) b 0 (λ e. omega arith) ∙ get_or-set_same xs (2 * n) a 0 (omega arith) in
    let q : get_or ys (2 * n + 1) 0 ≡ b = get_or-set_same (set xs (2 * n) a) (2 * n + 1) b 0 (omega arith) in
    let w : step_at ys n ≡ step_in a b = (λ i. step_in (p i) (q i)) in
    each_split n 1 0 (λ k. step_at ys k ∷ [])
    ∙ ap (λ (k : ℕ). steps_in n ys ++ (step_at ys k ∷ [])) z
    ∙ (λ i. each_same n 0 (λ k. step_at ys k ∷ []) (λ k. step_at xs k ∷ []) (λ k _ m. ap (λ (x : Step). x ∷ []) (same k (omega arith))) i ++ (w i ∷ []))
  where
    word : (j : ℕ) → j < 2 * n → get_or (set (set xs (2 * n) a) (2 * n + 1) b) j 0 ≡ get_or xs j 0
    word j m = get_or-set_other (set xs (2 * n) a) (2 * n + 1) j b 0 (λ e. omega arith) ∙ get_or-set_other xs (2 * n) j a 0 (λ e. omega arith)

    same : (k : ℕ) → k < n → step_at (set (set xs (2 * n) a) (2 * n + 1) b) k ≡ step_at xs k
    same k m = let p = word (2 * k) (omega arith) in let q = word (2 * k + 1) (omega arith) in λ i. step_in (p i) (q i)

pub came_in : (k t : ℕ) → t < CUT → step_in k t ≡ came k t
came_in k t h = rw (lt-ltb t CUT h)

-- ---- what is known of the index of a mesh
module _ {space : ℕ} {ds : List Deed} {B : Index} (r : Ready space ds B) where
  quads_are : B.quads ≡ length r.mesh
  quads_are = ap (λ (I : Index). I.quads) r.is

  long_links : length B.links ≡ length r.ground.old
  long_links =
      let a = r.sane.within in
      let b = r.ground.long in
      let c = r.ground.small in
      ap (λ (I : Index). length I.links) r.is
      ∙ length-links r.ground.faces r.ground.span r.top r.mesh r.ground.old r.sane.fits r.sane.reached (omega arith)

  long_slots : length B.slots ≡ r.ground.faces
  long_slots = ap (λ (I : Index). length I.slots) r.is ∙ length-table (slot_of r.mesh) r.ground.faces

  linked : Linked B.quads B.links B.slots
  linked =
      let b = r.sane.within in
      let c = r.ground.long in
      subst (λ (I : Index). Linked I.quads I.links I.slots) (sym r.is)
      (layouts.linked r.ground.faces r.ground.span r.top r.mesh r.ground.old r.sane.fits r.ground.small r.sane.once r.sane.reached (omega arith))

pub space_left : {space : ℕ} {d : Deed} {ds : List Deed} {links slots : List ℕ} (xs : List ℕ) (t : Tally) → Ready space (d ∷ ds) (index_of links slots xs t) → 2 * t.steps + 2 ≤ space
space_left xs t r = let n = length-table (step_at xs) t.steps in let s = r.steps in omega arith

-- ---- a deed, by what the slot tells
pub bare_told : (o : std.Option Vertex) (w : ℕ) → vertex_in o ≡ vertex_of w → not (std.is_some o) ≡ eqb w NONE
bare_told std.None w = split (λ b. none ≡ only_if (not b) w → true ≡ b) (eqb w NONE) (λ t r. refl) (λ t r. absurd (let z : ◌≡◌ {A = ℕ} 0 1 = cc in omega arith))
bare_told (std.Some v) w = split (λ b. some v.0 ≡ only_if (not b) w → false ≡ b) (eqb w NONE) (λ t r. absurd (let z : ◌≡◌ {A = ℕ} 0 1 = cc in omega arith)) (λ t r. refl)

pub slotted : {space k : ℕ} {ds : List Deed} {B : Index} → Ready space (hide k ∷ ds) B → k < length B.slots
slotted {k = k} r = let b = there_inside r.ground r.mesh r.top r.sane k r.acts.0 in let z = long_slots r in omega arith

pub removable : {space k : ℕ} {ds : List Deed} {B : Index} → Ready space (hide k ∷ ds) B → Removable k (slot_in B k / 4) B
removable {k = k} {B = B} r =
    let l = linked r in
    let m = r.moves in
    let b = there_inside r.ground r.mesh r.top r.sane k r.acts.0 in
    let w = ap (λ (I : Index). slot_in I k) r.is ∙ slot_place r.ground r.mesh r.top r.sane k b r.acts.0 in
    let p = (placed k r.mesh r.acts.0).within in
    let e = within B.slots k NONE 0 (slotted r) in
    record {
      within = omega (arith, w, quads_are r);
      named = ⊎_elim (λ n. absurd (omega (arith, n, e, w, l.small, quads_are r)))
          (λ x. ap (λ (q : ℕ). key_in (get_or B.links q 0)) (omega (arith, e, x.2)) ∙ x.3) (l.back k (slotted r));
      linked = l;
      moves = omega arith;
    }

moved_few : (words : ℕ → ℕ → List ℕ) (d : Deed) (m : List Quad) → moved_in (op_of (quad_by words) d) m ≤ 5
moved_few words (show k t) m = omega arith
moved_few words (hide k) m = moved_le k m

-- LAW: what is left can be done after the first
pub ready_step : {space : ℕ} {d : Deed} {ds : List Deed} {B : Index} → Ready space (d ∷ ds) B → Ready space ds (index_one d B)
ready_step {d = d} {ds} {B} r =
    let m = r.mesh in
    let o = op_of (quad_by r.ground.words) d in
    let h = max r.top (length (step o m)) in
    let f = r.fits in
    let a = highest_ge (ops_of (quad_by r.ground.words) ds) h (step o m) in
    let fit : length (step o m) ≤ r.ground.room = omega arith in
    let e = ap (index_one d) r.is
    ∙ one_booked r.ground d m r.top B.moved B.steps r.good.0 r.acts.0 r.sane fit in
    let v : B.moved + moved_in o m ≡ (index_one d B).moved = sym (ap (λ (I : Index). I.moved) e) in
    let x = sym (ap (λ (I : Index). I.steps) e) in
    let few = moved_few r.ground.words d m in
    let most = r.moves in
    let more = length-append B.steps (step_of d m ∷ []) in
    let now = ap length x in
    let space = r.steps in
    record {
      ground = r.ground;
      top = h;
      mesh = step o m;
      sane = sane_one r.ground.faces r.ground.span r.ground.room o m r.top r.good.0 r.sane fit;
      is = e ∙ (λ i. book_of r.ground.faces h (step o m) r.ground.old (v i) (x i));
      good = r.good.1;
      acts = r.acts.1;
      fits = f;
      moves = omega arith;
      steps = omega arith;
    }

pub drawable : {space k t : ℕ} {ds : List Deed} {B : Index} → Ready space (show k t ∷ ds) B → Drawable k B
unfolding came_at ready_step
drawable {k = k} {t} {B = B} r =
    let y = quads_are (ready_step r) in
    let n = (ready_step r).sane in
    let low = n.reached in
    let high = n.within in
    let g = r.good.0.0 in
    let u = r.ground.small in
    let z = long_slots r in
    let w = long_links r in
    let l = r.ground.long in
    let s = (linked r).small in
    record { cell = omega arith; slot = omega arith; room = omega arith; few = omega arith }

-- ---- runs
pub ready_rest : {space : ℕ} (a b : List Deed) (B : Index) → Ready space (a ++ b) B → Ready space b (index_run a B)
ready_rest [] b B r = r
ready_rest (d ∷ a) b B r = ready_rest a b (index_one d B) (ready_step r)

run-append : (a b : List Deed) (B : Index) → index_run (a ++ b) B ≡ index_run b (index_run a B)
run-append [] b B = refl
run-append (d ∷ a) b B = run-append a b (index_one d B)

-- the first of them can be done by themselves
module _ (n s : ℕ) (words : ℕ → ℕ → List ℕ) where
  abbrev of : List Deed → List Op
  of = ops_of (quad_by words)

  front : (a b : List Deed) (h : ℕ) (m : List Quad) → All (Good n s) (of (a ++ b)) → Acts (of (a ++ b)) m → All (Good n s) (of a) × Acts (of a) m × (highest h (of a) m ≤ highest h (of (a ++ b)) m)
  front [] b h m g c = (tt, tt, highest_ge (of b) h m)
  front (d ∷ a) b h m g c =
      let o = op_of (quad_by words) d in
      let r = front a b (max h (length (step o m))) (step o m) g.1 c.1 in
      ((g.0, r.0), (c.0, r.1), r.2)

ready_front : {space : ℕ} (a b : List Deed) (B : Index) → Ready space (a ++ b) B → Ready space a B
ready_front a b B r =
    let f = front r.ground.faces r.ground.span r.ground.words a b r.top r.mesh r.good r.acts in
    let n = length-append a b in
    let most = r.moves in
    let space = r.steps in
    let low = r.fits in
    let less = f.2 in
    record { ground = r.ground; top = r.top; mesh = r.mesh; sane = r.sane; is = r.is; good = f.0; acts = f.1; fits = omega arith; moves = omega arith; steps = omega arith }

pub piecewise : (space : ℕ) → Piecewise index_run (Ready space)
piecewise space = record { joined = run-append; front = ready_front; rest = ready_rest }
