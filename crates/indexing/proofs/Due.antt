-- What of a work changes something is what of the rule's operations does, and its quads are counted by its sets. Assumes nothing.
use mathlib.Core.Path.{◌≡◌, refl, sym, ap, ◌∙◌, subst}
use mathlib.Core.Bool.{Bool, true, false, cond, not, ◌&&◌, ◌||◌}
use mathlib.Core.List.{List, [], ◌∷◌, ◌++◌, map, map-append}
use mathlib.Core.Option.{Option, none, some}
use Prim.Native.Nat.{ℕ, zero, suc, ◌+◌, ◌*◌, ◌/◌, ◌%◌, ◌≤◌, ◌<◌}
use native.Mathlib.Omega.{arith}
use lib.Dec.{eqb, leb}
use lib.ListN.{length, length-map}
use borrow.Author.Tests.{eq-eqb, ne_eqb, le-leb, lt-leb, leb-true, leb-false}
use Rattle.rules.specs.Lists.{each, only, member, count}
use Rattle.rules.specs.Cells.{cells, has, opposite, neighbour, key_of, quads_of}
use Rattle.rules.specs.Mesh.{Quad, World, NONE, there}
use Rattle.rules.specs.Update as rule
use Rattle.rules.specs.Update.{Entry, Op, run, ops, needed}
use Rattle.rules.proofs.ListLaws.{All, and_false, and_with, and_true, all_kept, all_map, all_each, not_member, map_each, split, each_same, count_each, members, read_one, read_none}
use Rattle.rules.proofs.Sets.{set_of_lt, has-set_of}
use Rattle.rules.proofs.Neighbours.{beside, opposite_lt}
use Rattle.rules.proofs.Quads.{Once, run_once}
use Rattle.rules.proofs.Acting.{face_of, is_cut, acts, acting, acting_same, acting_acts, acting_all, acting_append, acting_count, there_run, acting_sides}
use Rattle.util.specs.Grid.{Within}
use Rattle.steps.specs.Steps.{op_of, ops_of}
use Rattle.works.specs.declared.Work.{Work}
use Rattle.works.specs.Sets.{set_in, packed, key_or, keys_around, key_met, cutting, type_drawn, deed_by, part_deeds, deeds, quad_in, CubesDrawn}
use Rattle.works.proofs.Works.{deeds_parts, facing, own_key, near_key, near_all}
use Rattle.works.proofs.Meant.{spot_in, op_at, ops_at, part_ops, Means, parts_ops, needed_parts}
use Rattle.indexing.specs.Due.{is_bare, due_at, due_of, fits_in}

-- LAW: what is due are sets of six sides
pub due_few : (slots keys : List ℕ) (c : ℕ) (w : Work) (j : ℕ) → set_in (due_of slots keys c w) j < 64
due_few slots keys c w zero = set_of_lt (due_at slots keys c w 0)
due_few slots keys c w (suc zero) = set_of_lt (due_at slots keys c w 1)
due_few slots keys c w (suc (suc zero)) = set_of_lt (due_at slots keys c w 2)
due_few slots keys c w (suc (suc (suc j))) = set_of_lt (due_at slots keys c w 3)

-- LAW: and of cubes, if the work's are
pub due_cubes : (kinds slots keys : List ℕ) (c : ℕ) (e : Entry) (w : Work) → CubesDrawn kinds e w → CubesDrawn kinds e (due_of slots keys c w)
due_cubes kinds slots keys c e w k =
    record {
      shown = λ i l h. k.shown i l (and_true _ _ (sym (has-set_of (due_at slots keys c w 1) i l) ∙ h)).0;
      drawn = λ i l h. k.drawn i l (and_true _ _ (sym (has-set_of (due_at slots keys c w 2) i l) ∙ h)).0;
    }

leb_plus : (a b c : ℕ) → leb (a + c) (b + c) ≡ leb a b
leb_plus a b c = split (λ t. leb (a + c) (b + c) ≡ t → t ≡ leb a b) (leb (a + c) (b + c))
    (λ s e. let l = leb-true (a + c) (b + c) e in sym (le-leb a b (omega arith))) (λ s e. let l = leb-false (a + c) (b + c) e in sym (lt-leb a b (omega arith))) refl

unless : (k : ℕ) (b : Bool) (ks : List ℕ) → All (λ x. eqb k x ≡ false) ks → member k (cond b ks []) ≡ false
unless k true ks a = not_member k ks a
unless k false ks a = refl

-- the operation of a part at a face is about that face, and cuts if the part does
face_of_lem : (W : World) (e : Entry) (j f k : ℕ) → face_of (op_at W e j f k) ≡ k
face_of_lem W e j f k = split (λ b. face_of (op_of (quad_in W) (deed_by b (type_drawn e j f) k)) ≡ k) (cutting j) (λ _. refl) (λ _. refl)

kind_of : (W : World) (e : Entry) (j f k : ℕ) → is_cut (op_at W e j f k) ≡ cutting j
kind_of W e j f k = split (λ b. is_cut (op_of (quad_in W) (deed_by b (type_drawn e j f) k)) ≡ b) (cutting j) (λ _. refl) (λ _. refl)

-- the side at which a part is about a face
abbrev side_in : ℕ → ℕ → ℕ
side_in zero k = k % 6
side_in (suc zero) k = opposite (k % 6)
side_in (suc (suc j)) k = side_in j k

module _ (W : World) (e : Entry) (grid : Within W.size) (inside : e.cell < cells W.size) where
  abbrev keys : List ℕ
  keys = keys_around W.size e.cell

  abbrev spots : ℕ → ℕ → List ℕ
  spots = spot_in W.size e.cell

  near : (P : ℕ → Type 0) (f : ℕ) → f < 6 → ((k : ℕ) → k < 6 * cells W.size → (k / 6 ≡ e.cell → ⊥) → opposite (k % 6) ≡ f → P k) → All P (spots 1 f)
  near = near_all W.size e.cell grid inside

  at_side : (j f : ℕ) → f < 6 → All (λ k. side_in j k ≡ f) (spots j f)
  at_side zero f l = (omega arith, tt)
  at_side (suc zero) f l = near (λ k. opposite (k % 6) ≡ f) f l (λ k i d s. s)
  at_side (suc (suc j)) f l = at_side j f l

  one_spot : (j f : ℕ) → length (spots j f) ≤ 1
  one_spot zero f = omega arith
  one_spot (suc zero) f = go (neighbour W.size e.cell f)
    where
      go : (o : Option ℕ) → length (facing f o) ≤ 1
      go none = omega arith
      go (some n) = omega arith
  one_spot (suc (suc j)) f = one_spot j f

  -- ---- what holds of a part's operations
  on_spot : (P : Op → Type 0) (set j f : ℕ) → All (λ k. P (op_at W e j f k)) (spots j f) → All P (ops_at W e set j f)
  on_spot P set j f a = split (λ b. All P (cond b (map (op_at W e j f) (spots j f)) [])) (has set f) (λ _. all_map P (op_at W e j f) (spots j f) a) (λ _. tt)

  few_ops : (set j f : ℕ) → length (ops_at W e set j f) ≤ 1
  few_ops set j f = split (λ b. length (cond b (map (op_at W e j f) (spots j f)) []) ≤ 1) (has set f) (λ _. omega (arith, length-map (spots j f) (op_at W e j f), one_spot j f)) (λ _. omega arith)

  kinds : (set j : ℕ) → All (λ o. is_cut o ≡ cutting j) (part_ops W e set j)
  kinds set j =
      all_each (λ o. is_cut o ≡ cutting j) 6 0 (ops_at W e set j) (λ f _ l. on_spot (λ o. is_cut o ≡ cutting j) set j f (all_kept (λ k _. kind_of W e j f k) (spots j f) (at_side j f (omega arith))))

  -- ---- the faces of a part, and what is there after it
  abbrev faces : ℕ → ℕ → List ℕ
  faces set j = each 6 0 (λ f. cond (has set f) (spots j f) [])

  faces_are : (set j : ℕ) → map face_of (part_ops W e set j) ≡ faces set j
  faces_are set j = map_each face_of 6 0 (ops_at W e set j) ∙ each_same 6 0 (λ f. map face_of (ops_at W e set j f)) (λ f. cond (has set f) (spots j f) []) (λ f _ _. one f (has set f))
    where
      all : (f : ℕ) (ks : List ℕ) → map face_of (map (op_at W e j f) ks) ≡ ks
      all f [] = refl
      all f (k ∷ ks) = let a = face_of_lem W e j f k in let b = all f ks in λ i. a i ∷ b i

      one : (f : ℕ) (b : Bool) → map face_of (cond b (map (op_at W e j f) (spots j f)) []) ≡ cond b (spots j f) []
      one f true = all f (spots j f)
      one f false = refl

  seen : (set j k : ℕ) (x : List Quad) → Once x → there k (run (part_ops W e set j) x) ≡ cond (member k (faces set j)) (not (cutting j)) (there k x)
  seen set j k x o = there_run k (cutting j) (part_ops W e set j) x o (kinds set j) ∙ ap (λ (ks : List ℕ). cond (member k ks) (not (cutting j)) (there k x)) (faces_are set j)

  -- LAW: a face that a part is about is as its set says
  seen_at : (set j f k : ℕ) → f < 6 → spots j f ≡ k ∷ [] → (x : List Quad) → Once x → there k (run (part_ops W e set j) x) ≡ cond (has set f) (not (cutting j)) (there k x)
  seen_at set j f k l s x o = seen set j k x o ∙ ap (λ (b : Bool). cond b (not (cutting j)) (there k x)) here
    where
      mine : side_in j k ≡ f
      mine = (subst (All (λ k. side_in j k ≡ f)) s (at_side j f l)).0

      here : member k (faces set j) ≡ has set f
      here =
          read_one (members k) 6 0 f (λ g. cond (has set g) (spots j g) []) (omega arith) (omega arith)
          (λ g b d. unless k (has set g) (spots j g) (all_kept (λ x s. ne_eqb k x (λ z. d (sym s ∙ ap (side_in j) (sym z) ∙ mine))) (spots j g) (at_side j g (omega arith))))
          ∙ rw s (split (λ b. member k (cond b (k ∷ []) []) ≡ b) (has set f) (λ _. rw (eq-eqb k k refl)) (λ _. refl))

  -- LAW: another stays
  seen_far : (set j k : ℕ) → ((g : ℕ) → g < 6 → All (λ x. eqb k x ≡ false) (spots j g)) → (x : List Quad) → Once x → there k (run (part_ops W e set j) x) ≡ there k x
  seen_far set j k d x o =
      seen set j k x o ∙ ap (λ (b : Bool). cond b (not (cutting j)) (there k x))
      (read_none (members k) 6 0 (λ g. cond (has set g) (spots j g) []) (λ g _ b. unless k (has set g) (spots j g) (d g (omega arith))))

  own_far : (f g : ℕ) → f < 6 → g < 6 → All (λ x. eqb (key_of e.cell f) x ≡ false) (spots 1 g)
  own_far f g l b = near (λ x. eqb (key_of e.cell f) x ≡ false) g b (λ x i d s. ne_eqb (key_of e.cell f) x (λ z. d (omega arith)))

  near_far : (k g : ℕ) → g < 6 → (k / 6 ≡ e.cell → ⊥) → All (λ x. eqb k x ≡ false) (spots 0 g)
  near_far k g b d = (ne_eqb k (key_of e.cell g) (λ z. d (omega arith)), tt)

  -- ---- a work on a mesh that the slots tell
  module _ (m : List Quad) (once : Once m) (w : Work) (slots : List ℕ) (told : (k : ℕ) → k < 6 * cells W.size → is_bare slots k ≡ not (there k m)) (no_face : is_bare slots NONE ≡ true) where
    -- after the first j parts
    abbrev before : ℕ → List Quad
    before zero = m
    before (suc j) = run (part_ops W e (set_in w j) j) (before j)

    once_at : (j : ℕ) → Once (before j)
    once_at zero = once
    once_at (suc j) = run_once (part_ops W e (set_in w j) j) (before j) (once_at j)

    sees : (k : ℕ) → k < 6 * cells W.size → there k m ≡ not (is_bare slots k)
    sees k l = split (λ b. b ≡ not (not b)) (there k m) (λ _. refl) (λ _. refl) ∙ ap not (sym (told k l))

    abbrev due : ℕ → ℕ → Bool
    due = due_at slots keys e.cell w

    -- what is done at a face that a part is about, and where it is about none
    at_one : (j f k : ℕ) {b : Bool} → spots j f ≡ k ∷ [] → key_met keys j f ≡ k → acts (op_at W e j f k) (before j) ≡ b → due j f ≡ (has (set_in w j) f && b)
        → acting (ops_at W e (set_in w j) j f) (before j) ≡ ops_of (quad_in W) (only (due j f) (deed_by (cutting j) (type_drawn e j f) (key_met keys j f)))
    at_one j f k {b} s met a d = rw (s, met, d) (pick (has (set_in w j) f))
      where
        pick : (o : Bool) → acting (cond o (op_at W e j f k ∷ []) []) (before j) ≡ ops_of (quad_in W) (only (o && b) (deed_by (cutting j) (type_drawn e j f) k))
        pick true = rw a (split (λ c. only c (op_at W e j f k) ++ [] ≡ ops_of (quad_in W) (only c (deed_by (cutting j) (type_drawn e j f) k))) b (λ _. refl) (λ _. refl))
        pick false = refl

    at_none : (j f : ℕ) → spots j f ≡ [] → due j f ≡ false
        → acting (ops_at W e (set_in w j) j f) (before j) ≡ ops_of (quad_in W) (only (due j f) (deed_by (cutting j) (type_drawn e j f) (key_met keys j f)))
    at_none j f s d = rw (s, d) (split (λ b. acting (cond b [] []) (before j) ≡ []) (has (set_in w j) f) (λ _. refl) (λ _. refl))

    -- a neighbour's facing side: the part meets it, and it is as it was when the cell's own have gone
    record Near (f k : ℕ) : Type 0 where
      spot : spots 1 f ≡ k ∷ []
      far : (g : ℕ) → g < 6 → All (λ x. eqb k x ≡ false) (spots 0 g)
      met : key_met keys 1 f ≡ k
      there_yet : there k (before 1) ≡ not (is_bare slots k)
      due_now : due 1 f ≡ (has w.shown f && is_bare slots k)

    near_is : (f n : ℕ) → f < 6 → neighbour W.size e.cell f ≡ some n → Near f (key_of n (opposite f))
    near_is f n l q =
        let k = key_of n (opposite f) in
        let x = beside W.size grid.sides.wide grid.sides.long e.cell inside f n q in
        let i = x.inside in
        let b = opposite_lt f l in
        let low : k < 6 * cells W.size = omega arith in
        let far : (g : ℕ) → g < 6 → All (λ x. eqb k x ≡ false) (spots 0 g) = λ g c. near_far k g c (λ y. x.other (omega arith)) in
        let met = near_key W.size e.cell 1 f refl l ∙ ap (key_or f) q in
        record {
          spot = ap (facing f) q;
          far = far;
          met = met;
          there_yet = seen_far w.own 0 k far m once ∙ sees k low;
          due_now = rw (met, ne_eqb k NONE (λ z. omega (arith, grid.most))) (ap (λ (y : Bool). has w.shown f && y) (and_with (is_bare slots k)));
        }

    -- where the grid has no neighbour nothing is due
    none_due : (f : ℕ) → f < 6 → neighbour W.size e.cell f ≡ none → (due 1 f ≡ false) × (due 3 f ≡ false)
    none_due f l q = let met = near_key W.size e.cell 1 f refl l ∙ ap (key_or f) q in rw (met, no_face) (and_false (has w.shown f), ap (λ (b : Bool). has w.hidden f && b) (and_false (has w.shown f)) ∙ and_false (has w.hidden f))

    -- LAW: what is due is what changes something
    due_at_lem : (j f : ℕ) → j < 4 → f < 6 → acting (ops_at W e (set_in w j) j f) (before j) ≡ ops_of (quad_in W) (only (due j f) (deed_by (cutting j) (type_drawn e j f) (key_met keys j f)))
    due_at_lem zero f _ l = let k = key_of e.cell f in at_one 0 f k refl (own_key W.size e.cell 0 f refl l) (sees k (omega arith)) refl
    due_at_lem (suc zero) f _ l = go (neighbour W.size e.cell f) refl
      where
        go : (o : Option ℕ) → neighbour W.size e.cell f ≡ o → acting (ops_at W e w.shown 1 f) (before 1) ≡ ops_of (quad_in W) (only (due 1 f) (deed_by false (type_drawn e 1 f) (key_met keys 1 f)))
        go none q = at_none 1 f (ap (facing f) q) (none_due f l q).0
        go (some n) q = let x = near_is f n l q in at_one 1 f (key_of n (opposite f)) x.spot x.met (ap not x.there_yet ∙ split (λ b. not (not b) ≡ b) (is_bare slots (key_of n (opposite f))) (λ _. refl) (λ _. refl)) x.due_now
    due_at_lem (suc (suc zero)) f _ l =
        let k = key_of e.cell f in
        at_one 2 f k refl (own_key W.size e.cell 2 f refl l)
        (ap not (seen_far w.shown 1 k (λ g b. own_far f g l b) (before 1) (once_at 1) ∙ seen_at w.own 0 f k l refl m once ∙ ap (cond (has w.own f) false) (sees k (omega arith)))
        ∙ gone (has w.own f) (is_bare slots k)) refl
      where
        gone : (x y : Bool) → not (cond x false (not y)) ≡ ((x && not y) || y)
        gone true true = refl
        gone true false = refl
        gone false true = refl
        gone false false = refl
    due_at_lem (suc (suc (suc zero))) f _ l = go (neighbour W.size e.cell f) refl
      where
        come : (x y : Bool) → cond x true (not y) ≡ (not y || (x && y))
        come true true = refl
        come true false = refl
        come false true = refl
        come false false = refl

        go : (o : Option ℕ) → neighbour W.size e.cell f ≡ o → acting (ops_at W e w.hidden 3 f) (before 3) ≡ ops_of (quad_in W) (only (due 3 f) (deed_by true (type_drawn e 3 f) (key_met keys 3 f)))
        go none q = at_none 3 f (ap (facing f) q) (none_due f l q).1
        go (some n) q =
            let k = key_of n (opposite f) in
            let x = near_is f n l q in
            at_one 3 f k x.spot x.met
            (seen_far w.drawn 2 k x.far (before 2) (once_at 2) ∙ seen_at w.shown 1 f k l x.spot (before 1) (once_at 1) ∙ ap (cond (has w.shown f) true) x.there_yet ∙ come (has w.shown f) (is_bare slots k))
            (λ i. has w.hidden f && (not (is_bare slots (x.met i)) || x.due_now i))
    due_at_lem (suc (suc (suc (suc j)))) f b l = absurd (omega arith)

    abbrev d : Work
    d = due_of slots keys e.cell w

    has_due : (j f : ℕ) → j < 4 → f < 6 → has (set_in d j) f ≡ due j f
    has_due zero f _ l = has-set_of (due 0) f l
    has_due (suc zero) f _ l = has-set_of (due 1) f l
    has_due (suc (suc zero)) f _ l = has-set_of (due 2) f l
    has_due (suc (suc (suc zero))) f _ l = has-set_of (due 3) f l
    has_due (suc (suc (suc (suc j)))) f b l = absurd (omega arith)

    part_due : (j : ℕ) → j < 4 → acting (part_ops W e (set_in w j) j) (before j) ≡ ops_of (quad_in W) (part_deeds keys e (set_in d j) j)
    part_due j b =
        acting_sides (side_in j) (ops_at W e (set_in w j) j) 6 0 (few_ops (set_in w j) j)
        (λ f _ l. on_spot (λ o. side_in j (face_of o) ≡ f) (set_in w j) j f (all_kept (λ k s. ap (side_in j) (face_of_lem W e j f k) ∙ s) (spots j f) (at_side j f (omega arith)))) (before j) (once_at j)
        ∙ each_same 6 0 (λ f. acting (ops_at W e (set_in w j) j f) (before j)) (λ f. ops_of (quad_in W) (only (has (set_in d j) f) (deed_by (cutting j) (type_drawn e j f) (key_met keys j f))))
        (λ f _ l. due_at_lem j f b (omega arith) ∙ ap (λ (o : Bool). ops_of (quad_in W) (only o (deed_by (cutting j) (type_drawn e j f) (key_met keys j f)))) (sym (has_due j f b (omega arith))))
        ∙ sym (map_each (op_of (quad_in W)) 6 0 (λ f. only (has (set_in d j) f) (deed_by (cutting j) (type_drawn e j f) (key_met keys j f))))

    module _ {R : rule.Work} (r : Means W e w R) where
      -- LAW: the deeds that are due are the rule's operations that change something
      pub due_ops : ops_of (quad_in W) (deeds keys e (packed d)) ≡ acting (ops R) m
      due_ops =
          let flat : ops_of (quad_in W) (part_deeds keys e d.own 0 ++ (part_deeds keys e d.shown 1 ++ (part_deeds keys e d.drawn 2 ++ part_deeds keys e d.hidden 3)))
          ≡ ops_of (quad_in W) (part_deeds keys e d.own 0) ++ (ops_of (quad_in W) (part_deeds keys e d.shown 1) ++ (ops_of (quad_in W) (part_deeds keys e d.drawn 2) ++ ops_of (quad_in W) (part_deeds keys e d.hidden 3))) = simp map-append in
          ap (ops_of (quad_in W)) (deeds_parts keys e d (due_few slots keys e.cell w)) ∙ flat
          ∙ sym (λ i. part_due 0 (omega arith) i ++ (part_due 1 (omega arith) i ++ (part_due 2 (omega arith) i ++ part_due 3 (omega arith) i)))
          ∙ sym (acting_append (part_ops W e w.own 0) _ m ∙ ap (λ (os : List Op). acting (part_ops W e w.own 0) m ++ os)
          (acting_append (part_ops W e w.shown 1) _ (before 1) ∙ ap (λ (os : List Op). acting (part_ops W e w.shown 1) (before 1) ++ os) (acting_append (part_ops W e w.drawn 2) _ (before 2))))
          ∙ ap (λ (os : List Op). acting os m) (parts_ops r)

      -- how a part changes the count
      grows : (j : ℕ) → j < 4 → length (before (suc j)) + cond (cutting j) (quads_of (set_in d j)) 0 ≡ length (before j) + cond (cutting j) 0 (quads_of (set_in d j))
      unfolding count
      grows j b =
          let os = part_ops W e (set_in w j) j in
          let many : length (acting os (before j)) ≡ quads_of (set_in d j) =
          ap length (part_due j b) ∙ length-map (part_deeds keys e (set_in d j) j) (op_of (quad_in W)) ∙ omega (arith, count_each (has (set_in d j)) (λ f. deed_by (cutting j) (type_drawn e j f) (key_met keys j f)) 6 0) in
          let same = ap (λ (x : ℕ × ℕ × List Quad). length x.2) (acting_same os (length (before j)) (before j) (omega arith)) in
          (λ i. sym same i + cond (cutting j) (sym many i) 0) ∙ acting_count (cutting j) (acting os (before j)) (before j) (acting_all (λ o. is_cut o ≡ cutting j) os (before j) (kinds (set_in w j) j)) (acting_acts os (before j))
          ∙ ap (λ (n : ℕ). length (before j) + cond (cutting j) 0 n) many

      -- LAW: the room holds it exactly if the rule says so
      pub room_told : (room : ℕ) → fits_in d (length m) room ≡ leb (needed R m) room
      room_told room =
          let counted : length m + quads_of d.shown + quads_of d.drawn ≡ needed R m + quads_of d.own = omega (arith, needed_parts r m, grows 0 (omega arith), grows 1 (omega arith), grows 2 (omega arith)) in
          ap (λ (n : ℕ). leb n (room + quads_of d.own)) counted ∙ leb_plus (needed R m) room (quads_of d.own)
