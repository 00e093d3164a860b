-- The four side sets of an entry are the rule's work, and their deeds, face by face, its operations. Assumes nothing.
use mathlib.Core.Path.{◌≡◌, refl, sym, ap, ◌∙◌}
use mathlib.Core.Bool.{Bool, true, false, cond, ◌&&◌, false≢true}
use mathlib.Core.List.{List, [], ◌∷◌, ◌++◌, append-nil, append_assoc, map, map-append}
use mathlib.Core.Option.{Option, none, some}
use Prim.Native.Nat.{ℕ, zero, suc, ◌/◌, ◌%◌, ◌<◌}
use native.Mathlib.Omega.{arith}
use lib.ListN.{length, get_or}
use Rattle.rules.specs.Lists.{each, only}
use Rattle.rules.specs.Cells.{Size, opposite, neighbour, key_of, has, set_of}
use Rattle.rules.specs.Mesh.{Quad, World, is_normal_cube, covering, quad_of}
use Rattle.rules.specs.Update as rule
use Rattle.rules.specs.Update.{Entry, Change, Tested, Broken, Added, Sides, Replaced, Op, put, cut, run, cuts, puts, ops, needed, given_at, sides, quads, all, is_open, to_hide, to_draw, draws, reveal, nothing, added, broken, first_half, in_one, work_by, work}
use Rattle.rules.proofs.Sets.{zero_has, has-set_of}
use Rattle.rules.proofs.Neighbours.{opposite_lt}
use Rattle.rules.proofs.ListLaws.{split, and_true, map_each, each_same}
use Rattle.rules.proofs.Quads.{run-append}
use Rattle.steps.specs.Steps.{op_of}
use Rattle.works.specs.declared.Work.{Work}
use Rattle.works.specs.Sets.{types_by, sets, no_work, is_shown, shown_for, open_for, hidden_for, meant_by, meant, cutting, type_drawn, deed_by, quad_in, CubesDrawn}
use Rattle.works.proofs.Works.{facing}

-- the faces that a part is about at side f, if the grid has them
abbrev pub spot_in : Size → ℕ → ℕ → ℕ → List ℕ
spot_in s c zero f = key_of c f ∷ []
spot_in s c (suc zero) f = facing f (neighbour s c f)
spot_in s c (suc (suc j)) f = spot_in s c j f

abbrev pub op_at : World → Entry → ℕ → ℕ → ℕ → Op
op_at W e j f k = op_of (quad_in W) (deed_by (cutting j) (type_drawn e j f) k)

-- a part with its set, as operations
abbrev pub ops_at : World → Entry → ℕ → ℕ → ℕ → List Op
ops_at W e set j f = cond (has set f) (map (op_at W e j f) (spot_in W.size e.cell j f)) []

abbrev pub part_ops : World → Entry → ℕ → ℕ → List Op
part_ops W e set j = each 6 0 (ops_at W e set j)

-- what the parts of a work do is the rule's work
pub record Means (W : World) (e : Entry) (w : Work) (R : rule.Work) : Type 0 where
  pub own : part_ops W e w.own 0 ≡ cuts R.own
  pub new : part_ops W e w.shown 1 ++ part_ops W e w.drawn 2 ≡ puts R.new
  pub facing : part_ops W e w.hidden 3 ≡ cuts R.facing

module _ (W : World) (e : Entry) where
  abbrev beyond : ℕ → Option ℕ
  beyond f = neighbour W.size e.cell f

  quad_at : (t c f : ℕ) → f < 6 → quad_in W (key_of c f) t ≡ quad_of W t c f
  quad_at t c f h = let a : key_of c f % 6 ≡ f = omega arith in let b : key_of c f / 6 ≡ c = omega arith in rw (a, b)

  -- LAW: a part about own sides, as the rule lists them
  own_part : {A : Type 0} (g : A → Op) (x : ℕ → A) (j set : ℕ) (p : ℕ → Bool) → ((f : ℕ) → spot_in W.size e.cell j f ≡ key_of e.cell f ∷ []) → ((f : ℕ) → f < 6 → has set f ≡ p f)
      → ((f : ℕ) → f < 6 → op_at W e j f (key_of e.cell f) ≡ g (x f)) → part_ops W e set j ≡ map g (each 6 0 (λ f. only (p f) (x f)))
  own_part g x j set p own h is =
      each_same 6 0 (ops_at W e set j) (λ f. map g (only (p f) (x f))) (λ f _ l. (λ i. cond (h f (omega arith) i) (map (op_at W e j f) (own f i)) []) ∙ one f (omega arith) (p f))
      ∙ sym (map_each g 6 0 (λ f. only (p f) (x f)))
    where
      one : (f : ℕ) → f < 6 → (b : Bool) → cond b (op_at W e j f (key_of e.cell f) ∷ []) [] ≡ map g (only b (x f))
      one f l true = ap (λ (o : Op). o ∷ []) (is f l)
      one f l false = refl

  -- LAW: one about facing sides, of the neighbours that the grid has
  near_part : {A : Type 0} (g : A → Op) (r : ℕ → Option ℕ → List A) (x : ℕ → ℕ → A) (j : ℕ) (p : ℕ → Bool) → ((f : ℕ) → spot_in W.size e.cell j f ≡ facing f (beyond f)) → ((f : ℕ) → r f none ≡ [])
      → ((f n : ℕ) → r f (some n) ≡ only (p f) (x f n)) → ((f n : ℕ) → f < 6 → op_at W e j f (key_of n (opposite f)) ≡ g (x f n)) → part_ops W e (set_of p) j ≡ map g (each 6 0 (λ f. r f (beyond f)))
  near_part g r x j p near bare met is =
      each_same 6 0 (ops_at W e (set_of p) j) (λ f. map g (r f (beyond f)))
      (λ f _ l. (λ i. cond (has-set_of p f (omega arith) i) (map (op_at W e j f) (near f i)) []) ∙ one f (omega arith) (p f) refl (beyond f)) ∙ sym (map_each g 6 0 (λ f. r f (beyond f)))
    where
      one : (f : ℕ) → f < 6 → (b : Bool) → p f ≡ b → (o : Option ℕ) → cond b (map (op_at W e j f) (facing f o)) [] ≡ map g (r f o)
      one f l true q none = sym (ap (map g) (bare f))
      one f l false q none = sym (ap (map g) (bare f))
      one f l true q (some n) = ap (λ (o : Op). o ∷ []) (is f n l) ∙ sym (ap (map g) (met f n ∙ ap (λ (b : Bool). only b (x f n)) q))
      one f l false q (some n) = sym (ap (map g) (met f n ∙ ap (λ (b : Bool). only b (x f n)) q))

  own_cut : (set : ℕ) (p : ℕ → Bool) → ((f : ℕ) → f < 6 → has set f ≡ p f) → part_ops W e set 0 ≡ cuts (sides e.cell p)
  own_cut set p h = own_part cut (key_of e.cell) 0 set p (λ f. refl) h (λ f l. refl)

  own_put : (p : ℕ → Bool) → part_ops W e (set_of p) 2 ≡ puts (quads W e.type e.cell p)
  own_put p = own_part put (quad_of W e.type e.cell) 2 (set_of p) p (λ f. refl) (has-set_of p) (λ f l. ap put (quad_at e.type e.cell f l))

  near_put : (t : ℕ) → part_ops W e (shown_for W e t) 1 ≡ puts (each 6 0 (λ i. reveal W t (given_at e i) i (beyond i)))
  near_put t =
      near_part put (λ i. reveal W t (given_at e i) i) (λ f n. quad_of W (given_at e f) n (opposite f)) 1 (λ i. covering W t i && is_normal_cube W (given_at e i)) (λ f. refl)
      (λ f. refl) (λ f n. refl) (λ f n l. ap put (quad_at (given_at e f) n (opposite f) (opposite_lt f l)))

  near_cut : (tested : Tested) → part_ops W e (set_of (λ i. covering W e.type (tested i))) 3 ≡ cuts (each 6 0 (λ i. rule.conceal tested W e.type i (beyond i)))
  near_cut tested = near_part cut (rule.conceal tested W e.type) (λ f n. key_of n (opposite f)) 3 (λ i. covering W e.type (tested i)) (λ f. refl) (λ f. refl) (λ f n. refl) (λ f n l. refl)

  idle : (j : ℕ) → part_ops W e 0 j ≡ []
  unfolding each
  idle j = each_same 6 0 (ops_at W e 0 j) (λ f. []) (λ f _ l. ap (λ (b : Bool). cond b (map (op_at W e j f) (spot_in W.size e.cell j f)) []) (zero_has f))

  idle_means : Means W e no_work nothing
  idle_means = record { own = idle 0; new = (λ i. idle 1 i ++ idle 2 i); facing = idle 3 }

  by_change : (tested : Tested) (k : Change) → Means W e (meant_by tested (types_by W.kinds W.covers) e k) (work_by tested W e k)
  by_change tested Broken = record { own = own_cut 63 all (has-set_of all); new = (λ i. near_put e.type i ++ idle 2 i) ∙ append-nil _; facing = idle 3 }
  by_change tested Added = pick (is_normal_cube W e.type)
    where
      pick : (b : Bool) → Means W e (sets (cond b 63 0) 0 (open_for b W e) (hidden_for b tested W e)) (cond b (added tested W e) nothing)
      pick true = record { own = own_cut 63 all (has-set_of all); new = (λ i. idle 1 i ++ own_put (is_open W e) i); facing = near_cut tested }
      pick false = idle_means
  by_change tested Sides =
      record {
        own = own_cut _ (to_hide e) (has-set_of (to_hide e));
        new = λ i. idle 1 i ++ own_put (draws W e) i;
        facing = idle 3;
      }
  by_change tested Replaced = pick (is_normal_cube W e.type)
    where
      pick : (b : Bool) → Means W e (sets 63 (shown_for W e e.former) (open_for b W e) (hidden_for b tested W e)) (in_one (broken W (first_half e)) (cond b (added tested W e) nothing))
      pick true =
          record {
            own = own_cut 63 all (has-set_of all);
            new = (λ i. near_put e.former i ++ own_put (is_open W e) i) ∙ sym (map-append put (broken W (first_half e)).new (added tested W e).new);
            facing = near_cut tested;
          }
      pick false =
          record {
            own = own_cut 63 all (has-set_of all);
            new = (λ i. near_put e.former i ++ idle 2 i) ∙ sym (map-append put (broken W (first_half e)).new []);
            facing = idle 3;
          }

  -- LAW: the sets of an entry are the rule's work
  pub meant_work : (tested : Tested) → Means W e (meant tested W e) (work tested W e)
  meant_work tested = by_change tested e.change

module _ {W : World} {e : Entry} {w : Work} {R : rule.Work} (r : Means W e w R) where
  -- LAW: the four parts, one after the other, are its operations
  pub parts_ops : part_ops W e w.own 0 ++ (part_ops W e w.shown 1 ++ (part_ops W e w.drawn 2 ++ part_ops W e w.hidden 3)) ≡ ops R
  unfolding ops
  parts_ops =
      ap (λ (os : List Op). part_ops W e w.own 0 ++ os) (sym (append_assoc (part_ops W e w.shown 1) (part_ops W e w.drawn 2) (part_ops W e w.hidden 3)))
      ∙ (λ i. r.own i ++ (r.new i ++ r.facing i))

  -- LAW: the room that it asks for is that of its first three parts
  pub needed_parts : (m : List Quad) → needed R m ≡ length (run (part_ops W e w.drawn 2) (run (part_ops W e w.shown 1) (run (part_ops W e w.own 0) m)))
  unfolding needed
  needed_parts m = (λ i. length (run (sym r.new i) (run (sym r.own i) m))) ∙ ap length (run-append (part_ops W e w.shown 1) (part_ops W e w.drawn 2) (run (part_ops W e w.own 0) m))

module _ (W : World) (e : Entry) where
  nothing_in : {A : Type 0} (i : ℕ) → has 0 i ≡ true → A
  nothing_in i h = absurd (false≢true (sym (zero_has i) ∙ h))

  -- LAW: what is drawn is of cubes
  pub meant_cubes : (tested : Tested) → CubesDrawn W.kinds e (meant tested W e)
  meant_cubes tested = go e.change
    where
      if_shown : (t i : ℕ) → i < 6 → has (shown_for W e t) i ≡ true → is_normal_cube W (given_at e i) ≡ true
      if_shown t i l h = (and_true (covering W t i) (is_normal_cube W (given_at e i)) (sym (has-set_of (is_shown W.kinds (get_or W.covers t 0) e) i l) ∙ h)).1

      if_open : (i : ℕ) → has (open_for (is_normal_cube W e.type) W e) i ≡ true → is_normal_cube W e.type ≡ true
      if_open i = split (λ b. has (open_for b W e) i ≡ true → b ≡ true) (is_normal_cube W e.type) (λ _ h. refl) (λ _ h. nothing_in i h)

      go : (k : Change) → CubesDrawn W.kinds e (meant_by tested (types_by W.kinds W.covers) e k)
      go Broken =
          record {
            shown = if_shown e.type;
            drawn = λ i l h. nothing_in i h;
          }
      go Added = record { shown = λ i l h. nothing_in i h; drawn = λ i l h. if_open i h }
      go Sides =
          record {
            shown = λ i l h. nothing_in i h;
            drawn = λ i l h. (and_true (is_normal_cube W e.type) (to_draw e i) (sym (has-set_of (draws W e) i l) ∙ h)).0;
          }
      go Replaced = record { shown = if_shown e.former; drawn = λ i l h. if_open i h }
