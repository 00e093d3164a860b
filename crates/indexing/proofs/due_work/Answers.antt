-- `indexing::due_work` meets its contract: face by face. Assumes nothing.
use mathlib.Core.Path.{◌≡◌, refl, ap, ◌∙◌}
use mathlib.Core.Bool.{Bool, true, false, not, ◌&&◌, ◌||◌}
use mathlib.Core.List.{List}
use Prim.Native.Nat.{ℕ, ◌-◌, ◌<◌}
use native.Mathlib.Omega.{arith}
use lib.Bits.{bit_and, bit_or, and_le_r, or_lt}
use Rattle.rules.specs.Cells.{has, key_of, set_of}
use Rattle.rules.proofs.Sets.{set_of_lt, has-set_of, set_is, has_and, has_or, has_others}
use Rattle.works.specs.declared.Work.{Work}
use Rattle.works.specs.Sets.{sets, key_met}
use Rattle.indexing.specs.Due.{is_bare, is_met, goes, comes, due_of}
use Rattle.indexing.proofs.due_work.Goals as goal

-- a set of sides, and the others
module _ (p : ℕ → Bool) {set : ℕ} (s : set ≡ set_of p) where
  small : set < 64
  small = omega (arith, s, set_of_lt p)

  in-set : (f : ℕ) → f < 6 → has set f ≡ p f
  in-set f l = ap (λ (n : ℕ). has n f) s ∙ has-set_of p f l

  others : (f : ℕ) → f < 6 → has (63 - set) f ≡ not (p f)
  others f l = has_others set small f l ∙ ap not (in-set f l)

and_assoc : (x y z : Bool) → ((x && y) && z) ≡ (x && (y && z))
and_assoc true y z = refl
and_assoc false y z = refl

-- the sets that the code makes of a work, of the sides that are empty, of those that are bare and of those that the grid has
module _ (slots keys : List ℕ) (c : ℕ) (w : Work) {empty bare met : ℕ} (e : empty ≡ set_of (λ f. is_bare slots (key_of c f))) (b : bare ≡ set_of (λ f. is_bare slots (key_met keys 1 f))) (t : met ≡ set_of (is_met keys)) where
  abbrev lone : ℕ → Bool
  lone f = is_bare slots (key_of c f)

  abbrev none : ℕ → Bool
  none f = is_bare slots (key_met keys 1 f)

  -- within sets of sides, whatever the work's are
  inside : (a : ℕ) {d : ℕ} → d < 64 → bit_and a d < 64
  inside a {d} l = omega (arith, and_le_r a d)

  abbrev gone : ℕ
  gone = bit_and w.own (63 - empty)

  has-gone : (f : ℕ) → f < 6 → has gone f ≡ goes slots c w f
  has-gone f l = has_and w.own (63 - empty) f ∙ ap (λ (x : Bool). has w.own f && x) (others lone e f l)

  abbrev come : ℕ
  come = bit_and (bit_and w.shown bare) met

  has-come : (f : ℕ) → f < 6 → has come f ≡ comes slots keys w f
  has-come f l =
      has_and (bit_and w.shown bare) met f ∙ (λ i. has_and w.shown bare f i && in-set (is_met keys) t f l i) ∙ ap (λ (x : Bool). (has w.shown f && x) && is_met keys f) (in-set none b f l)
      ∙ and_assoc (has w.shown f) (none f) (is_met keys f)

  -- a set within the union of two
  either : (a : ℕ) {x y : ℕ} (p q : ℕ → Bool) → x < 64 → y < 64 → ((f : ℕ) → f < 6 → has x f ≡ p f) → ((f : ℕ) → f < 6 → has y f ≡ q f) → bit_and a (bit_or x y) ≡ set_of (λ f. has a f && (p f || q f))
  either a {x} {y} p q l m h k =
      set_is (λ f. has a f && (p f || q f)) (bit_and a (bit_or x y)) (inside a (or_lt 6 x y l m))
      (λ f n. has_and a (bit_or x y) f ∙ ap (λ (z : Bool). has a f && z) (has_or x y f ∙ (λ i. h f n i || k f n i)))

  made : ◌≡◌ {A = Work} (record { own = gone; shown = come; drawn = bit_and w.drawn (bit_or gone empty); hidden = bit_and w.hidden (bit_or (63 - bare) come) }) (due_of slots keys c w)
  made =
      let g : gone < 64 = inside w.own (omega arith) in
      let h : come < 64 = inside (bit_and w.shown bare) (small (is_met keys) t) in
      let own = set_is (goes slots c w) gone g has-gone in
      let shown = set_is (comes slots keys w) come h has-come in
      let drawn = either w.drawn (goes slots c w) lone g (small lone e) has-gone (in-set lone e) in
      let hidden = either w.hidden (λ f. not (none f)) (comes slots keys w) (omega arith) h (others none b) has-come in
      λ i. sets (own i) (shown i) (drawn i) (hidden i)

pub returns : goal.returns
returns c =
    made c.args.slots.now c.args.keys.now c.args.cell.0 c.args.work c.own_bare-bare.ensures c.facing_bare-facing.ensures c.met_sides.ensures

-- no set has more than six sides
pub overflow_sub-result : goal.overflow_sub-result
overflow_sub-result c = let a = c.args in omega (arith, c.facing_bare-facing.ensures, set_of_lt (λ f. is_bare a.slots.now (key_met a.keys.now 1 f)))
