-- The side sets of a fresh mesh, by the outer list and by its set, and how many quads a set asks for. Assumes nothing.
use mathlib.Core.Path.{◌≡◌, refl, sym, ap, ◌∙◌}
use mathlib.Core.Logic.{◌≢◌}
use mathlib.Core.Bool.{Bool, true, false, cond}
use mathlib.Core.List.{List}
use mathlib.Core.Option.{Option, none, some}
use Prim.Native.Nat.{ℕ, zero, suc, ◌+◌, ◌-◌, ◌≤◌, ◌<◌}
use native.Mathlib.Nat.{le_refl, add-zero, add-suc}
use native.Mathlib.Omega.{arith}
use borrow.Author.Tests.{eq-eqb, ne_eqb}
use Rattle.rules.specs.Lists.{only, member, count}
use Rattle.rules.specs.Cells.{has, rank, quads_of, neighbour}
use Rattle.rules.specs.Mesh.{World, is_normal_cube, type_at, shown}
use Rattle.rules.proofs.Index.{count_le}
use Rattle.rules.proofs.ListLaws.{members, read_one}
use Rattle.rules.proofs.Sets.{has-set_of, set_is, set_of_lt}
use Rattle.culling.specs.Culling.{outer_set}
use Rattle.culling.proofs.Sides.{set_of_cong}
use Rattle.listing.specs.Fresh.{side_drawn, set_at, faces_of}

-- ---- the outer list by its set
member_faces : (set f : ℕ) → f < 6 → member f (faces_of set) ≡ has set f
member_faces set f h =
    read_one (members f) 6 0 f (λ i. only (has set i) i) (omega arith) (omega arith) (λ i a d. other i d (has set i)) ∙ own (has set f)
  where
    other : (i : ℕ) → i ≢ f → (b : Bool) → member f (only b i) ≡ false
    other i d true = rw (ne_eqb f i (λ e. d (sym e)))
    other i d false = refl

    own : (b : Bool) → member f (only b f) ≡ b
    own true = rw (eq-eqb f f refl)
    own false = refl

-- a set is that of its faces
pub outer_faces : (set : ℕ) → set < 64 → set ≡ outer_set (faces_of set)
outer_faces set h = set_is (λ f. member f (faces_of set)) set h (λ f l. sym (member_faces set f l))

shown_same : (W : World) (a b g : List ℕ) (f : ℕ) (n : Option ℕ) → member f a ≡ member f b → shown W a g f n ≡ shown W b g f n
shown_same W a b g f none e = rw e
shown_same W a b g f (some n) e = refl

-- and a list is as good as the faces of its set
pub named_set : (culling : Bool) (W : World) (outer g : List ℕ) (c : ℕ) → set_at culling W (faces_of (outer_set outer)) g c ≡ set_at culling W outer g c
unfolding set_at
named_set culling W outer g c =
    set_of_cong (side_drawn culling W (faces_of (outer_set outer)) g c) (side_drawn culling W outer g c)
    (λ f l. let m : member f (faces_of (outer_set outer)) ≡ member f outer =
    member_faces (outer_set outer) f l ∙ has-set_of (λ i. member i outer) f l in
    by f culling (shown_same W (faces_of (outer_set outer)) outer g f (neighbour W.size c f) m))
  where
    by : (f : ℕ) (culling : Bool) → shown W (faces_of (outer_set outer)) g f (neighbour W.size c f) ≡ shown W outer g f (neighbour W.size c f)
        → side_drawn culling W (faces_of (outer_set outer)) g c f ≡ side_drawn culling W outer g c f
    by f true e = rw e
    by f false e = refl

-- Naive asks for all six, or none
pub naive_set : (W : World) (outer g : List ℕ) (c : ℕ) (b : Bool) → is_normal_cube W (type_at g c) ≡ b → cond b 63 0 ≡ set_at false W outer g c
unfolding set_at
naive_set W outer g c true e = rw e
naive_set W outer g c false e = rw e

pub set_below : (culling : Bool) (W : World) (outer g : List ℕ) (c : ℕ) → set_at culling W outer g c < 64
unfolding set_at
set_below culling W outer g c = set_of_lt (side_drawn culling W outer g c)

-- ---- counting, cell by cell
pub quads_le : (set : ℕ) → quads_of set ≤ 6
quads_le set = count_le 6 (has set)

-- a face of the set is one of its quads
count_more : (p : ℕ → Bool) (k n : ℕ) → count k p ≤ count (k + n) p
unfolding count
count_more p k zero = rw add-zero (le_refl (count k p))
count_more p k (suc n) = rw add-suc (omega (arith, count_more p k n))

pub count_next : (p : ℕ → Bool) (k : ℕ) → p k ≡ true → count (suc k) p ≡ count k p + 1
unfolding count
count_next p k e = ap (λ (b : Bool). count k p + cond b 1 0) e

pub rank_most : (set f : ℕ) → f ≤ 6 → rank set f ≤ quads_of set
rank_most set f h =
    let all : f + (6 - f) ≡ 6 = omega arith in
    omega (arith, count_more (has set) f (6 - f), ap (λ (k : ℕ). count k (has set)) all)

pub rank_below : (set f : ℕ) → has set f ≡ true → f < 6 → rank set f + 1 ≤ quads_of set
rank_below set f e h = omega (arith, count_next (has set) f e, rank_most set (suc f) h)
