-- A fresh cube passes the class test exactly where it surrounds its centre: on each axis both sides are finite and low < centre ≤ high.
-- Assumes nothing.
use mathlib.Core.Option.{Option, some}
use mathlib.Core.Path.{◌≡◌, refl, sym, ◌∙◌, subst}
use mathlib.Core.Bool.{Bool, true, false, not, ◌&&◌, cond}
use mathlib.Core.List.{List}
use Prim.Native.Nat.{ℕ, zero, suc, ◌+◌, ◌*◌, ◌/◌, ◌%◌, ◌<◌}
use native.Mathlib.Nat.{zero-add}
use native.Mathlib.Omega.{arith}
use lib.Dec.{T, lit<}
use lib.Ieee.{Float, binary32, eq, lt}
use lib.Ieee.Fits.{add-fits, sub-fits, and_l, and_r, and_i}
use lib.Ieee.Bits.{of_bits-to_bits, is_true, is_false}
use lib.Ieee.Scale as scale
use borrow.Author.Tests.{lt-ltb}
use Rattle.rules.specs.Lists.{every, table}
use Rattle.rules.specs.Floats.{f32, finite, finite3}
use Rattle.rules.specs.Cells.{along, only_if}
use Rattle.rules.specs.Cube.{Shape, floats_of, corners, is_high, corner_word, cube_word, cube_words}
use Rattle.rules.specs.Types.{position_of, or_else, is_of, class_on, class_at, class_of, classed, is_cube}
use Rattle.floats.proofs.Numbers.{Finite, tells, bits_finite, finite_bits}
use Rattle.types.specs.Tests.{Placed}
use Rattle.types.specs.Fresh.{side_at, around, surrounds}
use Rattle.rules.proofs.Searches.{every_of}
use Rattle.rules.proofs.ListLaws.{length-table, get_d_table}
use Rattle.rules.proofs.Rows.{get_d_each}
use Rattle.voxel_mesh.proofs.Shapes.{few, finite_along}
use Rattle.types.proofs.Known.{placed}
use Rattle.types.proofs.Compared.{same, of_test, eq_self, eq_turned, differ}

holds : {a : Bool} → a ≡ true → T a
holds e = subst T (sym e) tt

-- ---- the class test on floats: P has each side on each axis, and c the centre

abbrev cls : ℕ → ℕ → Float → Float → Float → Float → Option ℕ
cls low high c x y z = only_if (eq x y && eq y z && eq x z) (cond (lt x c) low high)

module _ (P : Bool → ℕ → Float) (c : ℕ → Float) where
  abbrev on : ℕ → ℕ → ℕ → ℕ → ℕ → ℕ → Option ℕ
  on axis low high i j k = cls low high (c axis) (P (is_high i axis) axis) (P (is_high j axis) axis) (P (is_high k axis) axis)

  abbrev face : ℕ → ℕ → ℕ → Option ℕ
  face i j k = or_else (on 0 3 2 i j k) (or_else (on 1 1 0 i j k) (on 2 5 4 i j k))

  abbrev both : ℕ → Bool
  both n = is_of (face (4 * n) (4 * n + 1) (4 * n + 3)) n && is_of (face (4 * n + 2) (4 * n + 3) (4 * n + 1)) n

  abbrev all : Bool
  all = true && both 0 && both 1 && both 2 && both 3 && both 4 && both 5

-- what is known of an axis
record Axis (h l c : Float) : Type 0 where
  hh : eq h h ≡ true
  ll : eq l l ≡ true
  lc : lt l c ≡ true
  hc : lt h c ≡ false

module _ (P : Bool → ℕ → Float) (c : ℕ → Float) (x : Axis (P true 0) (P false 0) (c 0)) (y : Axis (P true 1) (P false 1) (c 1))
    (z : Axis (P true 2) (P false 2) (c 2))
    (hx : eq (P true 0) (P false 0) ≡ false) (lx : eq (P false 0) (P true 0) ≡ false) (hy : eq (P true 1) (P false 1) ≡ false)
    (ly : eq (P false 1) (P true 1) ≡ false) where
  all_pass : all P c ≡ true
  unfolding corners
  all_pass = simp (x.hh, x.ll, x.lc, x.hc, y.hh, y.ll, y.lc, y.hc, z.hh, z.ll, z.lc, z.hc, hx, lx, hy, ly)

-- ---- and back: what a face's class says of the centre

right_is : (t : Bool) → T (is_of (some (cond t 3 2)) 2) → t ≡ false
right_is true h = absurd h
right_is false h = refl

left_is : (t : Bool) → T (is_of (some (cond t 3 2)) 3) → t ≡ true
left_is true h = refl
left_is false h = absurd h

top_is : (e q t : Bool) → T (is_of (or_else (only_if e (cond q 3 2)) (some (cond t 1 0))) 0) → t ≡ false
top_is true true t h = absurd h
top_is true false t h = absurd h
top_is false q true h = absurd h
top_is false q false h = refl

bottom_is : (e q t : Bool) → T (is_of (or_else (only_if e (cond q 3 2)) (some (cond t 1 0))) 1) → (e ≡ false) × (t ≡ true)
bottom_is true true t h = absurd h
bottom_is true false t h = absurd h
bottom_is false q true h = (refl, refl)
bottom_is false q false h = absurd h

back_is : (e q g p t : Bool) → T (is_of (or_else (only_if e (cond q 3 2)) (or_else (only_if g (cond p 1 0)) (some (cond t 5 4)))) 4) → t ≡ false
back_is true true g p t h = absurd h
back_is true false g p t h = absurd h
back_is false q true true t h = absurd h
back_is false q true false t h = absurd h
back_is false q false p true h = absurd h
back_is false q false p false h = refl

forward_is : (e q g p t : Bool) → T (is_of (or_else (only_if e (cond q 3 2)) (or_else (only_if g (cond p 1 0)) (some (cond t 5 4)))) 5)
    → (g ≡ false) × (t ≡ true)
forward_is true true g p t h = absurd h
forward_is true false g p t h = absurd h
forward_is false q true true t h = absurd h
forward_is false q true false t h = absurd h
forward_is false q false p true h = (refl, refl)
forward_is false q false p false h = absurd h

module _ (P : Bool → ℕ → Float) (c : ℕ → Float) (hh : (axis : ℕ) → axis < 3
    → eq (P true axis) (P true axis) ≡ true) (ll : (axis : ℕ) → axis < 3 → eq (P false axis) (P false axis) ≡ true)
    (hl : (axis : ℕ) → axis < 3 → eq (P true axis) (P false axis) ≡ eq (P false axis) (P true axis)) (pass : T (all P c)) where
  firsts : T (both P c 0) × T (both P c 1) × T (both P c 2) × T (both P c 3) × T (both P c 4) × T (both P c 5)
  firsts =
      let a1 = true && both P c 0 in
      let a2 = a1 && both P c 1 in
      let a3 = a2 && both P c 2 in
      let a4 = a3 && both P c 3 in
      let a5 = a4 && both P c 4 in
      let t5 = and_l a5 (both P c 5) pass in
      let t4 = and_l a4 (both P c 4) t5 in
      let t3 = and_l a3 (both P c 3) t4 in
      let t2 = and_l a2 (both P c 2) t3 in (
        and_l a1 (both P c 1) t2,
        and_r a1 (both P c 1) t2,
        and_r a2 (both P c 2) t3,
        and_r a3 (both P c 3) t4,
        and_r a4 (both P c 4) t5,
        and_r a5 (both P c 5) pass,
      )

  one : (n : ℕ) → T (both P c n) → T (is_of (face P c (4 * n) (4 * n + 1) (4 * n + 3)) n)
  one n h = and_l (is_of (face P c (4 * n) (4 * n + 1) (4 * n + 3)) n) (is_of (face P c (4 * n + 2) (4 * n + 3) (4 * n + 1)) n) h

  x_axis : Axis (P true 0) (P false 0) (c 0)
  unfolding corners
  x_axis = record {
    hh = hh 0 (lit< tt);
    ll = ll 0 (lit< tt);
    lc = left_is (lt (P false 0) (c 0)) (simp (ll 0 (lit< tt)) at (one 3 firsts.3));
    hc = right_is (lt (P true 0) (c 0)) (simp (hh 0 (lit< tt)) at (one 2 firsts.2));
  }

  -- the corners of a triangle of Bottom are low, high and low on x, and those of one of Forward low, low and high on y
  bottom : (eq (P false 0) (P true 0) && eq (P true 0) (P false 0) && eq (P false 0) (P false 0) ≡ false) × (lt (P false 1) (c 1) ≡ true)
  unfolding corners
  bottom =
      bottom_is (eq (P false 0) (P true 0) && eq (P true 0) (P false 0) && eq (P false 0) (P false 0)) (lt (P false 0) (c 0))
      (lt (P false 1) (c 1)) (simp (ll 1 (lit< tt)) at (one 1 firsts.1))

  forward : (eq (P false 1) (P false 1) && eq (P false 1) (P true 1) && eq (P false 1) (P true 1) ≡ false) × (lt (P false 2) (c 2) ≡ true)
  unfolding corners
  forward =
      forward_is (eq (P true 0) (P false 0) && eq (P false 0) (P true 0) && eq (P true 0) (P true 0)) (lt (P true 0) (c 0))
      (eq (P false 1) (P false 1) && eq (P false 1) (P true 1) && eq (P false 1) (P true 1)) (lt (P false 1) (c 1)) (lt (P false 2)
      (c 2)) (simp (ll 2 (lit< tt)) at (one 5 firsts.5))

  y_axis : Axis (P true 1) (P false 1) (c 1)
  unfolding corners
  y_axis = record {
    hh = hh 1 (lit< tt);
    ll = ll 1 (lit< tt);
    lc = bottom.1;
    hc = top_is (eq (P false 0) (P true 0) && eq (P true 0) (P false 0) && eq (P false 0) (P false 0)) (lt (P false 0) (c 0))
        (lt (P true 1) (c 1)) (simp (hh 1 (lit< tt)) at (one 0 firsts.0));
  }

  z_axis : Axis (P true 2) (P false 2) (c 2)
  unfolding corners
  z_axis = record {
    hh = hh 2 (lit< tt);
    ll = ll 2 (lit< tt);
    lc = forward.1;
    hc =
        back_is (eq (P true 0) (P false 0) && eq (P false 0) (P true 0) && eq (P true 0) (P true 0)) (lt (P true 0) (c 0))
        (eq (P true 1) (P true 1) && eq (P true 1) (P false 1) && eq (P true 1) (P false 1)) (lt (P true 1) (c 1)) (lt (P true 2)
        (c 2)) (simp (hh 2 (lit< tt)) at (one 4 firsts.4));
  }

-- ---- the words of a cube's positions

corner_is : (b : Bool) (q : Shape) (axis : ℕ) → f32 (corner_word b (along q.d axis) (along q.centre axis)) ≡ side_at q b axis
unfolding corner_word
corner_is true q axis = of_bits-to_bits binary32 _ (add-fits binary32 _ _)
corner_is false q axis = of_bits-to_bits binary32 _ (sub-fits binary32 _ _)

module _ (q : Shape) (C : T (finite3 q.centre)) where
  abbrev n : ℕ
  n = floats_of q.coloured

  abbrev vs : List ℕ
  vs = cube_words q

  abbrev c : ℕ → Float
  c axis = f32 (along q.centre axis)

  word_is : (i axis : ℕ) → i < 24 → axis < 3 → f32 (position_of vs n i axis) ≡ side_at q (is_high i axis) axis
  unfolding cube_words cube_word
  word_is i axis I A =
      let below : axis < n = omega (arith, few q.coloured) in
      rw (
        get_d_each n (λ v. table n (cube_word q v)) (λ v. length-table (cube_word q v) n) 24 0 i axis I below,
        zero-add i,
        get_d_table (cube_word q i) n axis 0 below,
        lt-ltb axis 3 A,
      )
      (corner_is (is_high i axis) q axis)

  at_is : (axis low high i j k : ℕ) → axis < 3 → i < 24 → j < 24 → k < 24
      → class_at vs n q.centre axis low high i j k ≡ on (side_at q) c axis low high i j k
  unfolding class_at class_on
  at_is axis low high i j k A I J K = simp (word_is i axis I A, word_is j axis J A, word_is k axis K A)

  class_is : (i j k : ℕ) → i < 24 → j < 24 → k < 24 → class_of vs n q.centre i j k ≡ face (side_at q) c i j k
  unfolding class_of
  class_is i j k I J K = simp (at_is 0 3 2 i j k (lit< tt) I J K, at_is 1 1 0 i j k (lit< tt) I J K, at_is 2 5 4 i j k (lit< tt) I J K)

  classed_is : (f : ℕ) → f < 6 → classed vs n q.centre f ≡ both (side_at q) c f
  unfolding classed
  classed_is f F =
      simp (
        class_is (4 * f) (4 * f + 1) (4 * f + 3) (omega arith) (omega arith) (omega arith),
        class_is (4 * f + 2) (4 * f + 3) (4 * f + 1) (omega arith) (omega arith) (omega arith),
      )

  all_is : every 6 (classed vs n q.centre) ≡ all (side_at q) c
  unfolding every
  all_is = simp (
    classed_is 0 (lit< tt),
    classed_is 1 (lit< tt),
    classed_is 2 (lit< tt),
    classed_is 3 (lit< tt),
    classed_is 4 (lit< tt),
    classed_is 5 (lit< tt),
  )

  -- ---- the positions are finite exactly where the six sides are

  abbrev finite_at : ℕ → Bool
  finite_at k = finite (position_of vs n (k / 3) (k % 3))

  side_finite : Placed vs n → (i axis : ℕ) → i < 24 → axis < 3 → Finite (side_at q (is_high i axis) axis)
  side_finite p i axis I A = subst Finite (word_is i axis I A) (bits_finite (position_of vs n i axis) (p i axis I A))

  -- vertex 1 is high on each axis, and vertex 4 low
  sides_finite : Placed vs n → (b : Bool) (axis : ℕ) → axis < 3 → Finite (side_at q b axis)
  unfolding corners
  sides_finite p true zero A = side_finite p 1 0 (lit< tt) A
  sides_finite p true (suc zero) A = side_finite p 1 1 (lit< tt) A
  sides_finite p true (suc (suc zero)) A = side_finite p 1 2 (lit< tt) A
  sides_finite p false zero A = side_finite p 4 0 (lit< tt) A
  sides_finite p false (suc zero) A = side_finite p 4 1 (lit< tt) A
  sides_finite p false (suc (suc zero)) A = side_finite p 4 2 (lit< tt) A
  sides_finite p b (suc (suc (suc axis))) A = absurd (past axis A)
    where
      past : (k : ℕ) → suc (suc (suc k)) < 3 → ⊥
      past k h = omega arith

  all_placed : ((b : Bool) (axis : ℕ) → axis < 3 → Finite (side_at q b axis)) → T (every 72 finite_at)
  all_placed p =
      every_of 72 finite_at
      (λ k K. finite_bits (position_of vs n (k / 3) (k % 3)) (subst Finite (sym (word_is (k / 3) (k % 3) (omega arith) (omega arith)))
      (p (is_high (k / 3) (k % 3)) (k % 3) (omega arith))))

  -- ---- both ways

  passes→surrounds : T (is_cube vs n q.centre) → T (surrounds q)
  unfolding is_cube surrounds around
  passes→surrounds h =
      let fin = sides_finite (placed vs n (and_l (every 72 finite_at) (every 6 (classed vs n q.centre)) h)) in
      let hh : (axis : ℕ) → axis < 3 → eq (side_at q true axis) (side_at q true axis) ≡ true = λ axis A. eq_self (fin true axis A) in
      let ll : (axis : ℕ) → axis < 3 → eq (side_at q false axis) (side_at q false axis) ≡ true = λ axis A. eq_self (fin false axis A) in
      let hl : (axis : ℕ) → axis < 3 → eq (side_at q true axis) (side_at q false axis) ≡ eq (side_at q false axis) (side_at q true axis) =
      λ axis A. eq_turned (fin true axis A) (fin false axis A) in
      let pass = subst T all_is (and_r (every 72 finite_at) (every 6 (classed vs n q.centre)) h) in
      let x = x_axis (side_at q) c hh ll hl pass in
      let y = y_axis (side_at q) c hh ll hl pass in
      let z = z_axis (side_at q) c hh ll hl pass in
      let f2 : (b : Bool) (axis : ℕ) → axis < 3 → scale.finite (side_at q b axis) ≡ true = λ b axis A. is_true _ (tells (fin b axis A)) in
      holds {a = surrounds q}
      (simp (
        f2 true 0 (lit< tt),
        f2 false 0 (lit< tt),
        f2 true 1 (lit< tt),
        f2 false 1 (lit< tt),
        f2 true 2 (lit< tt),
        f2 false 2 (lit< tt),
        x.lc,
        x.hc,
        y.lc,
        y.hc,
        z.lc,
        z.hc,
      ))

  record Around (axis : ℕ) : Type 0 where
    high : Finite (side_at q true axis)
    low : Finite (side_at q false axis)
    lc : lt (side_at q false axis) (c axis) ≡ true
    hc : lt (side_at q true axis) (c axis) ≡ false

  around_is : (axis : ℕ) → T (around q axis) → Around axis
  unfolding around
  around_is axis t =
      let a = scale.finite (side_at q true axis) in
      let b = scale.finite (side_at q false axis) in
      let d = lt (side_at q false axis) (c axis) in
      let e = not (lt (side_at q true axis) (c axis)) in
      let u = and_l (a && b && d) e t in
      record {
        high = of_test (side_at q true axis) (and_l a b (and_l (a && b) d u));
        low = of_test (side_at q false axis) (and_r a b (and_l (a && b) d u));
        lc = is_true d (and_r (a && b) d u);
        hc = is_false (lt (side_at q true axis) (c axis)) (and_r (a && b && d) e t);
      }

  axis_of : (axis : ℕ) → Around axis → Axis (side_at q true axis) (side_at q false axis) (c axis)
  axis_of axis r = record { hh = eq_self r.high; ll = eq_self r.low; lc = r.lc; hc = r.hc }

  low_high : (axis : ℕ) → Around axis → eq (side_at q false axis) (side_at q true axis) ≡ false
  low_high axis r = differ r.low r.high (bits_finite _ (finite_along q.centre C axis)) r.lc r.hc

  high_low : (axis : ℕ) → Around axis → eq (side_at q true axis) (side_at q false axis) ≡ false
  high_low axis r = eq_turned r.high r.low ∙ low_high axis r

  pub surrounds→passes : T (surrounds q) → T (is_cube vs n q.centre)
  unfolding is_cube surrounds
  surrounds→passes h =
      let a0 = around q 0 in
      let a1 = around q 1 in
      let a2 = around q 2 in
      let x = around_is 0 (and_l a0 a1 (and_l (a0 && a1) a2 h)) in
      let y = around_is 1 (and_r a0 a1 (and_l (a0 && a1) a2 h)) in
      let z = around_is 2 (and_r (a0 && a1) a2 h) in
      and_i (every 72 finite_at) (every 6 (classed vs n q.centre)) (all_placed (finite_side x y z))
      (holds (all_is ∙ all_pass (side_at q) c (axis_of 0 x) (axis_of 1 y) (axis_of 2 z) (high_low 0 x) (low_high 0 x) (high_low 1 y)
      (low_high 1 y)))
    where
      past : (k : ℕ) → suc (suc (suc k)) < 3 → ⊥
      past k h = omega arith

      finite_side : Around 0 → Around 1 → Around 2 → (b : Bool) (axis : ℕ) → axis < 3 → Finite (side_at q b axis)
      finite_side x y z true zero A = x.high
      finite_side x y z true (suc zero) A = y.high
      finite_side x y z true (suc (suc zero)) A = z.high
      finite_side x y z false zero A = x.low
      finite_side x y z false (suc zero) A = y.low
      finite_side x y z false (suc (suc zero)) A = z.low
      finite_side x y z b (suc (suc (suc axis))) A = absurd (past axis A)

  pub fresh : is_cube vs n q.centre ≡ surrounds q
  fresh = same (is_cube vs n q.centre) (surrounds q) passes→surrounds surrounds→passes
