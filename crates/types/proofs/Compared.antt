-- Floats compared: `==` on finite ones is the same way round, and what equals one side of `<` can stand for it. Assumes nothing.
use mathlib.Core.Path.{◌≡◌, refl, sym, ap, ◌∙◌, subst}
use mathlib.Core.Bool.{Bool, true, false, ◌||◌, beq}
use Prim.Native.Nat.{ℕ, zero, suc, ◌+◌, ◌*◌, ◌<◌}
use native.Mathlib.Nat.{zero-add, mul_right_comm, mul-pos, zero-mul, mul-lt-mul_of_pos_right, lt_of_mul-lt-mul_right, lt_irrefl}
use native.Mathlib.Omega.{arith}
use lib.Dec.{T, eqb, eqb→eq, eqb_refl, ltb→lt, lt→ltb}
use lib.Ieee.{Float, nan, inf, fin, up, down, level, below, eq, lt}
use lib.Ieee.Fits.{down_pos, and_l, and_r, and_i}
use lib.Ieee.Bits.{is_true}
use lib.Ieee.Scale.{finite}
use Rattle.floats.proofs.Numbers.{Finite, is_fin}

pub same : (a b : Bool) → (T a → T b) → (T b → T a) → a ≡ b
same true true g h = refl
same true false g h = absurd (g tt)
same false true g h = absurd (h tt)
same false false g h = refl

pub of_test : (x : Float) → T (finite x) → Finite x
of_test nan t = absurd t
of_test (inf s) t = absurd t
of_test (fin s m e) t = is_fin s m e

pub eq_self : {x : Float} → Finite x → eq x x ≡ true
unfolding eq
eq_self (is_fin true m e) = is_true _ (and_i (eqb (m * up e * down e) (m * up e * down e)) true (eqb_refl (m * up e * down e)) tt)
eq_self (is_fin false m e) = is_true _ (and_i (eqb (m * up e * down e) (m * up e * down e)) true (eqb_refl (m * up e * down e)) tt)

turned : (s t c : Bool) → T (beq s t || c) → T (beq t s || c)
turned true true c h = tt
turned true false c h = h
turned false true c h = h
turned false false c h = tt

level_turned : (s : Bool) (a : ℕ) (t : Bool) (b : ℕ) → T (level s a t b) → T (level t b s a)
level_turned s a t b h =
    let e : a ≡ b = eqb→eq a b (and_l (eqb a b) (beq s t || eqb a 0) h) in
    subst (λ (x : ℕ). T (level t x s a)) e
    (and_i (eqb a a) (beq t s || eqb a 0) (eqb_refl a) (turned s t (eqb a 0) (and_r (eqb a b) (beq s t || eqb a 0) h)))

pub eq_turned : {x y : Float} → Finite x → Finite y → eq x y ≡ eq y x
unfolding eq
eq_turned (is_fin s m e) (is_fin t n d) =
    let a : ℕ = m * up e * down d in
    let b : ℕ = n * up d * down e in
    same (level s a t b) (level t b s a) (level_turned s a t b) (level_turned t b s a)

-- ---- a, b and c stand over p, q and r: a / p and b / q are equal in size, and a / p < c / r

carried : (a b c p q r : ℕ) → 0 < p → 0 < q → a * q ≡ b * p → a * r < c * p → b * r < c * q
carried a b c p q r P Q e h =
    let l : a * r * q ≡ b * r * p = mul_right_comm a r q ∙ ap (λ (x : ℕ). x * r) e ∙ mul_right_comm b p r in
    lt_of_mul-lt-mul_right p (rw (← l, mul_right_comm c q p) (mul-lt-mul_of_pos_right h Q))

back : (a b c p q r : ℕ) → 0 < p → 0 < q → a * q ≡ b * p → c * p < a * r → c * q < b * r
back a b c p q r P Q e h =
    let l : a * r * q ≡ b * r * p = mul_right_comm a r q ∙ ap (λ (x : ℕ). x * r) e ∙ mul_right_comm b p r in
    lt_of_mul-lt-mul_right p (rw (← l, mul_right_comm c q p) (mul-lt-mul_of_pos_right h Q))

nothing : (a q : ℕ) → 0 < q → a * q ≡ 0 → a ≡ 0
nothing zero q Q e = refl
nothing (suc a) q Q e = absurd (lt_irrefl 0 (subst (λ (n : ℕ). 0 < n) e (mul-pos (some a) Q)))
  where
    some : (a : ℕ) → 0 < suc a
    some a = omega arith

-- a number that is not nothing stays so over another
some_of : (a b c p q r : ℕ) → 0 < p → 0 < q → 0 < r → a * q ≡ b * p → 0 < a * r + c * p → 0 < b * r + c * q
some_of a zero zero p q r P Q R e h = let z : a ≡ 0 = nothing a q Q (e ∙ zero-mul p) in absurd (lt_irrefl 0 (simp (z, zero-mul) at h))
some_of a zero (suc c) p q r P Q R e h = omega (arith, mul-pos {m = suc c} {n = q} (omega arith) Q)
some_of a (suc b) c p q r P Q R e h = omega (arith, mul-pos {m = suc b} {n = r} (omega arith) R)

below_carried : (s t u : Bool) (a b c p q r : ℕ) → 0 < p → 0 < q → 0 < r → a * q ≡ b * p → T (beq s t || eqb (a * q) 0)
    → T (below s (a * r) u (c * p)) → T (below t (b * r) u (c * q))
below_carried false false false a b c p q r P Q R e l h = lt→ltb _ _ (carried a b c p q r P Q e (ltb→lt _ _ h))
below_carried true true true a b c p q r P Q R e l h = lt→ltb _ _ (back a b c p q r P Q e (ltb→lt _ _ h))
below_carried true true false a b c p q r P Q R e l h = lt→ltb _ _ (some_of a b c p q r P Q R e (ltb→lt _ _ h))
below_carried false true false a b c p q r P Q R e l h =
    let g = ltb→lt (a * r) (c * p) h in lt→ltb _ _ (some_of a b c p q r P Q R e (omega arith))
below_carried true false false a b c p q r P Q R e l h =
    let z : b ≡ 0 = nothing b p P (sym e ∙ eqb→eq (a * q) 0 l) in
    let g = some_of a b c p q r P Q R e (ltb→lt _ _ h) in
    lt→ltb (b * r) (c * q) (rw (z, zero-mul) (simp (z, zero-mul, zero-add) at g))
below_carried true false true a b c p q r P Q R e l h =
    let z : a ≡ 0 = nothing a q Q (eqb→eq (a * q) 0 l) in
    let g = ltb→lt (c * p) (a * r) h in absurd (no_less (c * p) (simp (z, zero-mul) at g))
  where
    no_less : (n : ℕ) → n < 0 → ⊥
    no_less n h = omega arith
below_carried false false true a b c p q r P Q R e l h = elim h [ ]
below_carried false true true a b c p q r P Q R e l h = elim h [ ]

lt_carried : {x y z : Float} → Finite x → Finite y → Finite z → T (eq x y) → T (lt x z) → T (lt y z)
unfolding eq lt
lt_carried (is_fin s m e) (is_fin t n d) (is_fin u k g) l h =
    let a : ℕ = m * up e * down d in
    let b : ℕ = n * up d * down e in
    below_carried s t u (m * up e) (n * up d) (k * up g) (down e) (down d) (down g) (down_pos e) (down_pos d) (down_pos g)
    (eqb→eq a b (and_l (eqb a b) (beq s t || eqb a 0) l)) (and_r (eqb a b) (beq s t || eqb a 0) l) h

-- low < centre ≤ high: so low and high differ
pub differ : {l h c : Float} → Finite l → Finite h → Finite c → lt l c ≡ true → lt h c ≡ false → eq l h ≡ false
differ {l} {h} {c} L H C lc hc = go (eq l h) (λ t. subst T hc (lt_carried L H C t (subst T (sym lc) tt)))
  where
    go : (b : Bool) → (T b → ⊥) → b ≡ false
    go true n = absurd (n tt)
    go false n = refl
