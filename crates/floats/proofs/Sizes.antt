-- How large a result can be: x is `Within b` where it is finite and its size is at most b. So no sum here overflows where the sizes say
-- so. Assumes nothing.
use mathlib.Core.Path.{◌≡◌, sym, ap, ◌∙◌, subst}
use Prim.Native.Nat.{ℕ, zero, suc, ◌+◌, ◌-◌, ◌*◌, ◌%◌, ◌^◌, ◌≤◌, ◌<◌, zero-le}
use native.Mathlib.Nat.{le_trans, le_of_eq, le_of_lt, mul-le-mul, mul-le-mul_right, lt_of_mul-lt-mul_right, le_of_mul-le-mul_right}
use native.Mathlib.Nat.{mul_assoc, mul_comm, mul_left_comm, mul_right_comm, mul-pos, mul-one, one-mul, zero-mul, add-mul, lt_of_lt_of_le}
use native.Mathlib.Nat.{lt_irrefl, zero-lt-suc}
use native.Mathlib.Omega.{arith}
use mathlib.Core.Bool.{Bool, true, false, not, ◌&&◌, ◌||◌, beq, cond}
use lib.IntN.{ℤ, pos, negsuc}
use lib.Dec.{T, leb, ltb, eqb, ltb→lt, leb→le, nleb→lt, eqb→eq, lit≤}
use lib.Pow.{pow_pos, pow_mono, pow-add}
use borrow.Author.Tests.{ne_eqb}
use lib.Ieee.{Float, nan, inf, fin, Format, binary32, prec, emax, low, unlike, up, down, odd, units, round, sum, add, mul, div, of_int}
use lib.Ieee.{of_bits, fits, le}
use lib.Ieee.Fits.{round_is, down_pos, and_l, and_r}
use lib.Ieee.Bits.{of_bits-fits}
use lib.Ieee.Exact.{HasValue}
use lib.Ieee.Back.{round_whole}
use lib.Ieee.Order.{round_mono}
use Rattle.rules.specs.Floats as rules
use Rattle.floats.proofs.Numbers.{Finite, is_fin, bits_finite}

pub data Within (b : ℕ) : Float → Type 0 where
  is_within : (s : Bool) (m : ℕ) (e : ℤ) → m * up e ≤ b * down e → Within b (fin s m e)

pub finite : {b : ℕ} {x : Float} → Within b x → Finite x
finite (is_within s m e h) = is_fin s m e

-- ---- `round` keeps the order, and the sign does not count

-- not negative
data Plus : Float → Type 0 where
  plus_fin : (m : ℕ) (e : ℤ) → Plus (fin false m e)
  plus_inf : Plus (inf false)

odd_plus : (d q k l : ℕ) → Plus (odd d false q k l)
unfolding odd
odd_plus d zero k l = plus_fin _ _
odd_plus d (suc q) k l = plus_fin _ _

cond_plus : {x y : Float} (b : Bool) → Plus x → Plus y → Plus (cond b x y)
cond_plus true h k = h
cond_plus false h k = k

units_plus : (f : Format) (q k : ℕ) → Plus (units f false q k)
unfolding units
units_plus f q k = cond_plus (ltb (q * 2 ^ k) (2 ^ (low f + suc (emax f)))) (odd_plus (suc (prec f)) q k (low f)) plus_inf

round_plus : (f : Format) (a c : ℕ) → Plus (round f false a c)
round_plus f a c = rw round_is (units_plus f _ _)

odd_sign : (b : ℕ) (d : ℕ) (s : Bool) (q k l : ℕ) → Within b (odd d false q k l) → Within b (odd d s q k l)
unfolding odd
odd_sign b d s zero k l (is_within t m e h) = is_within s m e h
odd_sign b d s (suc q) k l (is_within t m e h) = is_within s m e h

units_sign : (b : ℕ) (f : Format) (s : Bool) (q k : ℕ) → Within b (units f false q k) → Within b (units f s q k)
unfolding units
units_sign b f s q k = go (ltb (q * 2 ^ k) (2 ^ (low f + suc (emax f))))
  where
    go : (t : Bool) → Within b (cond t (odd (suc (prec f)) false q k (low f)) (inf false))
        → Within b (cond t (odd (suc (prec f)) s q k (low f)) (inf s))
    go true w = odd_sign b (suc (prec f)) s q k (low f) w
    go false w = elim w [ ]

round_sign : (b : ℕ) (f : Format) (s : Bool) (a c : ℕ) → Within b (round f false a c) → Within b (round f s a c)
round_sign b f s a c w = rw round_is (units_sign b f s _ _ (rw round_is at w))

of_or : (a b : ℕ) (t : Bool) → T (ltb a b || (eqb a b && t)) → a ≤ b
of_or a b t h = go (ltb a b) (eqb a b) (ltb→lt a b) (eqb→eq a b) h
  where
    go : (x y : Bool) → (T x → a < b) → (T y → a ≡ b) → T (x || (y && t)) → a ≤ b
    go true y l e h = le_of_lt (l tt)
    go false true l e h = le_of_eq (e tt)
    go false false l e h = absurd h

cross : (x y b de dd : ℕ) → 0 < dd → x * dd ≤ y * de → y ≤ b * dd → x ≤ b * de
cross x y b de dd p h k =
    le_of_mul-le-mul_right (le_trans h (le_trans (mul-le-mul_right de k) (le_of_eq (mul_right_comm b dd de)))) p

below : {b : ℕ} {x y : Float} → Plus x → Plus y → T (le x y) → Within b y → Within b x
unfolding le
below (plus_fin m e) (plus_fin n d) t (is_within s n' d' k) =
    is_within false m e (cross (m * up e) (n * up d) _ (down e) (down d) (down_pos d) (of_or (m * up e * down d)
    (n * up d * down e) true t) k)
below plus_inf (plus_fin n d) t w = absurd t
below {b = b} (plus_fin m e) plus_inf t w = elim w [ ]
below {b = b} plus_inf plus_inf t w = elim w [ ]

-- what is at most b rounds to what b rounds to, at most
round_within : (s : Bool) (a c b top : ℕ) → 0 < c → a ≤ b * c → Within top (round binary32 false b 1) → Within top (round binary32 s a c)
round_within s a c b top p h w =
    round_sign top binary32 s a c
    (below (round_plus binary32 a c) (round_plus binary32 b 1) (round_mono binary32 a c b 1 p (zero-lt-suc 0) (rw mul-one h)) w)

-- ---- every finite `f32` is within the largest one

-- 0x7f7f_ffff: 24 ones, times 2 ^ 104
abbrev pub largest : ℕ
largest = (2 ^ 24 - 1) * 2 ^ 104

at_exponent : (m k : ℕ) → m < 2 ^ 24 → m * 2 ^ k < 2 ^ 24 * 2 ^ 104 → m * 2 ^ k ≤ largest
at_exponent m k a b = go (leb k 104) (leb→le k 104) (nleb→lt k 104)
  where
    small : (y : ℕ) → y < 2 ^ 24 → y ≤ 2 ^ 24 - 1
    small y h = omega arith

    go : (t : Bool) → (T t → k ≤ 104) → (T (not t) → 104 < k) → m * 2 ^ k ≤ largest
    go true l g = mul-le-mul (small m a) (pow_mono (l tt))
    go false l g =
        let h : 104 < k = g tt in
        let e : m * 2 ^ k ≡ m * 2 ^ (k - 104) * 2 ^ 104 = sym (mul_assoc m (2 ^ (k - 104)) (2 ^ 104)
        ∙ ap (λ (x : ℕ). m * x) (sym (pow-add 2 (k - 104) 104) ∙ ap (λ (x : ℕ). 2 ^ x) (omega arith))) in
        rw e (mul-le-mul_right (2 ^ 104) (small (m * 2 ^ (k - 104)) (lt_of_mul-lt-mul_right (2 ^ 104) (rw e at b))))

fits_within : (x : Float) → Finite x → T (fits binary32 x) → Within largest x
unfolding fits
fits_within (fin s zero e) f t = is_within s zero e (rw zero-mul zero-le)
fits_within (fin s (suc m) (pos k)) f t =
    let a : Bool = eqb (suc m % 2) 1 in
    let b : Bool = ltb (suc m) (2 ^ 24) in
    let c : Bool = leb 1 (2 ^ 149) in
    let d : Bool = ltb (suc m * 2 ^ k) (2 ^ 128 * 1) in
    is_within s (suc m) (pos k)
    (rw mul-one
    (at_exponent (suc m) k (ltb→lt (suc m) (2 ^ 24) (and_r a b (and_l (a && b) c (and_l (a && b && c) d t)))) (ltb→lt (suc m * 2 ^ k)
    (2 ^ 128 * 1) (and_r (a && b && c) d t))))
fits_within (fin s (suc m) (negsuc k)) f t =
    let a : Bool = eqb (suc m % 2) 1 in
    let b : Bool = ltb (suc m) (2 ^ 24) in
    let c : Bool = leb (2 ^ suc k) (2 ^ 149) in
    let d : Bool = ltb (suc m * 1) (2 ^ 128 * 2 ^ suc k) in
    let h : suc m < 2 ^ 24 = ltb→lt (suc m) (2 ^ 24) (and_r a b (and_l (a && b) c (and_l (a && b && c) d t))) in
    is_within s (suc m) (negsuc k) (mul-le-mul (le_trans (le_of_lt h) (lit≤ tt)) (pow_pos (suc k)))
fits_within nan f t = elim f [ ]
fits_within (inf _) f t = elim f [ ]

pub bits_within : (b : ℕ) → T (rules.finite b) → Within largest (of_bits binary32 b)
bits_within b t = fits_within (of_bits binary32 b) (bits_finite b t) (of_bits-fits binary32 b)

-- ---- the operations

regroup : (a b x y : ℕ) → a * x * (b * y) ≡ a * b * (x * y)
regroup a b x y = simp (mul_assoc, mul_left_comm)

turned : (a x y : ℕ) → a * x * y ≡ a * (y * x)
turned a x y = simp (mul_assoc, mul_comm)

pub mul_within : (a b top : ℕ) {x y : Float} → Within a x → Within b y → Within top (round binary32 false (a * b) 1)
    → Within top (mul binary32 x y)
unfolding mul
mul_within a b top (is_within s m e h) (is_within t n d k) w =
    round_within (unlike s t) (m * up e * (n * up d)) (down e * down d) (a * b) top (mul-pos (down_pos e) (down_pos d))
    (le_trans (mul-le-mul h k) (le_of_eq (regroup a b (down e) (down d)))) w

pub add_within : (a b top : ℕ) {x y : Float} → Within a x → Within b y → Within top (round binary32 false (a + b) 1)
    → Within top (add binary32 x y)
unfolding add sum
add_within a b top (is_within s m e h) (is_within t n d k) w =
    let p : ℕ = m * up e * down d in
    let q : ℕ = n * up d * down e in
    let c : ℕ = down e * down d in
    let p≤ : p ≤ a * c = le_trans (mul-le-mul_right (down d) h) (le_of_eq (mul_assoc a (down e) (down d))) in
    let q≤ : q ≤ b * c = le_trans (mul-le-mul_right (down e) k) (le_of_eq (turned b (down d) (down e))) in
    let all : a * c + b * c ≡ (a + b) * c = sym (add-mul a b c) in
    let C : 0 < c = mul-pos (down_pos e) (down_pos d) in
    cond_within (beq s t) (round_within s (p + q) c (a + b) top C (omega (arith, all)) w)
    (cond_within (ltb p q) (round_within t (q - p) c (a + b) top C (omega (
      arith,
      all,
    )) w) (round_within (s && ltb q p) (p - q) c (a + b) top C (omega (arith, all)) w))
  where
    cond_within : {x y : Float} (b : Bool) → Within top x → Within top y → Within top (cond b x y)
    cond_within true h k = h
    cond_within false h k = k

-- a quotient by a whole number from 1 on is no larger than what is divided
pub over : (a top n : ℕ) {x : Float} (y : Float) → Within a x → 0 < n → HasValue y false n 1 → Within top (round binary32 false a 1)
    → Within top (div binary32 x y)
unfolding div
over a top n nan h p v w = absurd v
over a top n (inf t) h p v w = absurd v
over a top n (fin t k d) (is_within s m e h) p v w =
    let D : down d ≤ k * up d = le_trans (le_trans (le_of_eq (sym (one-mul (down d)))) (mul-le-mul_right (down d) p))
    (le_of_eq (sym v.1 ∙ mul-one (k * up d))) in
    let P : 0 < k * up d = lt_of_lt_of_le (down_pos d) D in
    let z : eqb k 0 ≡ false = ne_eqb k 0 (λ q. lt_irrefl 0 (subst (λ (j : ℕ). 0 < j) (ap (λ (j : ℕ). j * up d) q ∙ zero-mul (up d)) P)) in
    rw z
    (round_within (unlike s t) (m * up e * down d) (k * up d * down e) a top (mul-pos P (down_pos e))
    (le_trans (mul-le-mul h D) (le_of_eq (turned a (down e) (k * up d)))) w)

pub div_within : (a top : ℕ) {x : Float} (n : ℕ) → Within a x → 0 < n → n ≤ 2 ^ 24 → Within top (round binary32 false a 1)
    → Within top (div binary32 x (of_int binary32 (pos n)))
unfolding of_int
div_within a top n h p l w = over a top n (round binary32 false n 1) h p (round_whole binary32 false n l) w

pub whole_within : (n : ℕ) → n ≤ 2 ^ 24 → Within n (of_int binary32 (pos n))
unfolding of_int
whole_within n l = go (round binary32 false n 1) (round_whole binary32 false n l)
  where
    go : (x : Float) → HasValue x false n 1 → Within n x
    go nan v = absurd v
    go (inf t) v = absurd v
    go (fin t m e) v = is_within t m e (le_of_eq (sym (mul-one (m * up e)) ∙ v.1))
