-- Which results are numbers: what is read from finite bits is finite, and sums, products and quotients of finite values are no NaN.
-- Assumes nothing.
use mathlib.Core.Path.{◌≡◌, subst}
use Prim.Native.Nat.{ℕ, zero, suc, ◌+◌, ◌-◌, ◌*◌, ◌/◌, ◌%◌, ◌^◌, ◌≤◌, ◌<◌}
use native.Mathlib.Omega.{arith}
use mathlib.Core.Bool.{Bool, true, false, not, ◌&&◌, beq, cond}
use lib.IntN.{ℤ, pos}
use lib.Dec.{T, leb, ltb, eqb, ltb→lt, lt→ltb}
use borrow.Author.Tests.{ne_eqb, le-ltb}
use lib.Ieee.{Float, nan, inf, fin, Format, binary32, prec, emax, low, unlike, up, down, hid, odd, units, round, neg, sum, add, sub, mul}
use lib.Ieee.{of_int, of_fields, of_bits, nan_bits, is_nan}
use lib.Ieee.Fits.{round_is}
use lib.Ieee.Bits.{nan_bits_above}
use lib.Ieee.Scale as scale
use lib.Ieee.Exact.{HasValue}
use lib.Ieee.Back.{round_whole}
use Rattle.rules.specs.Floats.{finite}

-- finite; and no NaN
pub data Finite : Float → Type 0 where
  is_fin : (s : Bool) (m : ℕ) (e : ℤ) → Finite (fin s m e)

pub data Number : Float → Type 0 where
  a_fin : (s : Bool) (m : ℕ) (e : ℤ) → Number (fin s m e)
  an_inf : (s : Bool) → Number (inf s)

pub number : {x : Float} → Finite x → Number x
number (is_fin s m e) = a_fin s m e

-- as a test
pub tells : {x : Float} → Finite x → T (scale.finite x)
tells (is_fin s m e) = tt

-- what `to_bits` asks
pub no_nan : {x : Float} → Number x → T (not (is_nan x))
unfolding is_nan
no_nan (a_fin s m e) = tt
no_nan (an_inf s) = tt

-- ---- what is read from bits

odd_finite : (d : ℕ) (s : Bool) (q k l : ℕ) → Finite (odd d s q k l)
unfolding odd
odd_finite d s zero k l = is_fin _ _ _
odd_finite d s (suc q) k l = is_fin _ _ _

fields_finite : (s : Bool) (x t : ℕ) → x < 255 → Finite (of_fields binary32 s x t)
unfolding of_fields
fields_finite s zero t h = odd_finite 24 s t 0 149
fields_finite s (suc x) t h = rw (ne_eqb (suc x) 255 (λ e. omega arith)) (odd_finite 24 s (hid binary32 + t) x 149)

pub bits_finite : (b : ℕ) → T (finite b) → Finite (of_bits binary32 b)
unfolding of_bits
bits_finite b t =
    let h : b % 0x8000_0000 < 0x7f80_0000 = ltb→lt _ _ t in
    let g : b % 0x8000_0000 / 0x80_0000 < 255 = omega arith in
    fields_finite _ _ _ g

-- what `from_bits` asks
pub no_nan_bits : (b : ℕ) → T (finite b) → T (not (nan_bits binary32 b))
no_nan_bits b t =
    let h : b % 0x8000_0000 < 0x7f80_0000 = ltb→lt _ _ t in
    rw (nan_bits_above, le-ltb 0x7f80_0000 (b % 0x8000_0000) (omega arith)) tt

pub field_finite : (b : ℕ) → (b / 0x80_0000 % 256 ≡ 255 → ⊥) → T (finite b)
field_finite b n = let h : b % 0x8000_0000 < 0x7f80_0000 = omega arith in lt→ltb (b % 0x8000_0000) 0x7f80_0000 h

-- and back: bits that are read as a finite value are finite
pub finite_bits : (b : ℕ) → Finite (of_bits binary32 b) → T (finite b)
unfolding of_bits
finite_bits b k = field_finite b (λ e. all_ones (leb 0x8000_0000 b) (b % 0x8000_0000 / 0x80_0000) (b % 0x80_0000) (omega arith) (tells k))
  where
    either : (s c : Bool) → T (scale.finite (cond c (inf s) nan)) → ⊥
    either s true t = t
    either s false t = t

    all_ones : (s : Bool) (x t : ℕ) → x ≡ 255 → T (scale.finite (of_fields binary32 s x t)) → ⊥
    all_ones s x t e k = either s (eqb t 0) (subst (λ (y : ℕ). T (scale.finite (of_fields binary32 s y t))) e k)

-- ---- operations

cond_number : {x y : Float} (b : Bool) → Number x → Number y → Number (cond b x y)
cond_number true h k = h
cond_number false h k = k

units_number : (f : Format) (s : Bool) (q k : ℕ) → Number (units f s q k)
unfolding units
units_number f s q k = cond_number (ltb (q * 2 ^ k) (2 ^ (low f + suc (emax f)))) (number (odd_finite (suc (prec f)) s q k (low f)))
    (an_inf s)

pub round_number : (f : Format) (s : Bool) (a c : ℕ) → Number (round f s a c)
round_number f s a c = rw round_is (units_number f s _ _)

sum_number : (f : Format) (s : Bool) (a : ℕ) (t : Bool) (b c : ℕ) → Number (sum f s a t b c)
unfolding sum
sum_number f s a t b c =
    cond_number (beq s t) (round_number f s (a + b) c) (cond_number (ltb a b) (round_number f t (b - a) c)
    (round_number f (s && ltb b a) (a - b) c))

-- a sum or a difference is no NaN where one side is finite and the other is no NaN
pub add_number : {x y : Float} → Finite x → Number y → Number (add binary32 x y)
unfolding add
add_number (is_fin s m e) (an_inf t) = an_inf t
add_number (is_fin s m e) (a_fin t n d) = sum_number binary32 s (m * up e * down d) t (n * up d * down e) (down e * down d)

pub number_add : {x y : Float} → Number x → Finite y → Number (add binary32 x y)
unfolding add
number_add (an_inf s) (is_fin t n d) = an_inf s
number_add (a_fin s m e) (is_fin t n d) = sum_number binary32 s (m * up e * down d) t (n * up d * down e) (down e * down d)

pub sub_number : {x y : Float} → Finite x → Number y → Number (sub binary32 x y)
unfolding sub neg
sub_number h (an_inf t) = add_number h (an_inf (not t))
sub_number h (a_fin t n d) = add_number h (a_fin (not t) n d)

pub number_sub : {x y : Float} → Number x → Finite y → Number (sub binary32 x y)
unfolding sub neg
number_sub h (is_fin t n d) = number_add h (is_fin (not t) n d)

-- a product of two finite values is no NaN
pub mul_number : {x y : Float} → Finite x → Finite y → Number (mul binary32 x y)
unfolding mul
mul_number (is_fin s m e) (is_fin t n d) = round_number binary32 (unlike s t) (m * up e * (n * up d)) (down e * down d)

-- ---- whole numbers

value_finite : (x : Float) (s : Bool) (a c : ℕ) → HasValue x s a c → Finite x
value_finite nan s a c v = absurd v
value_finite (inf t) s a c v = absurd v
value_finite (fin t m e) s a c v = is_fin t m e

pub whole_finite : (n : ℕ) → n ≤ 2 ^ 24 → Finite (of_int binary32 (pos n))
unfolding of_int
whole_finite n h = value_finite (round binary32 false n 1) false n 1 (round_whole binary32 false n h)
