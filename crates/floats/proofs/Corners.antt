-- None of a cube's floats is a NaN. The unit, the padding and a tile's start are finite; high, low and a tile's end may be infinite.
-- Assumes nothing.
use mathlib.Core.Path.{refl}
use Prim.Native.Nat.{ℕ, ◌^◌, ◌-◌, ◌+◌, ◌*◌, ◌≤◌, ◌<◌}
use native.Mathlib.Nat.{le_trans, mul-le-mul_right}
use native.Mathlib.Omega.{arith}
use mathlib.Core.Bool.{Bool, true, false, cond}
use lib.IntN.{pos}
use lib.Dec.{T, lit≤, lit<}
use lib.Ieee.{Float, binary32, div, round, of_bits}
use Rattle.rules.specs.Floats as rules
use Rattle.rules.specs.Floats.{f32, one, two}
use Rattle.rules.specs.Cube.{high_of, low_of, unit_of, pad_of, start_of, end_of}
use Rattle.floats.proofs.Numbers.{Number, number, bits_finite, number_add, number_sub, sub_number, mul_number}
use Rattle.floats.proofs.Sizes.{Within, is_within, finite, largest, bits_within, over, div_within, mul_within, add_within, whole_within}

-- ---- numerals

one_within : Within 1 one
unfolding of_bits
one_within = is_within false 1 (pos 0) (lit≤ tt)

two_within : Within 2 two
unfolding of_bits
two_within = is_within false 1 (pos 1) (lit≤ tt)

zero_within : Within largest (f32 0)
unfolding of_bits
zero_within = is_within false 0 (pos 0) (lit≤ tt)

-- what some sizes round to, worked out: a sum of the largest `f32` and a tile's place does not overflow
largest_round : Within largest (round binary32 false largest 1)
unfolding round
largest_round = is_within false (2 ^ 24 - 1) (pos 104) (lit≤ tt)

one_round : Within 1 (round binary32 false 1 1)
unfolding round
one_round = is_within false 1 (pos 0) (lit≤ tt)

place_round : Within 4096 (round binary32 false (4096 * 1) 1)
unfolding round
place_round = is_within false 1 (pos 12) (lit≤ tt)

start_round : Within largest (round binary32 false (4096 + largest) 1)
unfolding round
start_round = is_within false (2 ^ 24 - 1) (pos 104) (lit≤ tt)

past_round : Within largest (round binary32 false (largest + 1) 1)
unfolding round
past_round = is_within false (2 ^ 24 - 1) (pos 104) (lit≤ tt)

-- ---- positions

half_within : (d : ℕ) → T (rules.finite d) → Within largest (div binary32 (f32 d) two)
unfolding of_bits
half_within d t = over largest largest 2 two (bits_within d t) (lit< tt) (refl, refl) largest_round

high_number : (d c : ℕ) → T (rules.finite d) → T (rules.finite c) → Number (high_of d c)
high_number d c t u = number_add (number (finite (half_within d t))) (bits_finite c u)

low_number : (d c : ℕ) → T (rules.finite d) → T (rules.finite c) → Number (low_of d c)
low_number d c t u = number_sub (high_number d c t u) (bits_finite d t)

pub corner_number : (high : Bool) (d c : ℕ) → T (rules.finite d) → T (rules.finite c) → Number (cond high (high_of d c) (low_of d c))
corner_number true = high_number
corner_number false = low_number

-- ---- texture

wider : (a b : ℕ) {x : Float} → a ≤ b → Within a x → Within b x
wider a b l (is_within s m e h) = is_within s m e (le_trans h (mul-le-mul_right _ l))

module _ (a n p : ℕ) (A : a < 4096) (N : 0 < n) (M : n ≤ 4096) (P : T (rules.finite p)) where
  unit_within : Within 1 (unit_of n)
  unit_within = div_within 1 1 n one_within N (omega arith) one_round

  pad_within : Within largest (pad_of p n)
  pad_within = div_within largest largest n (bits_within p P) N (omega arith) largest_round

  pub start_within : (named : Bool) → Within largest (start_of named a n p)
  start_within true = add_within 4096 largest largest (mul_within 4096 1 4096 (wider a 4096 (omega arith)
      (whole_within a (omega arith))) unit_within place_round) pad_within start_round
  start_within false = zero_within

  pub end_number : (named : Bool) → Number (end_of named a n p)
  end_number named = sub_number (finite (add_within largest 1 largest (start_within named) unit_within past_round))
      (mul_number (finite pad_within) (finite two_within))
