-- A product in place of a division. Assumes nothing.
use mathlib.Core.Path.{◌≡◌, sym, ap, ◌∙◌}
use Prim.Native.Nat.{ℕ, ◌+◌, ◌-◌, ◌*◌, ◌/◌, ◌%◌, ◌≤◌, ◌<◌}
use native.Mathlib.Omega.{arith}
use native.Mathlib.Nat.{mul-le-mul_left, mul-le-mul_right, mod-lt, mul_comm, mul_assoc, add-mul, mul-add, suc-mul, div-add-mod'}
use lib.Arith.{digits_div}
use Rattle.util.specs.Grid.{inverse_of}

module _ (n : ℕ) (low : 1 ≤ n) (high : n ≤ 1024) where
  -- n times it is 2³², and less than n more
  abbrev over : ℕ
  over = n - 1 - (4294967295 + n) % n

  times : n * inverse_of n ≡ 4294967296 + over
  unfolding inverse_of
  times =
      mul_comm n (inverse_of n) ∙ omega (arith, div-add-mod' (4294967295 + n) n, mod-lt (4294967295 + n) low)

  pub inverse_le : inverse_of n ≤ 8589934592
  inverse_le = omega (arith, times, mul-le-mul_right (inverse_of n) low, high)

  inverse_ge : 4194304 ≤ inverse_of n
  inverse_ge = omega (arith, times, mul-le-mul_right (inverse_of n) high)

  -- LAW: times c, it is c / n times 2³², and less than 2³² more
  pub goes : (c : ℕ) → c < 1048576 → c * inverse_of n / 4294967296 ≡ c / n
  goes c h =
      let m = inverse_of n in
      let q = c / n in
      let r = c % n in
      let whole : q * n + r ≡ c = div-add-mod' c n in
      let rest = mod-lt c low in
      let u : r * m + m ≤ n * m = omega (arith, mul-le-mul_right m rest, suc-mul r m) in
      let v = mul-le-mul_left q (let l : over ≤ n = omega arith in l) in
      let w : c * m ≡ q * 4294967296 + (q * over + r * m) =
      ap (λ (k : ℕ). k * m) (sym whole) ∙ add-mul (q * n) r m ∙ ap (λ (k : ℕ). k + r * m) (mul_assoc q n m ∙ ap (λ (k : ℕ). q * k) times ∙ mul-add q 4294967296 over) ∙ omega arith in
      ap (λ (k : ℕ). k / 4294967296) w ∙ digits_div q (omega (arith, times, inverse_ge, u, v, whole, rest, h))
