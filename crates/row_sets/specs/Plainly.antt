-- Types that are plainly clear or plainly full, and the sides along a row. Definitions only.
use Rattle.std.specs.Prelude.{ℕ, ◌+◌, ◌≤◌, ◌<◌, ◌≡◌, ◌⊎◌, cond, List, ltb, length, get_or}

-- ---- types

-- the types below `clear` are no NormalCubes and cover nothing
pub record ClearBelow (kinds covers : List ℕ) (clear : ℕ) : Type 0 where
  pub kind : (t : ℕ) → t < clear → get_or kinds t 0 ≡ 1 → ⊥
  pub cover : (t : ℕ) → t < clear → get_or covers t 0 ≡ 0

-- those from `full` on are NormalCubes that cover every side
pub record FullFrom (kinds covers : List ℕ) (full : ℕ) : Type 0 where
  pub kind : (t : ℕ) → full ≤ t → t < length kinds → get_or kinds t 0 ≡ 1
  pub cover : (t : ℕ) → full ≤ t → t < length kinds → get_or covers t 0 ≡ 63

pub record Plainly (kinds covers : List ℕ) (clear full : ℕ) : Type 0 where
  pub below : ClearBelow kinds covers clear
  pub from : FullFrom kinds covers full

abbrev pub Plain : ℕ → ℕ → ℕ → Type 0
Plain clear full code = (code < clear) ⊎ (full ≤ code)

-- the sides along a row of this width on which its cell at x has cells beside it
abbrev pub sides_at : ℕ → ℕ → ℕ
sides_at width x = cond (ltb (x + 1) width) 4 0 + cond (ltb 0 x) 8 0

-- a list of them
pub record Along (width : ℕ) (along : List ℕ) : Type 0 where
  pub long : width ≤ length along
  pub sides : (x : ℕ) → x < width → get_or along x 0 ≡ sides_at width x
