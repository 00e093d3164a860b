-- Laws of the steps from a cell to its neighbours. Assumes nothing.
use mathlib.Core.Path.{◌≡◌, sym, subst}
use Prim.Native.Nat.{ℕ, ◌+◌, ◌*◌, ◌^◌, ◌≤◌, ◌<◌}
use native.Mathlib.Nat.{mul-le-mul_right}
use native.Mathlib.Omega.{arith}
use Rattle.rules.specs.Cells.{Size, Triple, cells, y_of, z_of, coordinates}
use Rattle.util.specs.Grid.{Within}
use Rattle.rules.proofs.Neighbours.{inside_of, cell_at-coordinates}
use Rattle.util.proofs.Cells.{layer_fits}

-- A step ahead along an axis fits a word, and a step back goes to no number below 0. The steps are a layer along y, 1 along x
-- and a row along z; the coordinates are v.
pub record Steps (s : Size) (c : ℕ) (v : Triple) : Type 0 where
  pub top : (c + s.l * s.w < 2 ^ 32) × (v.y + 1 < 2 ^ 32)
  pub bottom : 0 < v.y → s.l * s.w ≤ c
  pub right : (c + 1 < 2 ^ 32) × (v.x + 1 < 2 ^ 32)
  pub left : 0 < v.x → 1 ≤ c
  pub back : (c + s.w < 2 ^ 32) × (v.z + 1 < 2 ^ 32)
  pub forward : 0 < v.z → s.w ≤ c

pub steps : (s : Size) (c : ℕ) {v : Triple} → Within s → c < cells s → v ≡ coordinates s c → Steps s c v
steps s c k h e = subst (λ (v : Triple). Steps s c v) (sym e) here
  where
    here : Steps s c (coordinates s c)
    here =
        let i = inside_of s c k.sides.wide k.sides.long h in
        let layer = layer_fits s k.sides in
        let whole = cell_at-coordinates s c in
        let layers : 0 < y_of s c → 1 * s.l * s.w ≤ y_of s c * s.l * s.w =
        λ up. mul-le-mul_right s.w (mul-le-mul_right s.l up) in
        let rows : 0 < z_of s c → 1 * s.w ≤ z_of s c * s.w = mul-le-mul_right s.w in
        record {
          top = (omega arith, omega arith);
          bottom = λ up. omega (arith, layers up);
          right = (omega arith, omega arith);
          left = λ on. omega arith;
          back = (omega arith, omega arith);
          forward = λ on. omega (arith, rows on);
        }
