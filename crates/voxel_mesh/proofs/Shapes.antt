-- What an accepted shape says of each word. Assumes nothing.
use mathlib.Core.Path.{◌≡◌, sym, subst}
use mathlib.Core.Bool.{Bool, true, false, not, ◌&&◌, ◌||◌, cond}
use Prim.Native.Nat.{ℕ, zero, suc, ◌+◌, ◌*◌, ◌≤◌, ◌<◌}
use native.Mathlib.Nat.{mul-le-mul_left, mul-suc}
use native.Mathlib.Omega.{arith}
use lib.Dec.{T, eqb, ltb, lit≤}
use lib.ListN.{length, get_or}
use lib.Ieee.Bits.{is_false}
use lib.Ieee.Fits.{and_l, and_r}
use borrow.Author.Tests.{ltb-false, eqb-true, not-false}
use Rattle.rules.specs.Lists.{every}
use Rattle.rules.specs.Floats.{finite, finite3}
use Rattle.rules.specs.Cells.{Triple, along}
use Rattle.rules.specs.Cube.{Shape, floats_of, atlas_along}
use Rattle.rules.specs.Answers.{fine, refuse_if, refuse_lowest, out_of, entries, bad_tile, bad_atlas, BAD_NUMBER, BAD_TEXTURE}
use Rattle.voxel_mesh.specs.Outcome.{Accepted, verdict_in}
use Rattle.rules.proofs.ListLaws.{or_false}
use Rattle.rules.proofs.Checking.{then_fine, if_fine}
use Rattle.rules.proofs.Searches.{every_at}

-- a vertex has 8 to 12 words
pub few : (coloured : Bool) → (8 ≤ floats_of coloured) × (floats_of coloured ≤ 12)
few true = (lit≤ tt, lit≤ tt)
few false = (lit≤ tt, lit≤ tt)

-- row t of n rows of s words ends within them
pub row_within : (s t n : ℕ) → t < n → s * t + s ≤ s * n
row_within s t n h = omega (arith, mul-le-mul_left s h, mul-suc s t)

pub finite_along : (v : Triple) → T (finite3 v) → (axis : ℕ) → T (finite (along v axis))
finite_along v t axis = go (eqb axis 0) (eqb axis 1)
  where
    x : Bool
    x = finite v.x

    y : Bool
    y = finite v.y

    z : Bool
    z = finite v.z

    go : (b c : Bool) → T (finite (cond b v.x (cond c v.y v.z)))
    go true c = and_l x y (and_l (x && y) z t)
    go false true = and_r x y (and_l (x && y) z t)
    go false false = and_r (x && y) z t

-- ---- an atlas that is not bad

module _ (q : Shape) (e : bad_atlas q ≡ false) where
  abbrev tiles : Bool
  tiles = every (entries q.texture) (λ i. not (bad_tile q.texture i))

  abbrev sizes : Bool
  sizes = out_of q.atlas_width 1 4096 || out_of q.atlas_height 1 4096

  in_limits : (n : ℕ) → out_of n 1 4096 ≡ false → (0 < n) × (n ≤ 4096)
  in_limits n h = let w = or_false (ltb n 1) (ltb 4096 n) h in (ltb-false n 1 w.0, ltb-false 4096 n w.1)

  pub atlas_in : (axis : ℕ) → (0 < atlas_along q axis) × (atlas_along q axis ≤ 4096)
  unfolding bad_atlas
  atlas_in axis = go (eqb axis 0)
    where
      both : (out_of q.atlas_width 1 4096 ≡ false) × (out_of q.atlas_height 1 4096 ≡ false)
      both = or_false _ _ (or_false sizes (not tiles) e).0

      go : (b : Bool) → let n = cond b q.atlas_width q.atlas_height in (0 < n) × (n ≤ 4096)
      go true = in_limits q.atlas_width both.0
      go false = in_limits q.atlas_height both.1

  pub tile_in : (i axis : ℕ) → i < entries q.texture → axis < 2 → get_or q.texture (3 * i + 1 + axis) 0 < 4096
  unfolding bad_atlas
  tile_in i axis I A = go axis A
    where
      fine : bad_tile q.texture i ≡ false
      fine = is_false _ (every_at (entries q.texture) (λ k. not (bad_tile q.texture k))
          (subst T (sym (not-false tiles (or_false sizes (not tiles) e).1)) tt) i I)

      both : (ltb 4095 (get_or q.texture (3 * i + 1) 0) ≡ false) × (ltb 4095 (get_or q.texture (3 * i + 2) 0) ≡ false)
      both = or_false _ _ fine

      past : (k : ℕ) → suc (suc k) < 2 → ⊥
      past k h = omega arith

      go : (axis : ℕ) → axis < 2 → get_or q.texture (3 * i + 1 + axis) 0 < 4096
      go zero h = let p : 3 * i + 1 + 0 ≡ 3 * i + 1 = omega arith in rw p (omega (
        arith,
        ltb-false 4095 (get_or q.texture (3 * i + 1) 0) both.0,
      ))
      go (suc zero) h = let p : 3 * i + 1 + 1 ≡ 3 * i + 2 = omega arith in rw p (omega (
        arith,
        ltb-false 4095 (get_or q.texture (3 * i + 2) 0) both.1,
      ))
      go (suc (suc k)) h = absurd (past k h)

-- ---- a verdict that refuses nothing

pub accepted : (q : Shape) (room : ℕ) → fine ≡ verdict_in q room → Accepted q × (24 * floats_of q.coloured ≤ room)
unfolding BAD_NUMBER BAD_TEXTURE
accepted q room r =
    let e = sym r in
    let d = finite3 q.d in
    let centre = finite3 q.centre in
    let pad = finite q.padding in
    let a = then_fine _ _ e in
    let b = then_fine _ _ a.1 in
    let c = then_fine _ _ b.1 in
    let faces = refuse_lowest 7 (entries q.texture) (λ i. ltb 5 (get_or q.texture (3 * i) 0)) in
    let six = (then_fine faces (refuse_if (not (eqb (length q.texture) 18)) 7 6) c.0).1 in
    let numbers : T (d && centre && pad) = subst T (sym (not-false (d && centre && pad) (if_fine _ 4 0 a.0))) tt in (
      record {
        d = and_l d centre (and_l (d && centre) pad numbers);
        centre = and_r d centre (and_l (d && centre) pad numbers);
        padding = and_r (d && centre) pad numbers;
        atlas = if_fine _ 5 0 b.0;
        six = eqb-true _ 18 (not-false _ (if_fine _ 7 6 six));
      },
      ltb-false _ _ (if_fine _ 9 0 c.1),
    )
