-- What types that pass are known to be. Assumes nothing.
use mathlib.Core.Path.{◌≡◌, refl, sym, ◌∙◌, subst}
use mathlib.Core.Bool.{Bool, true, false, true≢false, not, ◌&&◌, ◌||◌}
use mathlib.Core.List.{List}
use Prim.Native.Nat.{ℕ, ◌+◌, ◌*◌, ◌/◌, ◌%◌, ◌<◌}
use native.Mathlib.Omega.{arith}
use lib.Dec.{T, eqb, ltb}
use lib.ListN.{length, get_or}
use lib.Ieee.Fits.{and_l}
use borrow.Author.Tests.{ltb-false, eqb-true, eq-eqb, not-false}
use Rattle.rules.specs.Lists.{every}
use Rattle.rules.specs.Floats.{finite}
use Rattle.rules.specs.Cells.{Triple}
use Rattle.rules.specs.Cube.{floats_of}
use Rattle.rules.specs.Types.{Types, floats, cube_of, position_of, classed, is_cube}
use Rattle.rules.specs.Answers.{fine, refuse_if, out_of, bad_counts, not_a_cube}
use Rattle.types.specs.Tests.{Placed, Counted}
use Rattle.rules.proofs.ListLaws.{or_false, every_true}
use Rattle.rules.proofs.Searches.{every_at}

-- the test of all positions, told of each
pub placed : (cube : List ℕ) (floats : ℕ) → T (every 72 (λ k. finite (position_of cube floats (k / 3) (k % 3)))) → Placed cube floats
placed cube floats t i axis I A =
    let q : (3 * i + axis) / 3 ≡ i = omega arith in
    let r : (3 * i + axis) % 3 ≡ axis = omega arith in
    rw (q, r) at (every_at 72 (λ k. finite (position_of cube floats (k / 3) (k % 3))) t (3 * i + axis) (omega arith))

-- one of which it does not hold
pub every_false : (n : ℕ) (p : ℕ → Bool) (k : ℕ) → k < n → p k ≡ false → every n p ≡ false
every_false n p k h e = neither (every n p) (λ t. every_true n p t k h)
  where
    neither : (b : Bool) → (b ≡ true → p k ≡ true) → b ≡ false
    neither false g = refl
    neither true g = absurd (true≢false (sym (g refl) ∙ e))

-- ---- counts that are not bad

pub counted : (T : Types) → bad_counts T ≡ false → (length T.covers ≡ length T.kinds) × Counted T.coloured T.kinds T.cubes
unfolding bad_counts
counted T e =
    let n = length T.kinds in
    let covers = eqb (length T.covers) n in
    let cubes = eqb (length T.cubes) (24 * floats_of T.coloured * n) in
    let both = or_false (out_of n 1 255 || not covers) (not cubes) e in
    let first = or_false (out_of n 1 255) (not covers) both.0 in (
      eqb-true _ n (not-false covers first.1),
      record {
        few = ltb-false 255 n (or_false (ltb n 1) (ltb 255 n) first.0).1;
        whole = eqb-true _ _ (not-false cubes both.1);
      },
    )

-- the positions of each NormalCube that is a cube are finite
pub cube_placed : (types : Types) (centre : Triple) (t : ℕ) → not_a_cube types centre t ≡ false → get_or types.kinds t 0 ≡ 1
    → Placed (cube_of types t) (floats types)
unfolding not_a_cube is_cube
cube_placed types centre t e k =
    let cube = cube_of types t in
    let n = floats types in
    let finite-all = every 72 (λ j. finite (position_of cube n (j / 3) (j % 3))) in
    let classed-all = every 6 (classed cube n centre) in
    let whole : T (finite-all && classed-all) = subst T (sym (not-false (finite-all && classed-all) (rw (eq-eqb _ _ k) at e))) tt in
    placed cube n (and_l finite-all classed-all whole)

-- what passes a test of its own
pub not_refused : (b : Bool) (n p : ℕ) → fine ≡ refuse_if b n p → b ≡ false
unfolding refuse_if
not_refused false n p e = refl
not_refused true n p e = (cc)
