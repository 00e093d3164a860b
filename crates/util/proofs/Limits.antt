-- Laws of the size limits. Assumes nothing.
use mathlib.Core.Path.{◌≡◌, refl, sym, ap, ap₂, ◌∙◌}
use mathlib.Core.Bool.{Bool, true, false, not, cond, ◌&&◌, ◌||◌, true≢false}
use Prim.Native.Nat.{ℕ, suc, ◌≤◌}
use native.Mathlib.Nat.{le_of_suc-le-suc}
use lib.Dec.{leb, ltb, leb-suc-suc}
use borrow.Author.Tests.{leb-true, leb-false, ltb-true, ltb-false, lt-ltb, le-ltb}
use Rattle.rules.specs.Cells.{Size, cells}
use Rattle.rules.specs.Answers.{out_of, bad_limits}
use Rattle.rules.proofs.ListLaws.{and_true}
use Rattle.util.specs.Grid.{Sides, Within}

at_least : (a b : ℕ) → not (ltb a b) ≡ leb b a
at_least a b = go (leb b a) refl
  where
    go : (t : Bool) → leb b a ≡ t → not (ltb a b) ≡ t
    go true e = ap not (le-ltb a b (leb-true b a e))
    go false e = ap not (lt-ltb a b (leb-false b a e))

not_or : (a b : Bool) → not (a || b) ≡ (not a && not b)
not_or true b = refl
not_or false b = refl

-- a number lies in low to high where `in_range` finds it from low up to, and without, one past high
pub in_range : (n low high : ℕ) → (leb low n && ltb n (suc high)) ≡ not (out_of n low high)
in_range n low high =
    sym
    (not_or (ltb n low) (ltb high n)
    ∙ ap₂ (λ (a b : Bool). a && b) (at_least n low) (at_least high n ∙ sym (leb-suc-suc n high)))

-- the three tests of sizes come before the test of the product
abbrev pub sides_hold : Size → Bool
sides_hold s = not (out_of s.w 1 1024) && not (out_of s.h 1 1024) && not (out_of s.l 1 1024)

pub limits : (s : Size) → bad_limits s ≡ cond (sides_hold s) (ltb 1048576 (cells s)) true
unfolding bad_limits
limits s = pick (out_of s.w 1 1024) (out_of s.h 1 1024) (out_of s.l 1 1024) (ltb 1048576 (cells s))
  where
    pick : (a b c d : Bool) → (a || b || c || d) ≡ cond (not a && not b && not c) d true
    pick true b c d = refl
    pick false true c d = refl
    pick false false true d = refl
    pick false false false d = refl

side : (n : ℕ) → not (out_of n 1 1024) ≡ true → (1 ≤ n) × (n ≤ 1024)
side n e =
    let t = and_true _ _ (in_range n 1 1024 ∙ e) in
    (leb-true 1 n t.0, le_of_suc-le-suc (ltb-true n 1025 t.1))

pub sides : (s : Size) → sides_hold s ≡ true → Sides s
sides s e =
    let t = and_true _ _ e in
    let u = and_true _ _ t.0 in
    let w = side s.w u.0 in
    let h = side s.h u.1 in
    let l = side s.l t.1 in
    record { wide = w.0; high = h.0; long = l.0; widest = w.1; highest = h.1; longest = l.1 }

pub within : (s : Size) → bad_limits s ≡ false → Within s
within s e = go (sides_hold s) refl (sym (limits s) ∙ e)
  where
    go : (t : Bool) → sides_hold s ≡ t → cond t (ltb 1048576 (cells s)) true ≡ false → Within s
    go true k no_more = record { sides = sides s k; most = ltb-false _ _ no_more }
    go false k wrong = absurd (true≢false wrong)
