-- `checking::filled_bits` meets its contract: the bits of the slots before the one at hand. Assumes nothing.
use mathlib.Core.Path.{◌≡◌, refl, sym, ap, ap₂, ◌∙◌}
use mathlib.Core.Bool.{Bool, true, false, cond}
use Prim.Native.Nat.{ℕ, ◌+◌, ◌*◌, ◌%◌, ◌^◌, ◌≤◌}
use native.Mathlib.Nat.{pow-suc}
use native.Mathlib.Numerals.{add-one}
use native.Mathlib.Omega.{arith}
use lib.Pow.{pow_mono}
use mir.Val.{bool_byte}
use Rattle.rules.specs.Answers.{is_filled}
use Rattle.checking.specs.Faces.{bits}
use Rattle.checking.proofs.Faces.{slot_is, bits_more}
use Rattle.checking.proofs.filled_bits.Goals as goal

-- a bit in its place
placed : (b : Bool) (k : ℕ) → 2 ^ k ≤ 8388608 → (bool_byte b * 2 ^ k % 4294967296 ≡ cond b (2 ^ k) 0) × (bool_byte b * 2 ^ k % 4294967296 ≤ 2 ^ k)
placed true k h = (omega arith, omega arith)
placed false k h = (omega arith, omega arith)

pub loop-k-init : goal.loop-k-init
unfolding bits
loop-k-init c = (refl, omega arith)

pub loop-k-preserved : goal.loop-k-preserved
loop-k-preserved c =
    let l = c.loop-k in
    let slots = c.args.slots.now in
    let at = c.args.at in
    let bit : c.from.result ≡ bool_byte (is_filled slots (at + l.k)) = c.from.ensures ∙ ap bool_byte (slot_is slots (at + l.k) (at + l.k) refl (omega arith)) in
    let put = placed (is_filled slots (at + l.k)) l.k (pow_mono {i = l.k} {j = 23} (omega arith)) in
    let double : 2 ^ (l.k + 1) ≡ 2 ^ l.k * 2 = rw add-one (pow-suc 2 l.k) in (
      ap₂ (λ (a b : ℕ). a + b) l.invariant.0 (rw bit put.0) ∙ sym (bits_more (λ j. is_filled slots (at + j)) l.k),
      rw bit (omega (arith, put.1)),
    )
