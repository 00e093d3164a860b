-- Laws of side sets. Assumes nothing.
use mathlib.Core.Path.{◌≡◌, refl, sym, ap, ap₂, ◌∙◌}
use mathlib.Core.Bool.{Bool, cond}
use Prim.Native.Nat.{ℕ, zero, suc, ◌+◌, ◌*◌, ◌/◌, ◌%◌, ◌^◌, ◌<◌}
use native.Mathlib.Nat.{add_comm, add-zero, suc-add, add-suc, zero-add, mul_comm, mod-lt, mod-one, mod-eq_of_lt, pow-suc}
use native.Mathlib.Nat.{not-suc-le-zero, le_of_suc-le-suc}
use native.Mathlib.Omega.{arith}
use mathlib.Core.List.{[], ◌∷◌}
use lib.Arith.{mod-mul}
use lib.Count.{ones, ones_in, ones_cat}
use lib.Dec.{eqb, lit<}
use lib.ListN.{get_or}
use lib.Pow.{pow_pos}
use Rattle.rules.specs.Lists.{count, each, table}
use Rattle.rules.specs.Cells.{quads_of, rank, set_of}

-- a set by its six sides
pub set_of_lem : (p : ℕ → Bool) {a b c d e f : Bool} → a ≡ p 0 → b ≡ p 1 → c ≡ p 2 → d ≡ p 3 → e ≡ p 4 → f ≡ p 5
    → cond a 1 0 + cond b 2 0 + cond c 4 0 + cond d 8 0 + cond e 16 0 + cond f 32 0 ≡ set_of p
set_of_lem p a b c d e f = λ i. cond (a i) 1 0 + cond (b i) 2 0 + cond (c i) 4 0 + cond (d i) 8 0 + cond (e i) 16 0 + cond (f i) 32 0

-- a face in the set counts as its bit
bit : (d : ℕ) → d < 2 → cond (eqb d 1) 1 0 ≡ ones d
unfolding ones ones_in
bit zero h = refl
bit (suc zero) h = refl
bit (suc (suc d)) h = absurd (omega arith)

-- the rank of a face is the count of ones below its bit
pub rank_ones : (set f : ℕ) → rank set f ≡ ones (set % 2 ^ f)
unfolding count ones ones_in
rank_ones set zero = sym (ap ones (mod-one set))
rank_ones set (suc f) =
    ap₂ (λ (a b : ℕ). a + b) (rank_ones set f) (bit (set / 2 ^ f % 2) (mod-lt _ (lit< tt)))
    ∙ add_comm (ones (set % 2 ^ f)) (ones (set / 2 ^ f % 2))
    ∙ sym (ones_cat f (set / 2 ^ f % 2) (set % 2 ^ f) (mod-lt set (pow_pos f)))
    ∙ ap ones (sym (mod-mul set (lit< tt) (pow_pos f)) ∙ ap (λ (n : ℕ). set % n) (mul_comm 2 (2 ^ f) ∙ sym (pow-suc 2 f)))

pub quads_ones : (set : ℕ) → set < 64 → quads_of set ≡ ones set
quads_ones set h = rank_ones set 6 ∙ ap ones (mod-eq_of_lt h)

-- ---- the table of ranks

-- what a list that is written out by a rule holds at a place
get_d_each : (v : ℕ → ℕ) (n i k : ℕ) → k < n → get_or (each n i (λ (j : ℕ). v j ∷ [])) k 0 ≡ v (i + k)
unfolding each
get_d_each v zero i k h = absurd (not-suc-le-zero h)
get_d_each v (suc n) i zero h = ap v (sym (add-zero i))
get_d_each v (suc n) i (suc k) h = get_d_each v n (suc i) k (le_of_suc-le-suc h) ∙ ap v (suc-add i k ∙ sym (add-suc i k))

abbrev pub rank_at : ℕ → ℕ
rank_at k = rank (k / 6) (k % 6)

pub ranks : (set f : ℕ) → set < 64 → f < 6 → get_or (table 384 rank_at) (6 * set + f) 0 ≡ rank set f
ranks set f h k =
    let e : (6 * set + f) / 6 ≡ set = omega arith in
    let g : (6 * set + f) % 6 ≡ f = omega arith in
    get_d_each rank_at 384 0 (6 * set + f) (omega arith) ∙ ap rank_at (zero-add (6 * set + f)) ∙ ap₂ rank e g
