-- Laws of log entries. Assumes nothing.
use Rattle.std.proofs.Common.{◌≡◌, ℕ, zero, suc, ◌+◌, ◌-◌, ◌<◌, ◌≤◌, Bool, true, false, not, ◌&&◌, ◌||◌, ◌≢◌, List, [], ◌∷◌, length, get_or, sym, refl, ap, ◌∙◌, add-zero, add-one, arith, ne_eqb}
use Rattle.rules.specs.Lists.{each, table, part, every, lowest_from}
use Rattle.rules.specs.Update as rule
use Rattle.rules.proofs.ListLaws.{get_d_table, table_is}
use Rattle.vav.proofs.Laws.{length_part, part_at}
use Rattle.entries.specs.declared.Entry.{Entry}
use Rattle.entries.specs.Log.{entry_in, side_of}
use Rattle.entries.specs.declared.Side.TheVariants.{Keep}

-- a byte that says neither
pub side_kept : (n : ℕ) → n ≢ 1 → n ≢ 2 → Keep ≡ side_of n
side_kept n a b = rw (ne_eqb n 1 a, ne_eqb n 2 b)

-- one more that is bad, or not
pub any_more : (n : ℕ) (bad : ℕ → Bool) (any one : Bool) → any ≡ not (every n (λ f. not (bad f))) → one ≡ bad n → (any || one) ≡ not (every (n + 1) (λ f. not (bad f)))
unfolding every
any_more n bad any one d e = rw (add-one, every, d, e) (go (every n (λ f. not (bad f))) (bad n)) where
  go : (a b : Bool) → (not a || b) ≡ not (a && not b)
  go true true = refl
  go true false = refl
  go false b = refl

-- ---- six words of a list, one by one
abbrev pub six_words : List ℕ → ℕ → List ℕ
six_words xs at =
    get_or xs at 0 ∷ get_or xs (at + 1) 0 ∷ get_or xs (at + 2) 0 ∷ get_or xs (at + 3) 0 ∷ get_or xs (at + 4) 0 ∷ get_or xs (at + 5) 0 ∷ []

pub part_of_six : (at : ℕ) (xs : List ℕ) → at + 6 ≤ length xs → table 6 (λ k. get_or (six_words xs at) k 0) ≡ part at 6 xs
unfolding each
part_of_six at xs h =
    let w : table 6 (λ f. get_or xs (at + f) 0) ≡ part at 6 xs =
    table_is (λ f. get_or xs (at + f) 0) 6 (part at 6 xs) 0 (length_part at 6 xs h) (λ k l. part_at at 6 xs k l) in
    rw (add-zero at) at w

-- ---- the six bytes of an entry that starts at `at`, one by one
abbrev pub six_at : List ℕ → ℕ → List ℕ
six_at xs at =
    get_or xs (at + 6) 0 ∷ get_or xs (at + 7) 0 ∷ get_or xs (at + 8) 0 ∷ get_or xs (at + 9) 0 ∷ get_or xs (at + 10) 0 ∷ get_or xs (at + 11) 0 ∷ []

pub six : (at : ℕ) (xs : List ℕ) → at + 12 ≤ length xs → table 6 (λ k. get_or (six_at xs at) k 0) ≡ part (at + 6) 6 xs
six at xs h = table_is (λ k. get_or (six_at xs at) k 0) 6 (part (at + 6) 6 xs) 0 (length_part (at + 6) 6 xs (omega arith)) (λ k l. part_at (at + 6) 6 xs k l ∙ go k l)
  where
    go : (k : ℕ) → k < 6 → get_or xs (at + 6 + k) 0 ≡ get_or (six_at xs at) k 0
    go zero l = ap (λ (n : ℕ). get_or xs n 0) (omega arith)
    go (suc zero) l = ap (λ (n : ℕ). get_or xs n 0) (omega arith)
    go (suc (suc zero)) l = ap (λ (n : ℕ). get_or xs n 0) (omega arith)
    go (suc (suc (suc zero))) l = ap (λ (n : ℕ). get_or xs n 0) (omega arith)
    go (suc (suc (suc (suc zero)))) l = ap (λ (n : ℕ). get_or xs n 0) (omega arith)
    go (suc (suc (suc (suc (suc zero))))) l = ap (λ (n : ℕ). get_or xs n 0) (omega arith)
    go (suc (suc (suc (suc (suc (suc k)))))) l = absurd (omega arith)

-- the neighbour given at a face
pub given_is : (e : Entry) (f : ℕ) → f < 6 → rule.given_at (entry_in e) f ≡ get_or e.neighbours f 0
given_is e f l = get_d_table (λ k. get_or e.neighbours k 0) 6 f 255 l

-- read at a number that is the face's
pub read_is : (e : Entry) {n f : ℕ} → n ≡ f → f < 6 → rule.given_at (entry_in e) f ≡ get_or e.neighbours n 0
read_is e {n} {f} same l = given_is e f l ∙ sym (ap (λ (k : ℕ). get_or e.neighbours k 0) same)

-- ---- a search: the next one is bad, or not
pub lowest_here : (i n : ℕ) (bad : ℕ → Bool) → i < n → bad i ≡ true → lowest_from i (n - i) bad ≡ i
unfolding lowest_from
lowest_here i n bad l e = let s : n - i ≡ suc (n - (i + 1)) = omega arith in rw (s, lowest_from, e)

pub lowest_next : (i n : ℕ) (bad : ℕ → Bool) → i < n → bad i ≡ false → lowest_from i (n - i) bad ≡ lowest_from (i + 1) (n - (i + 1)) bad
unfolding lowest_from
lowest_next i n bad l e =
    let s : n - i ≡ suc (n - (i + 1)) = omega arith in
    rw (s, lowest_from, e) (ap (λ (k : ℕ). lowest_from k (n - (i + 1)) bad) (sym (add-one i)))

pub lowest_end : (i : ℕ) (bad : ℕ → Bool) → lowest_from i (i - i) bad ≡ i
unfolding lowest_from
lowest_end i bad = let s : i - i ≡ 0 = omega arith in rw s
