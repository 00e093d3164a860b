-- As many slots filled as there are quads: no other slot is filled. Assumes nothing.
use mathlib.Core.Path.{◌≡◌, refl, sym}
use mathlib.Core.Logic.{◌≢◌}
use mathlib.Core.Bool.{Bool, true, false, cond, not}
use mathlib.Core.List.{List, [], ◌∷◌}
use Prim.Native.Nat.{ℕ, zero, suc, ◌+◌, ◌≤◌, ◌<◌}
use native.Mathlib.Omega.{arith}
use native.Mathlib.Decide.{ℕ_discrete}
use lib.Dec.{eqb}
use lib.ListN.{length, get_or, set, length-set}
use lib.Seq.{get_or-set_same, get_or-set_other}
use borrow.Author.Tests.{eq-eqb, ne_eqb}
use Rattle.rules.specs.Lists.{count}
use Rattle.rules.specs.Mesh.{NONE}

-- ---- over a list of slot words, and the places that the quads name, in a row
abbrev pub is_full : List ℕ → ℕ → Bool
is_full S k = not (eqb (get_or S k NONE) NONE)

abbrev pub full_in : ℕ → List ℕ → ℕ
full_in n S = count n (is_full S)

full_yes : (S : List ℕ) (k : ℕ) → get_or S k NONE ≢ NONE → is_full S k ≡ true
full_yes S k d = rw (ne_eqb (get_or S k NONE) NONE d)

full_no : (S : List ℕ) (k : ℕ) → get_or S k NONE ≡ NONE → is_full S k ≡ false
full_no S k e = rw (eq-eqb (get_or S k NONE) NONE e)

pub count_same : (n : ℕ) (p q : ℕ → Bool) → ((k : ℕ) → k < n → p k ≡ q k) → count n p ≡ count n q
unfolding count
count_same zero p q h = refl
count_same (suc n) p q h = rw (count_same n p q (λ k l. h k (omega arith)), h n (omega arith))

-- one slot emptied
emptied : (n k : ℕ) (S : List ℕ) → k < n → k < length S → get_or S k NONE ≢ NONE → full_in n S ≡ suc (full_in n (set S k NONE))
unfolding count
emptied zero k S h l d = absurd (omega arith)
emptied (suc n) k S h l d = go (ℕ_discrete n k) (λ b. emptied n k S b l d)
  where
    rest : n ≤ k → count n (is_full S) ≡ count n (is_full (set S k NONE))
    rest b = count_same n (is_full S) (is_full (set S k NONE)) (λ j a. rw (get_or-set_other S k j NONE NONE (omega arith)))

    go : Dec (n ≡ k) → (k < n → full_in n S ≡ suc (full_in n (set S k NONE)))
        → count n (is_full S) + cond (is_full S n) 1 0 ≡ suc (count n (is_full (set S k NONE)) + cond (is_full (set S k NONE) n) 1 0)
    go (yes e) r =
        let a = rest (omega arith) in
        let x : get_or S n NONE ≢ NONE = rw e d in
        let y : get_or (set S k NONE) n NONE ≡ NONE = rw e (get_or-set_same S k NONE NONE l) in
        rw (full_yes S n x, full_no (set S k NONE) n y) (omega arith)
    go (no e) r = rw (r (omega arith), get_or-set_other S k n NONE NONE e) (omega arith)

some_full : (n k : ℕ) (S : List ℕ) → k < n → get_or S k NONE ≢ NONE → 1 ≤ full_in n S
unfolding count
some_full zero k S h d = absurd (omega arith)
some_full (suc n) k S h d = go (ℕ_discrete n k) (λ b. some_full n k S b d)
  where
    go : Dec (n ≡ k) → (k < n → 1 ≤ full_in n S) → 1 ≤ count n (is_full S) + cond (is_full S n) 1 0
    go (yes e) r = let x : get_or S n NONE ≢ NONE = rw e d in rw (full_yes S n x) (omega arith)
    go (no e) r = let a = r (omega arith) in omega arith

none_full : (n : ℕ) (S : List ℕ) → ((k : ℕ) → k < n → get_or S k NONE ≢ NONE → ⊥) → full_in n S ≡ 0
unfolding count
none_full zero S h = refl
none_full (suc n) S h = go (ℕ_discrete (get_or S n NONE) NONE) (none_full n S (λ k l. h k (omega arith)))
  where
    go : Dec (get_or S n NONE ≡ NONE) → full_in n S ≡ 0 → count n (is_full S) + cond (is_full S n) 1 0 ≡ 0
    go (yes e) r = rw (full_no S n e) (omega arith)
    go (no e) r = absurd (h n (omega arith) e)

-- the places ks are distinct, below n, and full
pub record Named (n : ℕ) (S ks : List ℕ) : Type 0 where
  pub room : n ≤ length S
  pub below : (q : ℕ) → q < length ks → get_or ks q 0 < n
  pub full : (q : ℕ) → q < length ks → get_or S (get_or ks q 0) NONE ≢ NONE
  pub apart : (p q : ℕ) → p < q → q < length ks → get_or ks p 0 ≢ get_or ks q 0

named_rest : (n k : ℕ) (S ks : List ℕ) → Named n S (k ∷ ks) → Named n (set S k NONE) ks
named_rest n k S ks h =
    record {
      room = rw length-set h.room;
      below = λ q l. h.below (suc q) (omega arith);
      full = λ q l. rw (get_or-set_other S k (get_or ks q 0) NONE NONE (λ e. h.apart 0 (suc q) (omega arith) (omega arith) (sym e))) (h.full (suc q) (omega arith));
      apart = λ p q l b. h.apart (suc p) (suc q) (omega arith) (omega arith);
    }

first_emptied : (n k : ℕ) (S ks : List ℕ) → Named n S (k ∷ ks) → full_in n S ≡ suc (full_in n (set S k NONE))
first_emptied n k S ks h =
    let b = h.below 0 (omega arith) in let r = h.room in emptied n k S b (omega arith) (h.full 0 (omega arith))

abbrev pub In : ℕ → List ℕ → Type 0
In k ks = (q : ℕ) × (q < length ks) × (get_or ks q 0 ≡ k)

-- no more full slots than places: each full slot is a place's
pub no_other : (ks : List ℕ) (n : ℕ) (S : List ℕ) → Named n S ks → full_in n S ≤ length ks → (k : ℕ) → k < n → get_or S k NONE ≢ NONE → In k ks
no_other [] n S h z k b d = absurd (let a = some_full n k S b d in omega arith)
no_other (x ∷ ks) n S h z k b d =
    go (ℕ_discrete k x) (no_other ks n (set S x NONE) (named_rest n x S ks h) (omega (arith, first_emptied n x S ks h)) k b)
  where
    go : Dec (k ≡ x) → (get_or (set S x NONE) k NONE ≢ NONE → In k ks) → In k (x ∷ ks)
    go (yes e) r = (0, omega arith, sym e)
    go (no e) r = let i = r (rw (get_or-set_other S x k NONE NONE e) d) in (suc i.0, omega (arith, i.1), i.2)

-- and back: where each full slot is a place's, there are no more of them
pub no_more : (ks : List ℕ) (n : ℕ) (S : List ℕ) → Named n S ks → ((k : ℕ) → k < n → get_or S k NONE ≢ NONE → In k ks) → full_in n S ≤ length ks
no_more [] n S h c = omega (arith, none_full n S (λ k l d. let i = (c k l d).1 in omega arith))
no_more (x ∷ ks) n S h c =
    let r = no_more ks n (set S x NONE) (named_rest n x S ks h) next in omega (arith, first_emptied n x S ks h)
  where
    later : (k : ℕ) → k ≢ x → (q : ℕ) → q < suc (length ks) → get_or (x ∷ ks) q 0 ≡ k → In k ks
    later k e zero b i = absurd (e (sym i))
    later k e (suc q) b i = (q, omega arith, i)

    next : (k : ℕ) → k < n → get_or (set S x NONE) k NONE ≢ NONE → In k ks
    next k l d = go (ℕ_discrete k x)
      where
        go : Dec (k ≡ x) → In k ks
        go (yes e) =
            let b = h.below 0 (omega arith) in let r = h.room in
            absurd (d (rw e (get_or-set_same S x NONE NONE (omega arith))))
        go (no e) = let i = c k l (rw (get_or-set_other S x k NONE NONE e) at d) in later k e i.0 i.1 i.2

pub count_le : (n : ℕ) (p : ℕ → Bool) → count n p ≤ n
unfolding count
count_le zero p = omega arith
count_le (suc n) p = omega (arith, count_le n p, one_le (p n))
  where
    one_le : (b : Bool) → cond b 1 0 ≤ 1
    one_le true = omega arith
    one_le false = omega arith

-- no more places than slots
pub full_le : (ks : List ℕ) (n : ℕ) (S : List ℕ) → Named n S ks → length ks ≤ n
full_le ks n S h = omega (arith, go ks S h, count_le n (is_full S))
  where
    go : (ks S : List ℕ) → Named n S ks → length ks ≤ full_in n S
    go [] S h = omega arith
    go (k ∷ ks) S h = omega (arith, go ks (set S k NONE) (named_rest n k S ks h), first_emptied n k S ks h)
