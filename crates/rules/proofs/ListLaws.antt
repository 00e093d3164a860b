-- Laws on rows, stretches and searches. Assumes nothing.
use mathlib.Core.Path.{◌≡◌, refl, sym, ap, ◌∙◌}
use mathlib.Core.Logic.{◌≢◌}
use mathlib.Core.Bool.{Bool, true, false, cond, not, ◌&&◌, ◌||◌, true≢false, false≢true}
use mathlib.Core.List.{List, [], ◌∷◌, ◌++◌, append_assoc, map, map-append}
use Prim.Native.Nat.{ℕ, zero, suc, ◌+◌, ◌-◌, ◌*◌, ◌≤◌, ◌<◌}
use native.Mathlib.Omega.{arith}
use native.Mathlib.Decide.{ℕ_discrete}
use lib.Dec.{eqb}
use lib.ListN.{length, get_or, take, drop, length-append}
use lib.Seq.{ext_get_or}
use borrow.Author.Tests.{eqb-true, eq-eqb}
use Rattle.rules.specs.Lists.{each, only, table, every, count, lowest_from, lowest, same, member}

-- ---- a Bool is one of two
pub split : (P : Bool → Type 0) (b : Bool) → (b ≡ true → P true) → (b ≡ false → P false) → P b
split P true t f = t refl
split P false t f = f refl

pub both_ways : (b : Bool) → (b ≡ true → ⊥) → b ≡ false
both_ways true h = absurd (h refl)
both_ways false h = refl

pub not_true : (b : Bool) → not b ≡ false → b ≡ true
not_true true e = refl
not_true false e = absurd (true≢false e)

pub not_false : (b : Bool) → not b ≡ true → b ≡ false
not_false true e = absurd (false≢true e)
not_false false e = refl

pub and_true : (a b : Bool) → (a && b) ≡ true → (a ≡ true) × (b ≡ true)
and_true true b e = (refl, e)
and_true false b e = absurd (false≢true e)

pub and_false : (b : Bool) → (b && false) ≡ false
and_false true = refl
and_false false = refl

pub and_with : (b : Bool) → (b && true) ≡ b
and_with true = refl
and_with false = refl

pub or_false : (a b : Bool) → (a || b) ≡ false → (a ≡ false) × (b ≡ false)
or_false true b e = absurd (true≢false e)
or_false false b e = (refl, e)

-- what is read within a list is no default
pub within : (xs : List ℕ) (k d e : ℕ) → k < length xs → get_or xs k d ≡ get_or xs k e
within [] k d e h = absurd (omega arith)
within (x ∷ xs) zero d e h = refl
within (x ∷ xs) (suc k) d e h = within xs k d e (omega arith)

-- ---- each: pieces that are the same, and a reading of a list that takes one list after the other piece by piece
pub each_same {ℓ} : {A : Type ℓ} (n i : ℕ) (p q : ℕ → List A) → ((k : ℕ) → i ≤ k → k < i + n → p k ≡ q k) → each n i p ≡ each n i q
unfolding each
each_same zero i p q h = refl
each_same (suc n) i p q h = rw (h i (omega arith) (omega arith), each_same n (suc i) p q (λ k a b. h k (omega arith) (omega arith)))

pub none_each {ℓ} : {A : Type ℓ} (n i : ℕ) (p : ℕ → List A) → ((k : ℕ) → i ≤ k → k < i + n → p k ≡ []) → each n i p ≡ []
unfolding each
none_each zero i p h = refl
none_each (suc n) i p h = rw (h i (omega arith) (omega arith)) (none_each n (suc i) p (λ k a b. h k (omega arith) (omega arith)))

pub each_split {ℓ} : {A : Type ℓ} (a b i : ℕ) (p : ℕ → List A) → each (a + b) i p ≡ each a i p ++ each b (i + a) p
unfolding each
each_split zero b i p = let z : i + 0 ≡ i = omega arith in let y : 0 + b ≡ b = omega arith in rw (z, y)
each_split {A = A} (suc a) b i p =
    let z : suc a + b ≡ suc (a + b) = omega arith in
    let y : i + suc a ≡ suc i + a = omega arith in
    rw (z, y) (ap (λ (l : List A). p i ++ l) (each_split a b (suc i) p) ∙ sym (append_assoc (p i) (each a (suc i) p) (each b (suc i + a) p)))

-- counted from elsewhere
pub each_on {ℓ} : {A : Type ℓ} (u v i : ℕ) (p : ℕ → List A) → each v (u + i) p ≡ each v i (λ k. p (u + k))
unfolding each
each_on u zero i p = refl
each_on {A = A} u (suc v) i p = let e : suc (u + i) ≡ u + suc i = omega arith in rw e (ap (λ (r : List A). p (u + i) ++ r) (each_on u v (suc i) p))

pub record Reads {ℓ} (A : Type ℓ) (M : Type 0) : Type ℓ where
  pub read : List A → M
  pub none : M
  pub join : M → M → M
  pub of_nil : read [] ≡ none
  pub of_append : (a b : List A) → read (a ++ b) ≡ join (read a) (read b)
  pub left_none : (x : M) → join none x ≡ x
  pub right_none : (x : M) → join x none ≡ x

module _ {ℓ} {A : Type ℓ} {M : Type 0} (R : Reads A M) where
  pub read_none : (n i : ℕ) (p : ℕ → List A) → ((f : ℕ) → i ≤ f → f < i + n → R.read (p f) ≡ R.none) → R.read (each n i p) ≡ R.none
  unfolding each
  read_none zero i p h = R.of_nil
  read_none (suc n) i p h =
      R.of_append (p i) (each n (suc i) p)
      ∙ rw (h i (omega arith) (omega arith)) (R.left_none (R.read (each n (suc i) p)) ∙ read_none n (suc i) p (λ f a b. h f (omega arith) (omega arith)))

  -- of the pieces, only piece k counts
  pub read_one : (n i k : ℕ) (p : ℕ → List A) → i ≤ k → k < i + n → ((f : ℕ) → f < i + n → f ≢ k → R.read (p f) ≡ R.none)
      → R.read (each n i p) ≡ R.read (p k)
  unfolding each
  read_one zero i k p a b h = absurd (omega arith)
  read_one (suc n) i k p a b h =
      R.of_append (p i) (each n (suc i) p)
      ∙ go (ℕ_discrete i k) (λ l. read_one n (suc i) k p l (omega arith) (λ f c. h f (omega arith)))
    where
      go : Dec (i ≡ k) → (suc i ≤ k → R.read (each n (suc i) p) ≡ R.read (p k)) → R.join (R.read (p i)) (R.read (each n (suc i) p)) ≡ R.read (p k)
      go (yes e) r =
          rw (read_none n (suc i) p (λ f c d. h f (omega arith) (omega arith))) (R.right_none (R.read (p i)) ∙ ap (λ (q : ℕ). R.read (p q)) e)
      go (no d) r = rw (h i (omega arith) d) (R.left_none (R.read (each n (suc i) p)) ∙ r (omega arith))

-- ---- tables
module _ {ℓ} {A : Type ℓ} (v : ℕ → A) where
  pub length-row : (n i : ℕ) → length (each n i (λ k. v k ∷ [])) ≡ n
  unfolding each
  length-row zero i = refl
  length-row (suc n) i = ap suc (length-row n (suc i))

  pub get_d_row : (n i q : ℕ) (d : A) → q < n → get_or (each n i (λ k. v k ∷ [])) q d ≡ v (i + q)
  unfolding each
  get_d_row zero i q d h = absurd (omega arith)
  get_d_row (suc n) i zero d h = ap v (omega arith)
  get_d_row (suc n) i (suc q) d h = get_d_row n (suc i) q d (omega arith) ∙ ap v (omega arith)

  pub length-table : (n : ℕ) → length (table n v) ≡ n
  length-table n = length-row n 0

  pub get_d_table : (n q : ℕ) (d : A) → q < n → get_or (table n v) q d ≡ v q
  get_d_table n q d h = get_d_row n 0 q d h ∙ ap v (omega arith)

  -- a list that holds v 0, v 1, .. is the table
  pub table_is : (n : ℕ) (xs : List A) (d : A) → length xs ≡ n → ((q : ℕ) → q < n → get_or xs q d ≡ v q) → table n v ≡ xs
  table_is n xs d l h =
      ext_get_or d (table n v) xs (length-table n ∙ sym l)
      (λ q b. let c : q < n = omega (arith, length-table n) in get_d_table n q d c ∙ sym (h q c))

-- as many words as the pieces have, one after the other
pub length-each : (s n i : ℕ) (p : ℕ → List ℕ) → ((k : ℕ) → length (p k) ≡ s) → length (each n i p) ≡ n * s
unfolding each
length-each s zero i p h = omega arith
length-each s (suc n) i p h = length-append (p i) (each n (suc i) p) ∙ omega (arith, h i, length-each s n (suc i) p h)

pub map_each : {A B : Type 0} (g : A → B) (n i : ℕ) (p : ℕ → List A) → map g (each n i p) ≡ each n i (λ k. map g (p k))
unfolding each
map_each g zero i p = refl
map_each {B = B} g (suc n) i p = map-append g (p i) (each n (suc i) p) ∙ ap (λ (r : List B). map g (p i) ++ r) (map_each g n (suc i) p)

pub only_few {ℓ} : {A : Type ℓ} (b : Bool) (x : A) → length (only b x) ≤ 1
only_few true x = omega arith
only_few false x = omega arith

-- at most m in each piece
pub each_few {ℓ} : {A : Type ℓ} (m n i : ℕ) (p : ℕ → List A) → ((k : ℕ) → length (p k) ≤ m) → length (each n i p) ≤ m * n
unfolding each
each_few m zero i p h = omega arith
each_few m (suc n) i p h = omega (arith, length-append (p i) (each n (suc i) p), each_few m n (suc i) p h, h i)

-- one for each number of which p holds
pub count_each {ℓ} : {A : Type ℓ} (p : ℕ → Bool) (x : ℕ → A) (n i : ℕ) → length (each n i (λ k. only (p k) (x k))) + count i p ≡ count (i + n) p
unfolding each count
count_each p x zero i = let e : i + 0 ≡ i = omega arith in rw e (omega arith)
count_each p x (suc n) i =
    let e : i + suc n ≡ suc i + n = omega arith in
    let one : length (only (p i) (x i)) ≡ cond (p i) 1 0 = split (λ b. length (only b (x i)) ≡ cond b 1 0) (p i) (λ _. refl) (λ _. refl) in
    rw e (omega (arith, count_each p x n (suc i), length-append (only (p i) (x i)) (each n (suc i) (λ k. only (p k) (x k))), one))

-- ---- searches
pub below_none : (n i : ℕ) (bad : ℕ → Bool) → ((k : ℕ) → i ≤ k → k < i + n → bad k ≡ false) → lowest_from i n bad ≡ i + n
unfolding lowest_from
below_none zero i bad h = omega arith
below_none (suc n) i bad h =
    rw (h i (omega arith) (omega arith)) (below_none n (suc i) bad (λ k a b. h k (omega arith) (omega arith)) ∙ omega arith)

pub lowest_none : (n : ℕ) (bad : ℕ → Bool) → ((k : ℕ) → k < n → bad k ≡ false) → lowest n bad ≡ n
lowest_none n bad h = below_none n 0 bad (λ k a b. h k (omega arith)) ∙ omega arith

pub lowest_from-good : (n i : ℕ) (bad : ℕ → Bool) (k : ℕ) → i ≤ k → k < lowest_from i n bad → bad k ≡ false
unfolding lowest_from
lowest_from-good zero i bad k a b = absurd (omega arith)
lowest_from-good (suc n) i bad k a b = split (λ t. k < cond t i (lowest_from (suc i) n bad) → bad k ≡ false) (bad i)
    (λ e l. absurd (omega arith))
    (λ e l. later e (ℕ_discrete i k) (λ c. lowest_from-good n (suc i) bad k c l)) b
  where
    later : bad i ≡ false → Dec (i ≡ k) → (suc i ≤ k → bad k ≡ false) → bad k ≡ false
    later e (yes q) r = ap bad (sym q) ∙ e
    later e (no d) r = r (omega arith)

-- below the lowest bad one, none is
pub lowest_good : (n : ℕ) (bad : ℕ → Bool) (k : ℕ) → k < lowest n bad → bad k ≡ false
lowest_good n bad k h = lowest_from-good n 0 bad k (omega arith) h

pub lowest_from_le : (n i : ℕ) (bad : ℕ → Bool) → lowest_from i n bad ≤ i + n
unfolding lowest_from
lowest_from_le zero i bad = omega arith
lowest_from_le (suc n) i bad =
    split (λ t. cond t i (lowest_from (suc i) n bad) ≤ i + suc n) (bad i) (λ e. omega arith) (λ e. omega (arith, lowest_from_le n (suc i) bad))

lowest_from_ge : (n i : ℕ) (bad : ℕ → Bool) → i ≤ lowest_from i n bad
unfolding lowest_from
lowest_from_ge zero i bad = omega arith
lowest_from_ge (suc n) i bad = split (λ t. i ≤ cond t i (lowest_from (suc i) n bad)) (bad i) (λ e. omega arith) (λ e. omega (arith, lowest_from_ge n (suc i) bad))

pub lowest_from_bad : (n i : ℕ) (bad : ℕ → Bool) → lowest_from i n bad < i + n → bad (lowest_from i n bad) ≡ true
unfolding lowest_from
lowest_from_bad zero i bad h = absurd (omega arith)
lowest_from_bad (suc n) i bad h =
    split (λ t. cond t i (lowest_from (suc i) n bad) < i + suc n → bad (cond t i (lowest_from (suc i) n bad)) ≡ true) (bad i)
    (λ e l. e) (λ e l. lowest_from_bad n (suc i) bad (omega arith)) h

-- the lowest bad one is bad
pub lowest_bad : (n : ℕ) (bad : ℕ → Bool) → lowest n bad < n → bad (lowest n bad) ≡ true
lowest_bad n bad h = lowest_from_bad n 0 bad (omega arith)

lowest_from_cong : (n i : ℕ) (p q : ℕ → Bool) → ((k : ℕ) → i ≤ k → k < i + n → p k ≡ q k) → lowest_from i n p ≡ lowest_from i n q
unfolding lowest_from
lowest_from_cong zero i p q e = refl
lowest_from_cong (suc n) i p q e =
    rw (e i (omega arith) (omega arith), lowest_from_cong n (suc i) p q (λ k a b. e k (omega arith) (omega arith)))

-- tests that agree find the same
pub lowest_cong : (n : ℕ) (p q : ℕ → Bool) → ((k : ℕ) → k < n → p k ≡ q k) → lowest n p ≡ lowest n q
lowest_cong n p q e = lowest_from_cong n 0 p q (λ k a b. e k (omega arith))

-- the lowest of q below the lowest of p is the lowest of either
lowest_from_either : (n i : ℕ) (p q : ℕ → Bool) → lowest_from i (lowest_from i n p - i) q ≡ lowest_from i n (λ k. p k || q k)
unfolding lowest_from
lowest_from_either zero i p q = let z : i - i ≡ 0 = omega arith in rw z
lowest_from_either (suc n) i p q = split (λ t. lowest_from i (cond t i (lowest_from (suc i) n p) - i) q ≡ cond (t || q i) i (lowest_from (suc i) n (λ k. p k || q k))) (p i)
    (λ e. let z : i - i ≡ 0 = omega arith in rw z)
    (λ e. let l = lowest_from_ge n (suc i) p in
    let s : lowest_from (suc i) n p - i ≡ suc (lowest_from (suc i) n p - suc i) = omega arith in
    rw s (ap (cond (q i) i) (lowest_from_either n (suc i) p q)))

pub lowest_either : (n : ℕ) (p q : ℕ → Bool) → lowest (lowest n p) q ≡ lowest n (λ k. p k || q k)
lowest_either n p q = let e : lowest n p ≡ lowest n p - 0 = omega arith in ap (λ (m : ℕ). lowest m q) e ∙ lowest_from_either n 0 p q

pub lowest_le : (n : ℕ) (p : ℕ → Bool) → lowest n p ≤ n
lowest_le n p = omega (arith, lowest_from_le n 0 p)

pub every_true : (n : ℕ) (p : ℕ → Bool) → every n p ≡ true → (k : ℕ) → k < n → p k ≡ true
unfolding every
every_true zero p e k h = absurd (omega arith)
every_true (suc n) p e k h = let a = and_true (every n p) (p n) e in last a.1 (ℕ_discrete k n) (every_true n p a.0 k)
  where
    last : p n ≡ true → Dec (k ≡ n) → (k < n → p k ≡ true) → p k ≡ true
    last a (yes q) r = ap p q ∙ a
    last a (no d) r = r (omega arith)

pub every_all : (n : ℕ) (p : ℕ → Bool) → ((k : ℕ) → k < n → p k ≡ true) → every n p ≡ true
unfolding every
every_all zero p h = refl
every_all (suc n) p h = rw (every_all n p (λ k l. h k (omega arith)), h n (omega arith))

-- ---- the same numbers
pub same_true : (xs ys : List ℕ) → same xs ys ≡ true → xs ≡ ys
unfolding same
same_true [] [] e = refl
same_true [] (y ∷ ys) e = absurd (false≢true e)
same_true (x ∷ xs) [] e = absurd (false≢true e)
same_true (x ∷ xs) (y ∷ ys) e =
    let a = and_true (eqb x y) (same xs ys) e in
    let p = eqb-true x y a.0 in let q = same_true xs ys a.1 in λ i. p i ∷ q i

pub same_refl : (xs : List ℕ) → same xs xs ≡ true
unfolding same
same_refl [] = refl
same_refl (x ∷ xs) = rw (eq-eqb x x refl) (same_refl xs)

-- ---- members
pub member-append : (x : ℕ) (a b : List ℕ) → member x (a ++ b) ≡ cond (member x a) true (member x b)
member-append x [] b = refl
member-append x (y ∷ a) b = go (eqb x y) (member-append x a b)
  where
    go : (t : Bool) → member x (a ++ b) ≡ cond (member x a) true (member x b)
        → cond t true (member x (a ++ b)) ≡ cond (cond t true (member x a)) true (member x b)
    go true e = refl
    go false e = e

abbrev pub members : ℕ → Reads ℕ Bool
members x =
    record {
      read = member x;
      none = false;
      join = λ a b. cond a true b;
      of_nil = refl;
      of_append = member-append x;
      left_none = λ b. refl;
      right_none = ends;
    }
  where
    ends : (b : Bool) → cond b true false ≡ b
    ends true = refl
    ends false = refl

-- ---- each face
pub six : (P : ℕ → Type 0) → P 0 → P 1 → P 2 → P 3 → P 4 → P 5 → (f : ℕ) → f < 6 → P f
six P a b c d e f zero h = a
six P a b c d e f (suc zero) h = b
six P a b c d e f (suc (suc zero)) h = c
six P a b c d e f (suc (suc (suc zero))) h = d
six P a b c d e f (suc (suc (suc (suc zero)))) h = e
six P a b c d e f (suc (suc (suc (suc (suc zero))))) h = f
six P a b c d e f (suc (suc (suc (suc (suc (suc n)))))) h = absurd (omega arith)

-- ---- each element of a list
abbrev pub All {ℓ} : {A : Type ℓ} → (A → Type 0) → List A → Type 0
All P [] = Unit {0}
All P (x ∷ xs) = P x × All P xs

pub all_kept {ℓ} : {A : Type ℓ} {P R : A → Type 0} → ((x : A) → P x → R x) → (xs : List A) → All P xs → All R xs
all_kept h [] a = tt
all_kept h (x ∷ xs) a = (h x a.0, all_kept h xs a.1)

pub all_with {ℓ} : {A : Type ℓ} {P Q R : A → Type 0} → ((x : A) → P x → Q x → R x) → (xs : List A) → All P xs → All Q xs → All R xs
all_with f [] p q = tt
all_with f (x ∷ xs) p q = (f x p.0 q.0, all_with f xs p.1 q.1)

pub all_map : {A B : Type 0} (P : B → Type 0) (g : A → B) (xs : List A) → All (λ x. P (g x)) xs → All P (map g xs)
all_map P g [] a = tt
all_map P g (x ∷ xs) a = (a.0, all_map P g xs a.1)

-- another number than all of them is none of them
pub not_member : (k : ℕ) (ks : List ℕ) → All (λ x. eqb k x ≡ false) ks → member k ks ≡ false
not_member k [] a = refl
not_member k (x ∷ ks) a = rw a.0 (not_member k ks a.1)

module _ {ℓ} {A : Type ℓ} (P : A → Type 0) where
  pub all_append : (a b : List A) → All P a → All P b → All P (a ++ b)
  all_append [] b v w = w
  all_append (x ∷ a) b v w = (v.0, all_append a b v.1 w)

  pub all_take : (n : ℕ) (a : List A) → All P a → All P (take n a)
  all_take zero a v = tt
  all_take (suc n) [] v = tt
  all_take (suc n) (x ∷ a) v = (v.0, all_take n a v.1)

  pub all_drop : (n : ℕ) (a : List A) → All P a → All P (drop n a)
  all_drop zero a v = v
  all_drop (suc n) [] v = tt
  all_drop (suc n) (x ∷ a) v = all_drop n a v.1

  pub all_at : (a : List A) (q : ℕ) (d : A) → All P a → q < length a → P (get_or a q d)
  all_at [] q d v h = absurd (omega arith)
  all_at (x ∷ a) zero d v h = v.0
  all_at (x ∷ a) (suc q) d v h = all_at a q d v.1 (omega arith)

  pub all_of : (a : List A) (d : A) → ((q : ℕ) → q < length a → P (get_or a q d)) → All P a
  all_of [] d h = tt
  all_of (x ∷ a) d h = (h 0 (omega arith), all_of a d (λ q l. h (suc q) (omega arith)))

  pub all_each : (n i : ℕ) (p : ℕ → List A) → ((k : ℕ) → i ≤ k → k < i + n → All P (p k)) → All P (each n i p)
  unfolding each
  all_each zero i p h = tt
  all_each (suc n) i p h =
      all_append (p i) (each n (suc i) p) (h i (omega arith) (omega arith)) (all_each n (suc i) p (λ k a b. h k (omega arith) (omega arith)))

  pub all_if : (b : Bool) (x : A) → (b ≡ true → P x) → All P (only b x)
  all_if true x v = (v refl, tt)
  all_if false x v = tt

  pub all_only : (b : Bool) (x : A) → P x → All P (only b x)
  all_only b x v = all_if b x (λ _. v)
