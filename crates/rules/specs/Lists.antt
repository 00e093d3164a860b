-- What every section says with: rows, stretches and searches. Definitions only.
use Rattle.std.specs.Prelude.{ℕ, zero, suc, ◌+◌, ◌*◌, Bool, true, false, cond, ◌&&◌, List, [], ◌∷◌, ◌++◌, take, drop, eqb}

-- p i, p (i + 1), .., n of them, one after the other
unfoldable pub each {ℓ} : {A : Type ℓ} → ℕ → ℕ → (ℕ → List A) → List A
each zero i p = []
each (suc n) i p = p i ++ each n (suc i) p

-- a where b holds, and nothing where it does not
abbrev pub only {ℓ} : {A : Type ℓ} → Bool → A → List A
only b a = cond b (a ∷ []) []

-- the list v 0, v 1, .., n of them
abbrev pub table {ℓ} : {A : Type ℓ} → ℕ → (ℕ → A) → List A
table n v = each n 0 (λ k. v k ∷ [])

-- the n words that start at `at`
abbrev pub part : ℕ → ℕ → List ℕ → List ℕ
part at n xs = take n (drop at xs)

-- row q of a list of s words a row
abbrev pub row : ℕ → List ℕ → ℕ → List ℕ
row s xs q = part (s * q) s xs

-- the first n words are v 0, v 1, .., and the rest is as it was
abbrev pub filled : ℕ → (ℕ → ℕ) → List ℕ → List ℕ
filled n v xs = table n v ++ drop n xs

-- p holds of each number below n
unfoldable pub every : ℕ → (ℕ → Bool) → Bool
every zero p = true
every (suc n) p = every n p && p n

-- how many numbers below n there are of which p holds
unfoldable pub count : ℕ → (ℕ → Bool) → ℕ
count zero p = 0
count (suc n) p = count n p + cond (p n) 1 0

-- the lowest of i, i + 1, .., n of them, that is bad; i + n where none is
unfoldable pub lowest_from : ℕ → ℕ → (ℕ → Bool) → ℕ
lowest_from i zero bad = i
lowest_from i (suc n) bad = cond (bad i) i (lowest_from (suc i) n bad)

-- the lowest number below n that is bad; n where none is
abbrev pub lowest : ℕ → (ℕ → Bool) → ℕ
lowest n bad = lowest_from 0 n bad

-- two lists hold the same numbers
unfoldable pub same : List ℕ → List ℕ → Bool
same [] [] = true
same [] (y ∷ ys) = false
same (x ∷ xs) [] = false
same (x ∷ xs) (y ∷ ys) = eqb x y && same xs ys

abbrev pub is_nil {ℓ} : {A : Type ℓ} → List A → Bool
is_nil [] = true
is_nil (x ∷ xs) = false

abbrev pub member : ℕ → List ℕ → Bool
member x [] = false
member x (y ∷ ys) = cond (eqb x y) true (member x ys)
