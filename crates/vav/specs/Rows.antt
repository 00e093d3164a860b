-- Rows of a list of n words a row. Definitions only.
use Rattle.std.specs.Prelude.{ℕ, suc, ◌+◌, ◌-◌, ◌*◌, cond, List, [], ◌∷◌, ◌++◌, length, get_or, take, drop, replicate}
use Rattle.rules.specs.Lists.{part}
use Rattle.rules.specs.Update.{shifts}

-- xs with ys written over it at `at`
unfoldable pub put : ℕ → List ℕ → List ℕ → List ℕ
put at ys xs = take at xs ++ (ys ++ drop (at + length ys) xs)

-- four words of a list, from word j on
abbrev pub four : List ℕ → ℕ → List ℕ
four xs j = get_or xs j 0 ∷ get_or xs (j + 1) 0 ∷ get_or xs (j + 2) 0 ∷ get_or xs (j + 3) 0 ∷ []

-- a row of zeros
abbrev pub zeros : ℕ → List ℕ
zeros n = replicate n 0

-- with Q rows, removing q: the first row that moves. If Q - q ≤ 6 later rows shift down one, else the last takes its place
abbrev pub source_of : ℕ → ℕ → ℕ
source_of q Q = cond (shifts Q q) (suc q) (Q - 1)

-- Q rows, with row q freed: those that move go to q and on, and the freed last place is zeroed
unfoldable pub freed : ℕ → ℕ → ℕ → List ℕ → List ℕ
freed n q Q xs = put (n * (Q - 1)) (zeros n) (put (n * q) (part (n * source_of q Q) (n * (Q - source_of q Q)) xs) xs)
