-- How many quads the side sets of cells ask for: some cells and then others, and a row. Assumes nothing.
use mathlib.Core.Path.{◌≡◌, refl, ap, ap₂, subst, ◌∙◌}
use mathlib.Core.List.{List, ◌++◌}
use Prim.Native.Nat.{ℕ, zero, suc, ◌+◌, ◌-◌, ◌*◌, ◌≤◌, ◌<◌}
use native.Mathlib.Omega.{arith}
use lib.ListN.{length, get_or, take, length-append, get_or-append}
use lib.Seq.{get_or-take, length-take-le, get_or-append-add}
use Rattle.rules.specs.Cells.{quads_of}
use Rattle.listing.specs.Fresh.{RowOf, sets_from, asked}
use Rattle.listing.proofs.Sets.{quads_le}

pub asked_split : (sets : ℕ → ℕ) (m n c : ℕ) → asked sets c (m + n) ≡ asked sets c m + asked sets (c + m) n
unfolding asked
asked_split sets zero n c =
    let a : 0 + n ≡ n = omega arith in
    let b : c + 0 ≡ c = omega arith in
    rw (a, b) (omega arith)
asked_split sets (suc m) n c =
    let a : suc m + n ≡ suc (m + n) = omega arith in
    let b : c + suc m ≡ suc c + m = omega arith in
    rw (a, b) (omega (arith, asked_split sets m n (suc c)))

pub asked_step : (sets : ℕ → ℕ) (n c : ℕ) → asked sets c (n + 1) ≡ asked sets c n + quads_of (sets (c + n))
unfolding asked
asked_step sets n c = omega (arith, asked_split sets n 1 c)

pub asked_le : (sets : ℕ → ℕ) (m n c : ℕ) → m ≤ n → asked sets c m ≤ asked sets c n
asked_le sets m n c h =
    let e : m + (n - m) ≡ n = omega arith in
    let a = ap (asked sets c) e in
    omega (arith, asked_split sets m (n - m) c)

pub asked_few : (sets : ℕ → ℕ) (n c : ℕ) → asked sets c n ≤ 6 * n
unfolding asked
asked_few sets zero c = omega arith
asked_few sets (suc n) c = omega (arith, quads_le (sets c), asked_few sets n (suc c))

-- the same sets, elsewhere
pub asked_moved : (s t : ℕ → ℕ) (n a c : ℕ) → ((x : ℕ) → x < n → s (a + x) ≡ t (c + x)) → asked s a n ≡ asked t c n
unfolding asked
asked_moved s t zero a c e = refl
asked_moved s t (suc n) a c e =
    let o : s a ≡ t c = ap s (omega arith) ∙ e 0 (omega arith) ∙ ap t (omega arith) in
    rw (o, asked_moved s t n (suc a) (suc c) (λ x h. ap s (omega arith) ∙ e (x + 1) (omega arith) ∙ ap t (omega arith)))

-- a row that holds the sets of its cells asks for what they ask for
pub asked_row : (sets : ℕ → ℕ) (c n : ℕ) (list : List ℕ) → n ≤ length list → RowOf sets c n list
    → asked (sets_from 0 (take n list)) 0 (length (take n list)) ≡ asked sets c n
asked_row sets c n list h r =
    let l = length-take-le n list h in
    ap (asked (sets_from 0 (take n list)) 0) l
    ∙ asked_moved (sets_from 0 (take n list)) sets n 0 c
    (λ x k. ap (λ (i : ℕ). get_or (take n list) i 0) (omega arith) ∙ get_or-take n list x 0 k ∙ r x k)

-- the first cells, and a row more
pub asked_on : (sets : ℕ → ℕ) (c n : ℕ) → asked sets 0 (c + n) ≡ asked sets 0 c + asked sets c n
asked_on sets c n = asked_split sets c n 0 ∙ ap (λ (k : ℕ). asked sets 0 c + asked sets k n) (omega arith)

-- the first sets and the rest
pub asked_append : (xs ys : List ℕ) → asked (sets_from 0 (xs ++ ys)) 0 (length (xs ++ ys)) ≡ asked (sets_from 0 xs) 0 (length xs) + asked (sets_from 0 ys) 0 (length ys)
asked_append xs ys =
    ap (asked (sets_from 0 (xs ++ ys)) 0) (length-append xs ys)
    ∙ asked_split (sets_from 0 (xs ++ ys)) (length xs) (length ys) 0
    ∙ ap₂ (λ (a b : ℕ). a + b)
    (asked_moved (sets_from 0 (xs ++ ys)) (sets_from 0 xs) (length xs) 0 0 (λ x h. get_or-append xs ys 0 (0 + x - 0) (omega arith) ∙ refl))
    (asked_moved (sets_from 0 (xs ++ ys)) (sets_from 0 ys) (length ys) (0 + length xs) 0
    (λ x h. ap (λ (i : ℕ). get_or (xs ++ ys) i 0) (omega arith) ∙ get_or-append-add xs ys x 0 ∙ ap (λ (i : ℕ). get_or ys i 0) (omega arith)))

pub below_of : (xs ys : List ℕ) → ((x : ℕ) → x < length (xs ++ ys) → get_or (xs ++ ys) x 0 < 64) → (x : ℕ) → x < length xs → get_or xs x 0 < 64
below_of xs ys b x h = subst (λ (n : ℕ). n < 64) (get_or-append xs ys 0 x h) (b x (omega (arith, length-append xs ys)))

pub below_rest : (xs ys : List ℕ) → ((x : ℕ) → x < length (xs ++ ys) → get_or (xs ++ ys) x 0 < 64) → (y : ℕ) → y < length ys → get_or ys y 0 < 64
below_rest xs ys b y h = subst (λ (n : ℕ). n < 64) (get_or-append-add xs ys y 0) (b (length xs + y) (omega (arith, length-append xs ys)))

-- a part of what is left is counted
pub part_counted : (rest xs ys : List ℕ) (n all k : ℕ) → rest ≡ xs ++ ys → k ≡ asked (sets_from 0 xs) 0 (length xs) → n + asked (sets_from 0 rest) 0 (length rest) ≡ all
    → n + k + asked (sets_from 0 ys) 0 (length ys) ≡ all
part_counted rest xs ys n all k e h i =
    omega (arith, h, asked_append xs ys, subst (λ (l : List ℕ). n + asked (sets_from 0 l) 0 (length l) ≡ all) e i)

pub nothing_left : (rest : List ℕ) (n all : ℕ) → length rest ≡ 0 → n + asked (sets_from 0 rest) 0 (length rest) ≡ all → n ≡ all
unfolding asked
nothing_left rest n all e i = omega (arith, rw e at i)
