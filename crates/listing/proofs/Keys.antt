-- The faces that side sets draw, by their keys: how many, some cells and then others, and what holds of each. Assumes nothing.
use mathlib.Core.Path.{◌≡◌, refl, sym, ap, ◌∙◌}
use mathlib.Core.Bool.{true}
use mathlib.Core.List.{List, [], ◌∷◌, ◌++◌, map, append-nil}
use Prim.Native.Nat.{ℕ, zero, suc, ◌+◌, ◌-◌, ◌≤◌, ◌<◌}
use native.Mathlib.Omega.{arith}
use lib.ListN.{length, take, length-append}
use lib.Seq.{get_or-take, length-take-le}
use Rattle.rules.specs.Lists.{each, only, count}
use Rattle.rules.specs.Cells.{key_of, has, quads_of}
use Rattle.rules.proofs.ListLaws.{All, all_each, all_if, each_same, each_split, count_each}
use Rattle.listing.specs.Fresh.{RowOf, sets_from, asked, cell_keys, keys_of}
use Rattle.listing.proofs.Rows.{asked_split, asked_moved}

-- ---- how many
pub length-cell : (set c : ℕ) → length (cell_keys set c) ≡ quads_of set
unfolding count
length-cell set c =
    let r = count_each (has set) (key_of c) 6 0 in let z : length (cell_keys set c) + 0 ≡ length (cell_keys set c) = omega arith in sym z ∙ r

pub length_keys : (sets : ℕ → ℕ) (n c : ℕ) → length (keys_of sets c n) ≡ asked sets c n
unfolding keys_of asked each
length_keys sets zero c = refl
length_keys sets (suc n) c =
    length-append (cell_keys (sets c) c) (keys_of sets (suc c) n) ∙ omega (arith, length-cell (sets c) c, length_keys sets n (suc c))

-- ---- some cells and then others
pub keys_none : (sets : ℕ → ℕ) (c : ℕ) → keys_of sets c 0 ≡ []
unfolding keys_of each
keys_none sets c = refl

pub keys_on : (sets : ℕ → ℕ) (m n c : ℕ) → keys_of sets c (m + n) ≡ keys_of sets c m ++ keys_of sets (c + m) n
unfolding keys_of
keys_on sets m n c = each_split m n c (λ k. cell_keys (sets k) k)

-- one cell more
pub keys_more : (sets : ℕ → ℕ) (n c : ℕ) → keys_of sets c (n + 1) ≡ keys_of sets c n ++ cell_keys (sets (c + n)) (c + n)
unfolding keys_of each
keys_more sets n c = keys_on sets n 1 c ∙ ap (λ (r : List ℕ). keys_of sets c n ++ r) (append-nil (cell_keys (sets (c + n)) (c + n)))

-- the first cells that ask for as many as all draw what all do
pub keys_all : (sets : ℕ → ℕ) (c n : ℕ) → c ≤ n → asked sets 0 n ≤ asked sets 0 c → keys_of sets 0 c ≡ keys_of sets 0 n
keys_all sets c n h a =
    let e : c + (n - c) ≡ n = omega arith in
    let k = keys_on sets c (n - c) 0 ∙ ap (λ (r : List ℕ). keys_of sets 0 c ++ r)
    (none_left (keys_of sets (0 + c) (n - c)) (omega (arith, length_keys sets (n - c) (0 + c), asked_split sets c (n - c) 0, ap (asked sets 0) e))) in
    sym (append-nil (keys_of sets 0 c)) ∙ sym k ∙ ap (keys_of sets 0) e
  where
    none_left : (ks : List ℕ) → length ks ≡ 0 → ks ≡ []
    none_left [] e = refl
    none_left (k ∷ ks) e = absurd (omega arith)

pub keys_like : (s t : ℕ → ℕ) (n c : ℕ) → ((k : ℕ) → c ≤ k → k < c + n → s k ≡ t k) → keys_of s c n ≡ keys_of t c n
unfolding keys_of
keys_like s t n c e = each_same n c (λ k. cell_keys (s k) k) (λ k. cell_keys (t k) k) (λ k a b. ap (λ (set : ℕ). cell_keys set k) (e k a b))

-- a row that holds the sets of its cells
module _ (sets : ℕ → ℕ) (c n : ℕ) (list : List ℕ) (h : n ≤ length list) (r : RowOf sets c n list) where
  listed : (k : ℕ) → c ≤ k → k < c + n → sets_from c (take n list) k ≡ sets k
  listed k a b =
      let x : k - c < n = omega arith in
      get_or-take n list (k - c) 0 x ∙ r (k - c) x ∙ ap sets (omega arith)

  pub row_keys : keys_of (sets_from c (take n list)) c (length (take n list)) ≡ keys_of sets c n
  row_keys = ap (keys_of (sets_from c (take n list)) c) (length-take-le n list h) ∙ keys_like (sets_from c (take n list)) sets n c listed

  pub row_asked : asked (sets_from c (take n list)) c (length (take n list)) ≡ asked sets c n
  row_asked =
      ap (asked (sets_from c (take n list)) c) (length-take-le n list h)
      ∙ asked_moved (sets_from c (take n list)) sets n c c (λ x l. listed (c + x) (omega arith) (omega arith))

-- ---- what holds of each face that is drawn
module _ (P : ℕ → Type 0) where
  all_cell : (set c : ℕ) → ((f : ℕ) → f < 6 → has set f ≡ true → P (key_of c f)) → All P (cell_keys set c)
  all_cell set c h = all_each P 6 0 (λ f. only (has set f) (key_of c f)) (λ f u v. all_if P (has set f) (key_of c f) (h f (omega arith)))

  pub all_keys : (sets : ℕ → ℕ) (n c : ℕ) → ((k f : ℕ) → c ≤ k → k < c + n → f < 6 → has (sets k) f ≡ true → P (key_of k f)) → All P (keys_of sets c n)
  unfolding keys_of
  all_keys sets n c h = all_each P n c (λ k. cell_keys (sets k) k) (λ k a b. all_cell (sets k) k (λ f. h k f a b))

map_like : (f g : ℕ → ℕ) (ks : List ℕ) → All (λ k. f k ≡ g k) ks → map f ks ≡ map g ks
map_like f g [] h = refl
map_like f g (k ∷ ks) h = let a = h.0 in let b = map_like f g ks h.1 in λ i. a i ∷ b i

pub map-cell : (f g : ℕ → ℕ) (set c : ℕ) → ((i : ℕ) → i < 6 → f (key_of c i) ≡ g (key_of c i)) → map f (cell_keys set c) ≡ map g (cell_keys set c)
map-cell f g set c e = map_like f g (cell_keys set c) (all_cell (λ k. f k ≡ g k) set c (λ i l h. e i l))
