-- A cube made of its parts: two corners and six tiles give the rule's words. Assumes nothing.
use mathlib.Core.Path.{◌≡◌, refl, sym, ap, ◌∙◌}
use mathlib.Core.Bool.{Bool, true, false, cond}
use mathlib.Core.List.{List, [], ◌∷◌, ◌++◌}
use Prim.Native.Nat.{ℕ, zero, suc, ◌+◌, ◌-◌, ◌*◌, ◌/◌, ◌<◌}
use native.Mathlib.Nat.{suc-mul, mul-suc}
use native.Mathlib.Decide.{dec_lt}
use native.Mathlib.Omega.{arith}
use lib.Dec.{eqb}
use lib.ListN.{length}
use borrow.Author.Tests.{lt-ltb, le-ltb}
use Rattle.rules.specs.Lists.{each, table}
use Rattle.rules.specs.Cells as cells
use Rattle.rules.specs.Cells.{along}
use Rattle.rules.specs.Cube as rules
use Rattle.rules.specs.Cube.{is_high, is_end, corner_word, uv_in, uv_of, cube_word}
use Rattle.rules.proofs.ListLaws.{each_split}
use Rattle.floats.specs.declared.Triple.{Triple}
use Rattle.floats.specs.Triples.{triple_of}
use Rattle.vav.specs.Rows.{put}
use Rattle.vav.proofs.Laws.{put_next, put_whole}
use Rattle.voxel_mesh.specs.declared.Shape.{Shape}
use Rattle.voxel_mesh.specs.declared.Tile.{Tile}
use Rattle.voxel_mesh.specs.Outcome.{shape_of}
use Rattle.voxel_mesh.specs.Parts.{corner_in, Cornered, Tiled, tile_word, part_word}

-- ---- a word by its parts

corner_along : (q : rules.Shape) (high : Bool) (k : ℕ) → along (corner_in q high) k ≡ corner_word high (along q.d k) (along q.centre k)
corner_along q high k = go (eqb k 0) (eqb k 1)
  where
    go : (a b : Bool) → cond a (corner_in q high).x (cond b (corner_in q high).y (corner_in q high).z)
        ≡ corner_word high (cond a q.d.x (cond b q.d.y q.d.z)) (cond a q.centre.x (cond b q.centre.y q.centre.z))
    go true b = refl
    go false true = refl
    go false false = refl

module _ (s : Shape) (texture : List ℕ) (low high : Triple) (t : Tile) (vertex : ℕ) where
  abbrev q : rules.Shape
  q = shape_of s texture

  position : Cornered q low high → (k : ℕ)
      → cond (is_high vertex k) (along (triple_of high) k) (along (triple_of low) k) ≡ corner_word (is_high vertex k) (along q.d k) (along q.centre k)
  position c k = go (is_high vertex k)
    where
      go : (b : Bool) → cond b (along (triple_of high) k) (along (triple_of low) k) ≡ corner_word b (along q.d k) (along q.centre k)
      go true = ap (λ (v : cells.Triple). along v k) c.high_is ∙ corner_along q true k
      go false = ap (λ (v : cells.Triple). along v k) c.low_is ∙ corner_along q false k

  uv : Tiled q (vertex / 4) t → (axis : ℕ) → axis < 2 → tile_word t (is_end vertex axis) axis ≡ uv_of q vertex axis
  unfolding uv_of
  uv w zero h = go (is_end vertex 0)
    where
      go : (b : Bool) → cond b t.right t.left ≡ uv_in q (rules.last_naming texture (vertex / 4) 6) b 0
      go true = w.right_is
      go false = w.left_is
  uv w (suc zero) h = go (is_end vertex 1)
    where
      go : (b : Bool) → cond b t.bottom t.top ≡ uv_in q (rules.last_naming texture (vertex / 4) 6) b 1
      go true = w.bottom_is
      go false = w.top_is
  uv w (suc (suc axis)) h = absurd (omega arith)

  -- LAW: the words by the parts are the rule's
  pub part_is : Cornered q low high → Tiled q (vertex / 4) t → (k : ℕ) → part_word s low high t vertex k ≡ cube_word q vertex k
  unfolding part_word cube_word
  part_is c w k = go (dec_lt k 3) (dec_lt k 6) (dec_lt k 8)
    where
      go : Dec (k < 3) → Dec (k < 6) → Dec (k < 8) → part_word s low high t vertex k ≡ cube_word q vertex k
      go (yes a) b d = rw (lt-ltb k 3 a) (position c k)
      go (no a) (yes b) d = rw (le-ltb k 3 (omega arith), lt-ltb k 6 b)
      go (no a) (no b) (yes d) = rw (le-ltb k 3 (omega arith), le-ltb k 6 (omega arith), lt-ltb k 8 d) (uv w (k - 6) (omega arith))
      go (no a) (no b) (no d) = rw (le-ltb k 3 (omega arith), le-ltb k 6 (omega arith), le-ltb k 8 (omega arith))

-- ---- a vertex, four words at a time
module _ (f : ℕ → ℕ) (xs : List ℕ) where
  abbrev four : ℕ → List ℕ
  four k = f k ∷ f (k + 1) ∷ f (k + 2) ∷ f (k + 3) ∷ []

  abbrev pub eight : List ℕ
  eight = put 4 (f 4 ∷ f 5 ∷ f 6 ∷ f 7 ∷ []) (put 0 (f 0 ∷ f 1 ∷ f 2 ∷ f 3 ∷ []) xs)

  eight_put : eight ≡ put 0 (table 8 f) xs
  unfolding each
  eight_put = put_next 0 (f 0 ∷ f 1 ∷ f 2 ∷ f 3 ∷ []) (f 4 ∷ f 5 ∷ f 6 ∷ f 7 ∷ []) xs (omega arith)

  pub eight_is : length xs ≡ 8 → eight ≡ table (length xs) f
  unfolding each
  eight_is e = eight_put ∙ put_whole (table 8 f) xs (sym e) ∙ ap (λ (n : ℕ). table n f) (sym e)

  pub twelve_is : length xs ≡ 12 → put 8 (f 8 ∷ f 9 ∷ f 10 ∷ f 11 ∷ []) eight ≡ table (length xs) f
  unfolding each
  twelve_is e =
      ap (put 8 (f 8 ∷ f 9 ∷ f 10 ∷ f 11 ∷ [])) eight_put
      ∙ put_next 0 (table 8 f) (f 8 ∷ f 9 ∷ f 10 ∷ f 11 ∷ []) xs (omega arith)
      ∙ put_whole (table 12 f) xs (sym e) ∙ ap (λ (n : ℕ). table n f) (sym e)

-- ---- rows from j on, and in groups of n
pub each_from : (n i j : ℕ) (p : ℕ → List ℕ) → each n i (λ k. p (j + k)) ≡ each n (j + i) p
unfolding each
each_from zero i j p = refl
each_from (suc n) i j p =
    let e : j + suc i ≡ suc (j + i) = omega arith in
    ap (λ (r : List ℕ). p (j + i) ++ r) (each_from n (suc i) j p ∙ ap (λ (k : ℕ). each n k p) e)

pub grouped : (n m j : ℕ) (p : ℕ → List ℕ) → each m j (λ f. each n (n * f) p) ≡ each (m * n) (n * j) p
unfolding each
grouped n zero j p = let z : 0 * n ≡ 0 = omega arith in rw z
grouped n (suc m) j p =
    let a : suc m * n ≡ n + m * n = omega (arith, suc-mul m n) in
    let b : n * suc j ≡ n * j + n = omega (arith, mul-suc n j) in
    ap (λ (r : List ℕ). each n (n * j) p ++ r) (grouped n m (suc j) p ∙ ap (λ (k : ℕ). each (m * n) k p) b)
    ∙ sym (each_split n (m * n) (n * j) p) ∙ ap (λ (k : ℕ). each k (n * j) p) (sym a)
