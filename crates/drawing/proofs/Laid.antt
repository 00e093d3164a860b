-- Faces written from none on are the layout of their quads, list by list. Assumes nothing.
use mathlib.Core.Path.{◌≡◌, refl, sym, ap, ◌∙◌}
use mathlib.Core.Bool.{false}
use mathlib.Core.List.{List, [], ◌∷◌, ◌++◌, map, append_assoc, append-nil}
use Prim.Native.Nat.{ℕ, zero, suc, ◌+◌, ◌-◌, ◌*◌, ◌≤◌, ◌<◌}
use native.Mathlib.Nat.{mul_comm}
use native.Mathlib.Omega.{arith}
use lib.ListN.{length, drop, replicate, set, length-append, length-map}
use lib.Seq.{set-append_left}
use borrow.Author.Tests.{ne_eqb}
use Rattle.rules.specs.Lists.{each, table}
use Rattle.rules.specs.Cells.{first_vertex}
use Rattle.rules.specs.Mesh.{Quad, NONE, at, there, rows, laid, slot_of}
use Rattle.rules.specs.Update.{put}
use Rattle.rules.proofs.ListLaws.{All, all_append, length-table}
use Rattle.rules.proofs.Quads.{Once, run_once}
use Rattle.vav.specs.Rows as words
use Rattle.mesh_metadata.proofs.Meshes.{slots_drawn}
use Rattle.drawing.specs.Written.{rows_of, named}
use Rattle.drawing.proofs.Turns.{length-rows}

-- ---- a list of s words a quad

-- rows, and nothing past them but what was there
over : (s n : ℕ) (enc : ℕ → Quad → List ℕ) (m : List Quad) (ys old : List ℕ) → ys ≡ rows enc 0 m → length ys ≡ s * n → length m ≡ n
    → words.put (s * 0) ys old ≡ laid s enc n m old
unfolding words.put laid
over s n enc m ys old e l k =
    let z : s * 0 ≡ 0 = omega arith in
    let none : s * (n - length m) ≡ 0 = ap (λ (i : ℕ). s * i) (let d : n - length m ≡ 0 = omega arith in d) ∙ z in
    let end : 0 + length ys ≡ s * n = omega (arith, l) in
    rw (z, none) (ap (λ (i : ℕ). ys ++ drop i old) end ∙ ap (λ (r : List ℕ). r ++ drop (s * n) old) e)

rows_of_keys : (e : Quad → List ℕ) (quad : ℕ → Quad) (i : ℕ) (keys : List ℕ) → rows_of (λ k. e (quad k)) keys ≡ rows (λ q x. e x) i (map quad keys)
rows_of_keys e quad i [] = refl
rows_of_keys e quad i (k ∷ keys) = ap (λ (r : List ℕ). e (quad k) ++ r) (rows_of_keys e quad (suc i) keys)

-- LAW: where a row does not depend on its place, the rows of faces are the layout of their quads
pub rows_laid : (s : ℕ) (e : Quad → List ℕ) (quad : ℕ → Quad) (keys old : List ℕ) → ((k : ℕ) → length (e (quad k)) ≡ s)
    → words.put (s * 0) (rows_of (λ k. e (quad k)) keys) old ≡ laid s (λ q x. e x) (length keys) (map quad keys) old
rows_laid s e quad keys old wide =
    over s (length keys) (λ q x. e x) (map quad keys) (rows_of (λ k. e (quad k)) keys) old (rows_of_keys e quad 0 keys)
    (length-rows s (λ k. e (quad k)) wide keys) (length-map keys quad)

rows_of_places : (p : ℕ → List ℕ) (i : ℕ) (m : List Quad) → each (length m) i p ≡ rows (λ q x. p q) i m
unfolding each
rows_of_places p i [] = refl
rows_of_places p i (x ∷ m) = ap (λ (r : List ℕ). p i ++ r) (rows_of_places p (suc i) m)

-- LAW: where it depends on its place alone, the rows of the places are
pub places_laid : (s : ℕ) (p : ℕ → List ℕ) (m : List Quad) (old : List ℕ) → ((n i : ℕ) → length (each n i p) ≡ n * s)
    → words.put (s * 0) (each (length m - 0) 0 p) old ≡ laid s (λ q x. p q) (length m) m old
places_laid s p m old wide =
    let n : length m - 0 ≡ length m = omega arith in
    over s (length m) (λ q x. p q) m (each (length m - 0) 0 p) old (ap (λ (k : ℕ). each k 0 p) n ∙ rows_of_places p 0 m)
    (wide (length m - 0) 0 ∙ ap (λ (k : ℕ). k * s) n ∙ mul_comm (length m) s) refl

-- ---- the slots

-- keys that rise from lo on, below hi
abbrev pub Rising : ℕ → ℕ → List ℕ → Type 0
Rising lo hi [] = lo ≤ hi
Rising lo hi (k ∷ keys) = (lo ≤ k) × Rising (suc k) hi keys

pub rising_ends : (lo hi : ℕ) (keys : List ℕ) → Rising lo hi keys → lo ≤ hi
rising_ends lo hi [] h = h
rising_ends lo hi (k ∷ keys) h = let a = h.0 in let b = rising_ends (suc k) hi keys h.1 in omega arith

pub rising_from : (lo lower hi : ℕ) (keys : List ℕ) → lower ≤ lo → Rising lo hi keys → Rising lower hi keys
rising_from lo lower hi [] l h = omega arith
rising_from lo lower hi (k ∷ keys) l h = let a = h.0 in (omega arith, h.1)

pub rising_append : (lo mid hi : ℕ) (a b : List ℕ) → Rising lo mid a → Rising mid hi b → Rising lo hi (a ++ b)
rising_append lo mid hi [] b h k = rising_from mid lo hi b h k
rising_append lo mid hi (x ∷ a) b h k = (h.0, rising_append (suc x) mid hi a b h.1 k)

not_there : (k : ℕ) (m : List Quad) → All (λ q. q.key < k) m → at k m ≡ []
not_there k [] h = refl
not_there k (q ∷ m) h = rw (ne_eqb k q.key (λ e. let l = h.0 in omega arith)) (not_there k m h.1)

below_more : (j k : ℕ) (m : List Quad) → j ≤ k → All (λ q. q.key < j) m → All (λ q. q.key < k) m
below_more j k [] l h = tt
below_more j k (q ∷ m) l h = let a = h.0 in (omega arith, below_more j k m l h.1)

module _ (n : ℕ) (quad : ℕ → Quad) (keyed : (k : ℕ) → (quad k).key ≡ k) (rest : List ℕ) where
  slots_after : (m : List Quad) (lo : ℕ) (keys : List ℕ) → Once m → All (λ q. q.key < lo) m → Rising lo n keys
      → named (length m) keys (table n (slot_of m) ++ rest) ≡ table n (slot_of (m ++ map quad keys)) ++ rest
  slots_after m lo [] o b h = ap (λ (r : List Quad). table n (slot_of r) ++ rest) (sym (append-nil m))
  slots_after m lo (k ∷ keys) o b h =
      let x = quad k in
      let e = keyed k in
      let l = h.0 in
      let top = rising_ends (suc k) n keys h.1 in
      let in_list : k < length (table n (slot_of m)) = omega (arith, length-table (slot_of m) n) in
      let absent : at x.key m ≡ [] = ap (λ (j : ℕ). at j m) e ∙ not_there k m (below_more lo k m l b) in
      let new : there x.key m ≡ false = rw absent in
      let one : set (table n (slot_of m)) k (first_vertex (length m)) ≡ table n (slot_of (m ++ (x ∷ []))) =
      ap (λ (j : ℕ). set (table n (slot_of m)) j (first_vertex (length m))) (sym e) ∙ slots_drawn m o x new n (omega arith) in
      let more : suc (length m) ≡ length (m ++ (x ∷ [])) = sym (length-append m (x ∷ []) ∙ omega arith) in
      ap (named (suc (length m)) keys)
      (set-append_left (table n (slot_of m)) rest k (first_vertex (length m)) in_list ∙ ap (λ (r : List ℕ). r ++ rest) one)
      ∙ ap (λ (j : ℕ). named j keys (table n (slot_of (m ++ (x ∷ []))) ++ rest)) more
      ∙ slots_after (m ++ (x ∷ [])) (suc k) keys (once_more new) (all_append (λ q. q.key < suc k) m (x ∷ []) (below_more lo (suc k) m (omega arith) b) (omega arith, tt)) h.1
      ∙ ap (λ (r : List Quad). table n (slot_of r) ++ rest) (append_assoc m (x ∷ []) (map quad keys))
    where
      once_more : there (quad k).key m ≡ false → Once (m ++ (quad k ∷ []))
      once_more new = rw new at (run_once (put (quad k) ∷ []) m o)

  none_there : (i j : ℕ) → each j i (λ k. slot_of [] k ∷ []) ≡ replicate j NONE
  unfolding each
  none_there i zero = refl
  none_there i (suc j) = ap (λ (r : List ℕ). NONE ∷ r) (none_there (suc i) j)

  -- LAW: rising faces named over bare slots are the slots of their quads
  pub slots_named : (keys : List ℕ) → Rising 0 n keys → named 0 keys (replicate n NONE ++ rest) ≡ table n (slot_of (map quad keys)) ++ rest
  slots_named keys h =
      ap (λ (r : List ℕ). named 0 keys (r ++ rest)) (sym (none_there 0 n)) ∙ slots_after [] 0 keys (λ k. omega arith) tt h
