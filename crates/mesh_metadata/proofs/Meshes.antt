-- Links and slots of a mesh: what a draw and a removal make of them. Assumes nothing.
use mathlib.Core.Path.{◌≡◌, refl, sym, ap, ◌∙◌}
use mathlib.Core.Logic.{◌≢◌, ◌⊎◌, inl, inr, ⊎_elim}
use mathlib.Core.Bool.{Bool, true, false, cond, not, true≢false, false≢true}
use mathlib.Core.List.{List, [], ◌∷◌, ◌++◌, map, append-nil}
use Prim.Native.Nat.{ℕ, zero, suc, ◌+◌, ◌-◌, ◌*◌, ◌≤◌, ◌<◌}
use native.Mathlib.Omega.{arith}
use native.Mathlib.Decide.{ℕ_discrete}
use lib.ListN.{length, get_or, set, take, drop, replicate, length-map, length-set, length-replicate, get_or-replicate, get_or-append, get_or-map}
use lib.Seq.{get_or-take, get_or-drop, get_or-append-add, get_or-set_same, get_or-set_other, length-take-le}
use lib.Dec.{eqb}
use borrow.Author.Tests.{le-leb, lt-leb, le-ltb, lt-ltb, eq-eqb, ne_eqb, leb-false, eqb-true}
use Rattle.rules.specs.Lists.{table, only, is_nil}
use Rattle.rules.specs.Cells.{first_vertex}
use Rattle.rules.specs.Mesh.{Quad, at, there, place_of, NONE, slot_of}
use Rattle.rules.specs.Update.{blank, shifts, remove_at}
use Rattle.rules.proofs.ListLaws.{All, all_at, split, length-table, get_d_table, table_is, all_kept}
use Rattle.rules.proofs.Quads.{Once, placed, absent, at-append, at-remove_at, length-remove_at}
use Rattle.rules.proofs.Laying.{Fits, key_at, is_there_lem, distinct_of_once, place_is}
use Rattle.rules.proofs.Index.{is_full, Named, no_other, count_le}
use Rattle.vav.specs.Rows.{source_of}
use Rattle.vav.proofs.Laws.{source_bounds}
use Rattle.mesh_metadata.specs.Index.{shifted, renum}
use Rattle.mesh_metadata.proofs.Slots.{order}

map_at : (f : ℕ → ℕ) (S : List ℕ) (k : ℕ) → k < length S → get_or (map f S) k 0 ≡ f (get_or S k 0)
map_at f [] k h = absurd (omega arith)
map_at f (x ∷ S) zero h = refl
map_at f (x ∷ S) (suc k) h = map_at f S k (omega arith)

-- ---- slot words after a removal
module _ (q Q : ℕ) (h : q < Q) where
  renum_gone : renum q Q (first_vertex q) ≡ NONE
  unfolding renum
  renum_gone = rw (eq-eqb (4 * q) (4 * q) refl)

  renum_none : first_vertex Q < NONE → renum q Q NONE ≡ NONE
  unfolding renum shifted
  renum_none z =
      let d : NONE ≢ 4 * q = λ e. omega arith in
      let a : 4 * Q ≤ NONE = omega arith in
      rw (ne_eqb NONE (4 * q) d, le-ltb NONE (4 * Q) a)

  renum_low : (p : ℕ) → p < source_of q Q → p ≢ q → renum q Q (first_vertex p) ≡ first_vertex p
  unfolding renum shifted
  renum_low p l d =
      let b = source_bounds q Q h in
      let a : 4 * p < 4 * Q = omega arith in
      let e : 4 * p < 4 * source_of q Q = omega arith in
      rw (ne_eqb (4 * p) (4 * q) (λ x. d (omega arith)), lt-ltb (4 * p) (4 * Q) a, lt-leb (4 * source_of q Q) (4 * p) e)

  renum_high : (p : ℕ) → source_of q Q ≤ p → p < Q → renum q Q (first_vertex p) ≡ first_vertex (q + (p - source_of q Q))
  unfolding renum shifted
  renum_high p l m =
      let b = source_bounds q Q h in
      let a : 4 * p < 4 * Q = omega arith in
      let e : 4 * source_of q Q ≤ 4 * p = omega arith in
      rw (ne_eqb (4 * p) (4 * q) (λ x. omega arith), lt-ltb (4 * p) (4 * Q) a, le-leb (4 * source_of q Q) (4 * p) e) (omega arith)

-- ---- quads after a removal
module _ (q : ℕ) (m : List Quad) (h : q < length m) where
  abbrev Q : ℕ
  Q = length m

  -- a quad that does not move
  kept_low : (p : ℕ) → p < source_of q Q → p ≢ q → (p < Q - 1) × (get_or (remove_at q m) p blank ≡ get_or m p blank)
  unfolding remove_at
  kept_low p =
      split (λ t. p < cond t (suc q) (Q - 1) → p ≢ q
      → (p < Q - 1) × (get_or (cond t (take q m ++ drop (suc q) m) (take (Q - 1) (set m q (get_or m (Q - 1) blank)))) p blank ≡ get_or m p blank))
      (shifts Q q)
      (λ t l d. let n = length-take-le q m (omega arith) in
      (omega arith, get_or-append (take q m) (drop (suc q) m) blank p (omega arith) ∙ get_or-take q m p blank (omega arith)))
      (λ t l d. (l, get_or-take (Q - 1) (set m q (get_or m (Q - 1) blank)) p blank l ∙ get_or-set_other m q p (get_or m (Q - 1) blank) blank d))

  -- a quad that moves
  kept_high : (p : ℕ) → source_of q Q ≤ p → p < Q
      → (q + (p - source_of q Q) < Q - 1) × (get_or (remove_at q m) (q + (p - source_of q Q)) blank ≡ get_or m p blank)
  unfolding remove_at
  kept_high p =
      split (λ t. shifts Q q ≡ t → cond t (suc q) (Q - 1) ≤ p → p < Q → (q + (p - cond t (suc q) (Q - 1)) < Q - 1)
      × (get_or (cond t (take q m ++ drop (suc q) m) (take (Q - 1) (set m q (get_or m (Q - 1) blank))))
      (q + (p - cond t (suc q) (Q - 1))) blank ≡ get_or m p blank))
      (shifts Q q)
      (λ t s l b. let n = length-take-le q m (omega arith) in
      let i : q + (p - suc q) ≡ length (take q m) + (p - suc q) = omega arith in
      let j : suc q + (p - suc q) ≡ p = omega arith in (
        omega arith,
        ap (λ (k : ℕ). get_or (take q m ++ drop (suc q) m) k blank) i ∙ get_or-append-add (take q m) (drop (suc q) m) (p - suc q) blank
            ∙ get_or-drop (suc q) m (p - suc q) blank ∙ ap (λ (k : ℕ). get_or m k blank) j,
      ))
      (λ t s l b. let far = leb-false (Q - q) 6 s in
      let i : q + (p - (Q - 1)) ≡ q = omega arith in
      let j : Q - 1 ≡ p = omega arith in (
        omega arith,
        rw i (get_or-take (Q - 1) (set m q (get_or m (Q - 1) blank)) q blank (omega arith) ∙ get_or-set_same m q (get_or m (Q - 1) blank) blank h
            ∙ ap (λ (k : ℕ). get_or m k blank) j),
      ))
      refl

  -- where a quad that stays is, and how its slot names it
  pub stays : (p : ℕ) → p < Q → p ≢ q
      → (r : ℕ) × (r < Q - 1) × (get_or (remove_at q m) r blank ≡ get_or m p blank) × (renum q Q (first_vertex p) ≡ first_vertex r)
  stays p l d = ⊎_elim
      (λ a. let k = kept_low p a d in (p, k.0, k.1, renum_low q Q h p a d))
      (λ a. let k = kept_high p a l in (q + (p - source_of q Q), k.0, k.1, renum_high q Q h p a l))
      (order p (source_of q Q))

-- ---- slots by the quads
slot_absent : (m : List Quad) (k : ℕ) → at k m ≡ [] → slot_of m k ≡ NONE
slot_absent m k e = rw e

pub slot_there : (m : List Quad) (r k : ℕ) → Once m → r < length m → key_at m r ≡ k → slot_of m k ≡ first_vertex r
slot_there m r k o l e =
    let p : place_of k m ≡ r = ap (λ (i : ℕ). place_of i m) (sym e) ∙ place_is m r (distinct_of_once m o) l in
    rw (is_there_lem m r k l e, p)

-- the place of a face, where other quads follow
place_before : (k : ℕ) (m b : List Quad) → there k m ≡ true → place_of k (m ++ b) ≡ place_of k m
place_before k [] b h = absurd (false≢true h)
place_before k (x ∷ m) b h = go (eqb k x.key) h (place_before k m b)
  where
    go : (t : Bool) → not (is_nil (only t x.words ++ at k m)) ≡ true → (there k m ≡ true → place_of k (m ++ b) ≡ place_of k m)
        → cond t 0 (suc (place_of k (m ++ b))) ≡ cond t 0 (suc (place_of k m))
    go true h r = refl
    go false h r = ap suc (r h)

place_past : (k : ℕ) (m b : List Quad) → there k m ≡ false → place_of k (m ++ b) ≡ length m + place_of k b
place_past k [] b h = omega arith
place_past k (x ∷ m) b h = go (eqb k x.key) h (place_past k m b)
  where
    go : (t : Bool) → not (is_nil (only t x.words ++ at k m)) ≡ false → (there k m ≡ false → place_of k (m ++ b) ≡ length m + place_of k b)
        → cond t 0 (suc (place_of k (m ++ b))) ≡ suc (length m) + place_of k b
    go true h r = absurd (true≢false h)
    go false h r = let e = r h in omega arith

module _ (m : List Quad) (o : Once m) where
  module _ (q : ℕ) (h : q < length m) where
    once_removed : Once (remove_at q m)
    once_removed j = rw (at-remove_at j q m h (o j)) (go (eqb j (key_at m q)))
      where
        go : (b : Bool) → length (cond b [] (at j m)) ≤ 1
        go true = omega arith
        go false = o j

    removed_absent : (k : ℕ) → (k ≡ key_at m q) ⊎ (at k m ≡ []) → at k (remove_at q m) ≡ []
    removed_absent k s = at-remove_at k q m h (o k) ∙ ⊎_elim (λ e. rw (eq-eqb k (key_at m q) e)) (λ e. rw e (go (eqb k (key_at m q)))) s
      where
        go : (b : Bool) → ◌≡◌ {A = List (List ℕ)} (cond b [] []) []
        go true = refl
        go false = refl

    module _ (small : first_vertex (length m) < NONE) where
      slot_removed : (k : ℕ) → renum q (length m) (slot_of m k) ≡ slot_of (remove_at q m) k
      slot_removed k = split
          (λ t. there k m ≡ t → renum q (length m) (cond t (first_vertex (place_of k m)) NONE) ≡ slot_of (remove_at q m) k) (there k m)
          (λ t e. let p = placed k m e in place p.within p.key (ℕ_discrete (place_of k m) q))
          (λ t e. renum_none q (length m) h small ∙ sym (slot_absent (remove_at q m) k (removed_absent k (inr (absent k m e)))))
          refl
        where
          place : place_of k m < length m → key_at m (place_of k m) ≡ k → Dec (place_of k m ≡ q)
              → renum q (length m) (first_vertex (place_of k m)) ≡ slot_of (remove_at q m) k
          place l e (yes s) =
              ap (λ (p : ℕ). renum q (length m) (first_vertex p)) s ∙ renum_gone q (length m) h
              ∙ sym (slot_absent (remove_at q m) k (removed_absent k (inl (sym e ∙ ap (key_at m) s))))
          place l e (no d) =
              let s = stays q m h (place_of k m) l d in
              s.3 ∙ sym (slot_there (remove_at q m) s.0 k once_removed (omega (arith, s.1, length-remove_at q m h))
              (ap (λ (x : Quad). x.key) s.2 ∙ e))

      -- LAW: the slots of a mesh from which a quad was removed
      pub slots_removed : (n : ℕ) → map (renum q (length m)) (table n (slot_of m)) ≡ table n (slot_of (remove_at q m))
      slots_removed n =
          sym (table_is (slot_of (remove_at q m)) n (map (renum q (length m)) (table n (slot_of m))) 0
          (length-map (table n (slot_of m)) (renum q (length m)) ∙ length-table (slot_of m) n)
          (λ k l. map_at (renum q (length m)) (table n (slot_of m)) k (rw (length-table (slot_of m) n) l)
          ∙ ap (renum q (length m)) (get_d_table (slot_of m) n k 0 l) ∙ slot_removed k))

  -- ---- a draw
  module _ (x : Quad) (new : there x.key m ≡ false) where
    slot_drawn : (k : ℕ) → slot_of (m ++ (x ∷ [])) k ≡ cond (eqb k x.key) (first_vertex (length m)) (slot_of m k)
    slot_drawn k =
        split (λ t. eqb k x.key ≡ t → slot_of (m ++ (x ∷ [])) k ≡ cond t (first_vertex (length m)) (slot_of m k)) (eqb k x.key)
        (λ s e. let n : there k m ≡ false = rw (eqb-true k x.key e) new in
        let a : at k (m ++ (x ∷ [])) ≡ x.words ∷ [] = at-append k m (x ∷ []) ∙ rw (absent k m n, e) in
        let p : place_of k (m ++ (x ∷ [])) ≡ length m = place_past k m (x ∷ []) n ∙ rw e (omega arith) in
        rw (a, p))
        (λ s e. let a : at k (m ++ (x ∷ [])) ≡ at k m = at-append k m (x ∷ []) ∙ rw e (append-nil (at k m)) in
        rw a (split (λ t. there k m ≡ t
        → cond t (first_vertex (place_of k (m ++ (x ∷ [])))) NONE ≡ cond t (first_vertex (place_of k m)) NONE) (there k m)
        (λ t f. ap first_vertex (place_before k m (x ∷ []) f)) (λ t f. refl) refl))
        refl

    -- LAW: the slots of a mesh to which a quad was drawn
    pub slots_drawn : (n : ℕ) → x.key < n → set (table n (slot_of m)) x.key (first_vertex (length m)) ≡ table n (slot_of (m ++ (x ∷ [])))
    slots_drawn n b =
        let S = table n (slot_of m) in
        let v = first_vertex (length m) in
        let c : length S ≡ n = length-table (slot_of m) n in
        sym (table_is (slot_of (m ++ (x ∷ []))) n (set S x.key v) 0 (length-set S x.key v ∙ c)
        (λ k l. word k l c (ℕ_discrete k x.key) ∙ sym (slot_drawn k)))
      where
        word : (k : ℕ) → k < n → length (table n (slot_of m)) ≡ n → Dec (k ≡ x.key)
            → get_or (set (table n (slot_of m)) x.key (first_vertex (length m))) k 0
            ≡ cond (eqb k x.key) (first_vertex (length m)) (slot_of m k)
        word k l c (yes e) =
            rw (eq-eqb k x.key e, e) (get_or-set_same (table n (slot_of m)) x.key (first_vertex (length m)) 0 (omega arith))
        word k l c (no d) =
            rw (ne_eqb k x.key d)
            (get_or-set_other (table n (slot_of m)) x.key k (first_vertex (length m)) 0 d ∙ get_d_table (slot_of m) n k 0 l)

-- ---- how many quads there are

-- LAW: no more quads than faces
pub few : (n : ℕ) (m : List Quad) → Once m → All (λ x. x.key < n) m → length m ≤ n
few n [] o b = omega arith
few n (x ∷ m) o b = go (order n (suc (length m)))
  where
    keys : List ℕ
    keys = map (λ y. y.key) m

    key : (q : ℕ) → get_or keys q 0 ≡ key_at m q
    key q = get_or-map (λ (y : Quad). y.key) m q blank

    named : Named n (replicate n 0) keys
    named =
        let l : length keys ≡ length m = length-map m (λ (y : Quad). y.key) in
        record {
          room = omega (arith, length-replicate {A = ℕ} n 0);
          below = λ q h. rw (key q) (all_at (λ y. y.key < n) m q blank b.1 (omega arith));
          full = λ q h. rw (key q)
              (rw (get_or-replicate n (key_at m q) 0 NONE (all_at (λ y. y.key < n) m q blank b.1 (omega arith))) (λ e. omega arith));
          apart = λ p q h r. rw (key p, key q) (distinct_of_once (x ∷ m) o (suc p) (suc q) (omega arith) (omega arith));
        }

    go : (n < suc (length m)) ⊎ (suc (length m) ≤ n) → suc (length m) ≤ n
    go (inr l) = l
    go (inl l) =
        let e : length keys ≡ length m = length-map m (λ (y : Quad). y.key) in
        let i = no_other keys n (replicate n 0) named (omega (arith, count_le n (is_full (replicate n 0)))) x.key b.0
        (rw (get_or-replicate n x.key 0 NONE b.0) (λ e. omega arith)) in
        absurd (distinct_of_once (x ∷ m) o 0 (suc i.0) (omega arith) (omega (arith, i.1)) (sym (sym (key i.0) ∙ i.2)))

-- LAW: no vertex has the number that stands for none
pub small : (n s : ℕ) (m : List Quad) → n ≤ 1073741823 → All (Fits n s) m → Once m → first_vertex (length m) < NONE
small n s m h fits o = omega (arith, few n m o (all_kept (λ x f. f.0) m fits))
