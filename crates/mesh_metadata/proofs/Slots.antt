-- Laws of slot words: what a removal does to them, one store after the other. Assumes nothing.
use mathlib.Core.Path.{◌≡◌, refl, sym, ap, ◌∙◌}
use mathlib.Core.Logic.{◌≢◌, ◌⊎◌, inl, inr, ⊎_elim}
use mathlib.Core.List.{List, [], ◌∷◌, map}
use Prim.Native.Nat.{ℕ, zero, suc, ◌+◌, ◌-◌, ◌*◌, ◌≤◌, ◌<◌}
use native.Mathlib.Omega.{arith}
use native.Mathlib.Decide.{dec_lt}
use lib.ListN.{length, get_or, set}
use borrow.Author.Tests.{le-leb, lt-leb, le-ltb, lt-ltb, eq-eqb, ne_eqb}
use Rattle.rules.specs.Cells.{key_in, first_vertex}
use Rattle.rules.specs.Mesh.{NONE}
use Rattle.vav.specs.Rows.{source_of}
use Rattle.mesh_metadata.specs.Index.{shifted, renum, Linked}

-- ---- a removal

-- less, or not
abbrev Order : ℕ → ℕ → Type 0
Order a b = (a < b) ⊎ (b ≤ a)

pub order : (a b : ℕ) → Order a b
order a b = go (dec_lt a b)
  where
    go : Dec (a < b) → Order a b
    go (yes l) = inl l
    go (no d) = inr (omega arith)

pub map_same : (f g : ℕ → ℕ) (S : List ℕ) → ((k : ℕ) → k < length S → f (get_or S k 0) ≡ g (get_or S k 0)) → map f S ≡ map g S
map_same f g [] h = refl
map_same f g (x ∷ S) h =
    let a : f x ≡ g x = h zero (omega arith) in
    let b = map_same f g S (λ k l. h (suc k) (omega arith)) in
    cc

-- one store takes a map to another that differs from it at one place
pub map-set : (f g : ℕ → ℕ) (S : List ℕ) (p v : ℕ) → g (get_or S p 0) ≡ v
    → ((k : ℕ) → k < length S → k ≢ p → f (get_or S k 0) ≡ g (get_or S k 0)) → set (map f S) p v ≡ map g S
map-set f g [] p v e h = refl
map-set f g (x ∷ S) zero v e h =
    let b = map_same f g S (λ k l. h (suc k) (omega arith) (λ q. omega arith)) in
    cc
map-set f g (x ∷ S) (suc p) v e h =
    let a : f x ≡ g x = h zero (omega arith) (λ q. omega arith) in
    let b = map-set f g S p v e (λ k l n. h (suc k) (omega arith) (λ q. n (omega arith))) in
    cc

shifted_none : (q s w : ℕ) → shifted q s s w ≡ w
unfolding shifted
shifted_none q s w = ⊎_elim
    (λ l. rw (lt-ltb w (4 * s) l, lt-leb (4 * s) w l))
    (λ l. rw (le-ltb w (4 * s) l))
    (order w (4 * s))

-- before any has moved
pub none_shifted : (q s : ℕ) (S : List ℕ) → S ≡ map (shifted q s s) S
none_shifted q s [] = refl
none_shifted q s (x ∷ S) =
    let a = shifted_none q s x in
    let b = none_shifted q s S in
    cc

-- the quad that moves next
shifted_at : (q s t : ℕ) → q < s → s ≤ t → shifted q s (t + 1) (4 * t) ≡ 4 * (t - (s - q))
unfolding shifted
shifted_at q s t h l =
    let a : 4 * t < 4 * (t + 1) = omega arith in
    let b : 4 * s ≤ 4 * t = omega arith in
    rw (lt-ltb (4 * t) (4 * (t + 1)) a, le-leb (4 * s) (4 * t) b) (omega arith)

-- the others
shifted_other : (q s t w : ℕ) → (w < 4 * t) ⊎ (4 * (t + 1) ≤ w) → shifted q s t w ≡ shifted q s (t + 1) w
unfolding shifted
shifted_other q s t w o = ⊎_elim
    (λ l. let a : w < 4 * (t + 1) = omega arith in rw (lt-ltb w (4 * t) l, lt-ltb w (4 * (t + 1)) a))
    (λ l. let a : 4 * t ≤ w = omega arith in rw (le-ltb w (4 * t) a, le-ltb w (4 * (t + 1)) l))
    o

module _ (Q : ℕ) (L S : List ℕ) (k : Linked Q L S) where
  -- a slot that quad t's link does not name holds a word below or above those of t
  other : (t i : ℕ) → t < Q → i < length S → i ≢ key_in (get_or L t 0) → (get_or S i 0 < 4 * t) ⊎ (4 * (t + 1) ≤ get_or S i 0)
  other t i l m d =
      let z = k.small in
      ⊎_elim
      (λ e. inr (omega arith))
      (λ x. let a = x.2 in
      ⊎_elim
      (λ b. inl (omega arith))
      (λ b. ⊎_elim
      (λ c. inr (omega arith))
      (λ c. absurd (d (sym x.3 ∙ ap (λ (j : ℕ). key_in (get_or L j 0)) (omega arith))))
      (order t x.0))
      (order x.0 t))
      (k.back i m)

  -- one more quad has moved
  pub step : (q s t : ℕ) → q < s → s ≤ t → t < Q
      → set (map (shifted q s t) S) (key_in (get_or L t 0)) (first_vertex (t - (s - q))) ≡ map (shifted q s (t + 1)) S
  step q s t h l b =
      map-set (shifted q s t) (shifted q s (t + 1)) S (key_in (get_or L t 0)) (4 * (t - (s - q)))
      (ap (shifted q s (t + 1)) (k.there t b) ∙ shifted_at q s t h l)
      (λ i m d. shifted_other q s t (get_or S i 0) (other t i b m d))

  -- the removed quad's slot becomes none
  pub gone : (q : ℕ) → q < Q → set (map (shifted q (source_of q Q) Q) S) (key_in (get_or L q 0)) NONE ≡ map (renum q Q) S
  unfolding renum
  gone q h =
      map-set (shifted q (source_of q Q) Q) (renum q Q) S (key_in (get_or L q 0)) NONE
      (rw (k.there q h, eq-eqb (4 * q) (4 * q) refl))
      (λ i m d.
      let n : get_or S i 0 ≢ 4 * q = λ e. ⊎_elim (λ x. omega arith) (λ x. omega arith) (other q i h m d) in
      rw (ne_eqb (get_or S i 0) (4 * q) n))
