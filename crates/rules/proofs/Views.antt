-- An entry's work, seen from one face: its own side, a side facing it, one apart from it, or one beyond the grid. Assumes nothing.
use mathlib.Core.Path.{◌≡◌, refl, sym, ap, ◌∙◌}
use mathlib.Core.Logic.{◌≢◌}
use mathlib.Core.Bool.{Bool, true, false, cond, ◌&&◌}
use mathlib.Core.List.{List, [], ◌∷◌, ◌++◌}
use mathlib.Core.Option.{Option, none, some}
use Prim.Native.Nat.{ℕ, ◌≤◌, ◌<◌}
use native.Mathlib.Omega.{arith}
use native.Mathlib.Decide.{ℕ_discrete, dec_lt}
use lib.Dec.{eqb}
use lib.ListN.{length}
use borrow.Author.Tests.{eq-eqb, ne_eqb}
use Rattle.rules.specs.Lists.{each, only, member}
use Rattle.rules.specs.Cells.{cells, opposite, neighbour, key_of}
use Rattle.rules.specs.Mesh.{Quad, World, is_normal_cube, covering, at, quad_of}
use Rattle.rules.specs.Update.{run, Work, Tested, sides, quads, conceal, reveal, cuts, puts, ops}
use Rattle.rules.proofs.ListLaws.{Reads, read_none, read_one, members, and_false, and_with}
use Rattle.rules.proofs.Neighbours.{Beside, beside, opposite_twice, opposite_lt}
use Rattle.rules.proofs.Quads.{quads_at, or_else, or_else_nil, at_cuts, at_puts, run-append}

-- what the refusals leave of sizes and types
pub record Sound (W : World) : Type 0 where
  pub wide : 0 < W.size.w
  pub long : 0 < W.size.l
  pub few : length W.kinds ≤ 255
  pub few_sets : length W.covers ≤ 255

-- ---- keys
pub key_same : (c f : ℕ) → eqb (key_of c f) (key_of c f) ≡ true
key_same c f = eq-eqb (key_of c f) (key_of c f) refl

key_cell : (c n f i : ℕ) → f < 6 → i < 6 → n ≢ c → eqb (key_of n f) (key_of c i) ≡ false
key_cell c n f i a b d = ne_eqb (key_of n f) (key_of c i) (λ e. d (omega arith))

key_face : (c n f i : ℕ) → f < 6 → i < 6 → f ≢ i → eqb (key_of n f) (key_of c i) ≡ false
key_face c n f i a b d = ne_eqb (key_of n f) (key_of c i) (λ e. d (omega arith))

-- ---- a list of one, or of none, seen from a key
member_only : (j k : ℕ) (b : Bool) → member j (only b k) ≡ (b && eqb j k)
member_only j k false = refl
member_only j k true = go (eqb j k)
  where
    go : (t : Bool) → cond t true false ≡ t
    go true = refl
    go false = refl

at_only : (j : ℕ) (b : Bool) (q : Quad) → at j (only b q) ≡ only (b && eqb j q.key) q.words
at_only j false q = refl
at_only j true q = go (eqb j q.key)
  where
    go : (t : Bool) → only t q.words ++ [] ≡ only t q.words
    go true = refl
    go false = refl

no_member : (j k : ℕ) (b : Bool) → eqb j k ≡ false → member j (only b k) ≡ false
no_member j k b e = member_only j k b ∙ rw e (and_false b)

no_quad : (j : ℕ) (b : Bool) (q : Quad) → eqb j q.key ≡ false → at j (only b q) ≡ []
no_quad j b q e = at_only j b q ∙ rw (e, and_false b)

-- the sides of a cell, as keys and as quads, seen from a face
module _ (W : World) (t c n f : ℕ) (hf : f < 6) (p : ℕ → Bool) where
  pub sides_far : n ≢ c → member (key_of n f) (sides c p) ≡ false
  sides_far d =
      read_none (members (key_of n f)) 6 0 (λ i. only (p i) (key_of c i))
      (λ i a b. no_member (key_of n f) (key_of c i) (p i) (key_cell c n f i hf (omega arith) d))

  pub sides_own : n ≡ c → member (key_of n f) (sides c p) ≡ p f
  sides_own e =
      read_one (members (key_of n f)) 6 0 f (λ i. only (p i) (key_of c i)) (omega arith) (omega arith)
      (λ i a d. no_member (key_of n f) (key_of c i) (p i) (key_face c n f i hf (omega arith) (λ q. d (sym q))))
      ∙ member_only (key_of n f) (key_of c f) (p f) ∙ rw (e, key_same c f) (and_with (p f))

  pub quads_far : n ≢ c → at (key_of n f) (quads W t c p) ≡ []
  quads_far d =
      read_none (quads_at (key_of n f)) 6 0 (λ i. only (p i) (quad_of W t c i))
      (λ i a b. no_quad (key_of n f) (p i) (quad_of W t c i) (key_cell c n f i hf (omega arith) d))

  pub quads_own : n ≡ c → at (key_of n f) (quads W t c p) ≡ only (p f) (W.words_of t f c)
  quads_own e =
      read_one (quads_at (key_of n f)) 6 0 f (λ i. only (p i) (quad_of W t c i)) (omega arith) (omega arith)
      (λ i a d. no_quad (key_of n f) (p i) (quad_of W t c i) (key_face c n f i hf (omega arith) (λ q. d (sym q))))
      ∙ at_only (key_of n f) (p f) (quad_of W t c f)
      ∙ rw (e, key_same c f, and_with (p f))

-- ---- an entry's work, seen from a face
or_else_le {ℓ} : {A : Type ℓ} (x y : List A) → length x ≤ 1 → length y ≤ 1 → length (or_else x y) ≤ 1
or_else_le [] y h k = k
or_else_le (z ∷ x) y h k = h

cut_le {ℓ} : {A : Type ℓ} (b : Bool) (x : List A) → length x ≤ 1 → length (cond b [] x) ≤ 1
cut_le true x h = omega arith
cut_le false x h = h

abbrev pub worked : Work → ℕ → List (List ℕ) → List (List ℕ)
worked w j x = cond (member j w.facing) [] (or_else (cond (member j w.own) [] x) (at j w.new))

pub at_work : (w : Work) (j : ℕ) (m : List Quad) → length (at j m) ≤ 1 → length (at j w.new) ≤ 1 → at j (run (ops w) m) ≡ worked w j (at j m)
unfolding ops
at_work w j m h k =
    let a = at_cuts j w.own m h in
    let b : at j (run (puts w.new) (run (cuts w.own) m)) ≡ or_else (cond (member j w.own) [] (at j m)) (at j w.new) =
    at_puts j w.new (run (cuts w.own) m) k ∙ ap (λ (x : List (List ℕ)). or_else x (at j w.new)) a in
    let l : length (at j (run (puts w.new) (run (cuts w.own) m))) ≤ 1 =
    rw b (or_else_le (cond (member j w.own) [] (at j m)) (at j w.new) (cut_le (member j w.own) (at j m) h) k) in
    ap (at j) (run-append (cuts w.own) _ m ∙ run-append (puts w.new) _ (run (cuts w.own) m))
    ∙ at_cuts j w.facing (run (puts w.new) (run (cuts w.own) m)) l ∙ rw b

-- ---- one cell c of the grid, and face f of a cell n
none_some : {k : ℕ} → ◌≢◌ {A = Option ℕ} none (some k)
none_some {k} e = let z : ◌≡◌ {A = ℕ} 0 1 = cc in omega arith

module _ (W : World) (s : Sound W) (c : ℕ) (hc : c < cells W.size) (n f : ℕ) (hf : f < 6) where
  near : (i k : ℕ) → i < 6 → neighbour W.size c i ≡ some k → Beside W.size c i k
  near i k hi e = beside W.size s.wide s.long c hc i k e

  -- the key is no neighbour's face towards c
  abbrev pub Apart : Type 0
  Apart = (i k : ℕ) → i < 6 → neighbour W.size c i ≡ some k → eqb (key_of n f) (key_of k (opposite i)) ≡ false

  pub data View : Type 0 where
    own : n ≡ c → View
    facing : n ≢ c → neighbour W.size c (opposite f) ≡ some n → neighbour W.size n f ≡ some c → View
    apart : n ≢ c → n < cells W.size → neighbour W.size n f ≢ some c → View
    out : n ≢ c → cells W.size ≤ n → View

  pub view : View
  view = go (ℕ_discrete n c) (dec_lt n (cells W.size))
    where
      look_at : n ≢ c → n < cells W.size → (o : Option ℕ) → neighbour W.size n f ≡ o → View
      look_at d h none e = apart d h (λ q. none_some (sym e ∙ q))
      look_at d h (some k) e = on (ℕ_discrete k c)
        where
          on : Dec (k ≡ c) → View
          on (yes q) =
              let e' : neighbour W.size n f ≡ some c = e ∙ ap some q in
              facing d (beside W.size s.wide s.long n h f c e').back e'
          on (no r) = apart d h (λ q. r (cc))

      go : Dec (n ≡ c) → Dec (n < cells W.size) → View
      go (yes e) h = own e
      go (no d) (yes h) = look_at d h (neighbour W.size n f) refl
      go (no d) (no h) = out d (omega arith)

  pub own_apart : n ≡ c → Apart
  own_apart e i k hi q = key_cell k n f (opposite i) hf (opposite_lt i hi) (λ z. (near i k hi q).other (sym z ∙ e))

  pub out_apart : cells W.size ≤ n → Apart
  out_apart h i k hi q = key_cell k n f (opposite i) hf (opposite_lt i hi) (λ z. let b = (near i k hi q).inside in omega arith)

  pub face_apart : neighbour W.size n f ≢ some c → Apart
  face_apart h i k hi q =
      ne_eqb (key_of n f) (key_of k (opposite i))
      (λ z. let l = opposite_lt i hi in let a : n ≡ k = omega arith in let b : f ≡ opposite i = omega arith in h (rw (a, b) (near i k hi q).back))

  turned : (i : ℕ) → i ≢ opposite f → f ≢ opposite i
  turned i d q = d (sym (rw q (opposite_twice i)))

  -- the neighbours' faces towards c: none is this one, or the one at the opposite face is
  module _ {A : Type 0} {M : Type 0} (R : Reads A M) (one : ℕ → Option ℕ → List A) where
    towards_none : ((i : ℕ) → R.read (one i none) ≡ R.none)
        → ((i k : ℕ) → i < 6 → eqb (key_of n f) (key_of k (opposite i)) ≡ false → R.read (one i (some k)) ≡ R.none)
        → Apart → R.read (each 6 0 (λ i. one i (neighbour W.size c i))) ≡ R.none
    towards_none z h a = read_none R 6 0 (λ i. one i (neighbour W.size c i)) (λ i l b. go i (omega arith) (neighbour W.size c i) refl)
      where
        go : (i : ℕ) → i < 6 → (o : Option ℕ) → neighbour W.size c i ≡ o → R.read (one i o) ≡ R.none
        go i hi none e = z i
        go i hi (some k) e = h i k hi (a i k hi e)

    towards_one : ((i : ℕ) → R.read (one i none) ≡ R.none)
        → ((i k : ℕ) → i < 6 → eqb (key_of n f) (key_of k (opposite i)) ≡ false → R.read (one i (some k)) ≡ R.none)
        → neighbour W.size c (opposite f) ≡ some n
        → R.read (each 6 0 (λ i. one i (neighbour W.size c i))) ≡ R.read (one (opposite f) (some n))
    towards_one z h e =
        read_one R 6 0 (opposite f) (λ i. one i (neighbour W.size c i)) (omega arith) (omega (arith, opposite_lt f hf))
        (λ i hi d. go i (omega arith) d (neighbour W.size c i))
        ∙ ap (λ (o : Option ℕ). R.read (one (opposite f) o)) e
      where
        go : (i : ℕ) → i < 6 → i ≢ opposite f → (o : Option ℕ) → R.read (one i o) ≡ R.none
        go i hi d none = z i
        go i hi d (some k) = h i k hi (key_face k n f (opposite i) hf (opposite_lt i hi) (turned i d))

  module _ (tested : Tested) (t : ℕ) where
    pub conceals_none : Apart → member (key_of n f) (each 6 0 (λ i. conceal tested W t i (neighbour W.size c i))) ≡ false
    conceals_none =
        towards_none (members (key_of n f)) (conceal tested W t) (λ i. refl)
        (λ i k hi e. no_member (key_of n f) (key_of k (opposite i)) (covering W t (tested i)) e)

    pub conceals_one : neighbour W.size c (opposite f) ≡ some n
        → member (key_of n f) (each 6 0 (λ i. conceal tested W t i (neighbour W.size c i))) ≡ covering W t (tested (opposite f))
    conceals_one e =
        towards_one (members (key_of n f)) (conceal tested W t) (λ i. refl)
        (λ i k hi q. no_member (key_of n f) (key_of k (opposite i)) (covering W t (tested i)) q) e
        ∙ member_only (key_of n f) (key_of n (opposite (opposite f))) (covering W t (tested (opposite f)))
        ∙ rw (opposite_twice f, key_same n f) (and_with (covering W t (tested (opposite f))))

  module _ (t : ℕ) (given : ℕ → ℕ) where
    pub reveals_none : Apart → at (key_of n f) (each 6 0 (λ i. reveal W t (given i) i (neighbour W.size c i))) ≡ []
    reveals_none =
        towards_none (quads_at (key_of n f)) (λ i. reveal W t (given i) i) (λ i. refl)
        (λ i k hi e. no_quad (key_of n f) (covering W t i && is_normal_cube W (given i)) (quad_of W (given i) k (opposite i)) e)

    pub reveals_one : neighbour W.size c (opposite f) ≡ some n
        → at (key_of n f) (each 6 0 (λ i. reveal W t (given i) i (neighbour W.size c i)))
        ≡ only (covering W t (opposite f) && is_normal_cube W (given (opposite f))) (W.words_of (given (opposite f)) f n)
    reveals_one e =
        towards_one (quads_at (key_of n f)) (λ i. reveal W t (given i) i) (λ i. refl)
        (λ i k hi q. no_quad (key_of n f) (covering W t i && is_normal_cube W (given i)) (quad_of W (given i) k (opposite i)) q) e
        ∙ at_only (key_of n f) (covering W t (opposite f) && is_normal_cube W (given (opposite f))) (quad_of W (given (opposite f)) n (opposite (opposite f)))
        ∙ rw (opposite_twice f, key_same n f, and_with (covering W t (opposite f) && is_normal_cube W (given (opposite f))))

  -- a work that does nothing to a face that c does not see
  pub idle_at : (w : Work) → member (key_of n f) w.own ≡ false → at (key_of n f) w.new ≡ [] → member (key_of n f) w.facing ≡ false
      → (x : List (List ℕ)) → worked w (key_of n f) x ≡ x
  idle_at w a b d x = rw (a, b, d) (or_else_nil x)
