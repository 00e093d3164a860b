-- Operations that change something: those alone leave what all of them leave. Assumes nothing.
use mathlib.Core.Path.{◌≡◌, refl, sym, ap, ◌∙◌, subst}
use mathlib.Core.Bool.{Bool, true, false, cond, not}
use mathlib.Core.List.{List, [], ◌∷◌, ◌++◌, map, append_assoc}
use Prim.Native.Nat.{ℕ, zero, suc, ◌+◌, ◌≤◌, ◌<◌, max}
use native.Mathlib.Omega.{arith}
use lib.Dec.{eqb}
use lib.ListN.{length, length-append}
use borrow.Author.Tests.{ne_eqb}
use Rattle.rules.specs.Lists.{each, only, member, is_nil}
use Rattle.rules.specs.Mesh.{Quad, at, there, place_of}
use Rattle.rules.specs.Update.{remove, Op, put, cut, step, run, moved_in, moves, highest}
use Rattle.rules.proofs.ListLaws.{All, all_append, all_only, split, not_true, not_false, each_same}
use Rattle.rules.proofs.Quads.{Once, or_else, at_draw, at_remove, placed, length-remove_at, run_once}

-- the face that is drawn or removed
abbrev pub face_of : Op → ℕ
face_of (put x) = x.key
face_of (cut k) = k

abbrev pub is_cut : Op → Bool
is_cut (put x) = false
is_cut (cut k) = true

-- a face that is drawn is not there, one that is removed is
abbrev pub acts : Op → List Quad → Bool
acts (put x) m = not (there x.key m)
acts (cut k) m = there k m

-- those that change something, each when its turn comes
abbrev pub acting : List Op → List Quad → List Op
acting [] m = []
acting (o ∷ os) m = only (acts o m) o ++ acting os (step o m)

-- all do
abbrev pub Acts : List Op → List Quad → Type 0
Acts [] m = Unit {0}
Acts (o ∷ os) m = (acts o m ≡ true) × Acts os (step o m)

pub idle_step : (o : Op) (m : List Quad) → acts o m ≡ false → (step o m ≡ m) × (moved_in o m ≡ 0)
unfolding remove
idle_step (put x) m e = (rw (not_true (there x.key m) e), refl)
idle_step (cut k) m e = (rw e, rw e)

-- the highest count, how many move, and the mesh
abbrev pub after : ℕ → List Quad → List Op → ℕ × ℕ × List Quad
after h m os = (highest h os m, moves os m, run os m)

-- LAW: those that change something leave what all leave
pub acting_same : (os : List Op) (h : ℕ) (m : List Quad) → length m ≤ h → after h m (acting os m) ≡ after h m os
acting_same [] h m l = refl
acting_same (o ∷ os) h m l = pick (acts o m) refl (acting_same os (max h (length (step o m))) (step o m) (omega arith))
  where
    pick : (b : Bool) → acts o m ≡ b → after (max h (length (step o m))) (step o m) (acting os (step o m)) ≡ after (max h (length (step o m))) (step o m) os
        → after h m (only b o ++ acting os (step o m)) ≡ after h m (o ∷ os)
    pick true e r = λ i. ((r i).0, moved_in o m + (r i).1, (r i).2)
    pick false e r =
        let s = idle_step o m e in
        let z : max h (length m) ≡ h = omega arith in
        let y : moves os m ≡ 0 + moves os m = omega arith in
        rw (s.0, s.1, z) ((rw (s.0, z) at r) ∙ (λ i. (highest h os m, y i, run os m)))

pub acting_acts : (os : List Op) (m : List Quad) → Acts (acting os m) m
acting_acts [] m = tt
acting_acts (o ∷ os) m = pick (acts o m) refl (acting_acts os (step o m))
  where
    pick : (b : Bool) → acts o m ≡ b → Acts (acting os (step o m)) (step o m) → Acts (only b o ++ acting os (step o m)) m
    pick true e r = (e, r)
    pick false e r = subst (Acts (acting os (step o m))) (idle_step o m e).0 r

pub acting_all : (P : Op → Type 0) (os : List Op) (m : List Quad) → All P os → All P (acting os m)
acting_all P [] m a = tt
acting_all P (o ∷ os) m a = all_append P (only (acts o m) o) (acting os (step o m)) (all_only P (acts o m) o a.0) (acting_all P os (step o m) a.1)

pub acting_append : (a b : List Op) (m : List Quad) → acting (a ++ b) m ≡ acting a m ++ acting b (run a m)
acting_append [] b m = refl
acting_append (o ∷ a) b m =
    ap (λ (r : List Op). only (acts o m) o ++ r) (acting_append a b (step o m)) ∙ sym (append_assoc (only (acts o m) o) (acting a (step o m)) (acting b (run a (step o m))))

-- ---- how many quads they leave
length-step : (o : Op) (m : List Quad) {c : Bool} → is_cut o ≡ c → acts o m ≡ true → length (step o m) + cond c 1 0 ≡ length m + cond c 0 1
unfolding remove
length-step (put x) m k e = rw (← k, not_false (there x.key m) e) (omega (arith, length-append m (x ∷ [])))
length-step (cut j) m k e = let p = (placed j m e).within in rw (← k, e) (omega (arith, length-remove_at (place_of j m) m p))

-- LAW: each cut one less, each draw one more
pub acting_count : (c : Bool) (os : List Op) (m : List Quad) → All (λ o. is_cut o ≡ c) os → Acts os m
    → length (run os m) + cond c (length os) 0 ≡ length m + cond c 0 (length os)
acting_count true [] m k a = refl
acting_count false [] m k a = refl
acting_count true (o ∷ os) m k a = omega (arith, length-step o m k.0 a.0, acting_count true os (step o m) k.1 a.1)
acting_count false (o ∷ os) m k a = omega (arith, length-step o m k.0 a.0, acting_count false os (step o m) k.1 a.1)

-- ---- seen from a face
there_step : (j : ℕ) (o : Op) (m : List Quad) → Once m → there j (step o m) ≡ cond (eqb j (face_of o)) (not (is_cut o)) (there j m)
there_step j (put x) m once = rw (at_draw j x m) (go (at j m) (eqb j x.key))
  where
    go : (y : List (List ℕ)) (b : Bool) → not (is_nil (or_else y (only b x.words))) ≡ cond b true (not (is_nil y))
    go [] true = refl
    go [] false = refl
    go (z ∷ y) true = refl
    go (z ∷ y) false = refl
there_step j (cut k) m once = rw (at_remove j k m (once j)) (split (λ b. not (is_nil (cond b [] (at j m))) ≡ cond b false (there j m)) (eqb j k) (λ _. refl) (λ _. refl))

-- LAW: what cuts alone, or draws alone, are about is gone, or there
pub there_run : (j : ℕ) (c : Bool) (os : List Op) (m : List Quad) → Once m → All (λ o. is_cut o ≡ c) os → there j (run os m) ≡ cond (member j (map face_of os)) (not c) (there j m)
there_run j c [] m once k = refl
there_run j c (o ∷ os) m once k =
    there_run j c os (step o m) (run_once (o ∷ []) m once) k.1
    ∙ ap (cond (member j (map face_of os)) (not c)) (there_step j o m once ∙ ap (λ (b : Bool). cond (eqb j (face_of o)) (not b) (there j m)) k.0)
    ∙ twice (eqb j (face_of o)) (member j (map face_of os))
  where
    twice : (x y : Bool) → cond y (not c) (cond x (not c) (there j m)) ≡ cond (cond x true y) (not c) (there j m)
    twice true true = refl
    twice true false = refl
    twice false y = refl

acts_same : (o : Op) (m m' : List Quad) → there (face_of o) m ≡ there (face_of o) m' → acts o m ≡ acts o m'
acts_same (put x) m m' e = ap not e
acts_same (cut k) m m' e = e

-- LAW: operations of which each is alone on its side change something or not whatever the order
pub acting_sides : (side : ℕ → ℕ) (p : ℕ → List Op) (n i : ℕ) → ((f : ℕ) → length (p f) ≤ 1) → ((f : ℕ) → i ≤ f → f < i + n → All (λ o. side (face_of o) ≡ f) (p f)) → (m : List Quad) → Once m
    → acting (each n i p) m ≡ each n i (λ f. acting (p f) m)
unfolding each
acting_sides side p zero i few on m once = refl
acting_sides side p (suc n) i few on m once =
    acting_append (p i) (each n (suc i) p) m
    ∙ ap (λ (r : List Op). acting (p i) m ++ r) (acting_sides side p n (suc i) few (λ f a b. on f (omega arith) (omega arith)) (run (p i) m) (run_once (p i) m once)
    ∙ each_same n (suc i) (λ f. acting (p f) (run (p i) m)) (λ f. acting (p f) m)
    (λ f a b. apart f (omega arith) (p i) (p f) (few i) (few f) (on i (omega arith) (omega arith)) (on f (omega arith) (omega arith))))
  where
    apart : (f : ℕ) → i < f → (xs ys : List Op) → length xs ≤ 1 → length ys ≤ 1 → All (λ o. side (face_of o) ≡ i) xs → All (λ o. side (face_of o) ≡ f) ys → acting ys (run xs m) ≡ acting ys m
    apart f l [] ys a b u v = refl
    apart f l (x ∷ []) [] a b u v = refl
    apart f l (x ∷ []) (y ∷ []) a b u v =
        ap (λ (t : Bool). only t y ++ []) (acts_same y (step x m) m
        (there_step (face_of y) x m once ∙ rw (ne_eqb (face_of y) (face_of x) (λ z. let w = ap side z in omega (arith, u.0, v.0)))))
    apart f l (x ∷ []) (y ∷ y' ∷ ys) a b u v = absurd (omega arith)
    apart f l (x ∷ x' ∷ xs) ys a b u v = absurd (omega arith)
