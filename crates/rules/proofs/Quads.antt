-- A mesh seen from one face: what drawing and removal do to the words of its quads. Assumes nothing.
use mathlib.Core.Path.{◌≡◌, refl, sym, ap, ◌∙◌, subst}
use mathlib.Core.Bool.{Bool, true, false, cond, not, true≢false, false≢true}
use mathlib.Core.List.{List, [], ◌∷◌, ◌++◌, append_assoc, append-nil}
use Prim.Native.Nat.{ℕ, suc, ◌-◌, ◌≤◌, ◌<◌}
use native.Mathlib.Omega.{arith}
use lib.Dec.{eqb}
use lib.ListN.{length, get_or, set, take, drop, length-append, length-set, length-take, length-drop, drop_of_length-le}
use lib.Seq.{split_at, set_split, set-append_left, take_at, get_or-take, length-take-le}
use borrow.Author.Tests.{eqb-true, eq-eqb, leb-true, leb-false}
use Rattle.rules.specs.Lists.{only, is_nil, member}
use Rattle.rules.specs.Mesh.{Quad, at, there, place_of}
use Rattle.rules.specs.Update.{blank, draw, shifts, remove_at, remove, moved_by, moved, Op, put, cut, step, run, cuts, puts}
use Rattle.rules.proofs.ListLaws.{Reads, split}

pub at-append : (k : ℕ) (a b : List Quad) → at k (a ++ b) ≡ at k a ++ at k b
at-append k [] b = refl
at-append k (q ∷ a) b = rw (at-append k a b) (sym (append_assoc (only (eqb k q.key) q.words) (at k a) (at k b)))

-- the quads of a face are read piece by piece
abbrev pub quads_at : ℕ → Reads Quad (List (List ℕ))
quads_at k =
    record { read = at k; none = []; join = λ a b. a ++ b; of_nil = refl; of_append = at-append k; left_none = λ x. refl; right_none = append-nil }

-- once: no face is there twice
abbrev pub Once : List Quad → Type 0
Once m = (k : ℕ) → length (at k m) ≤ 1

-- x, or y where x is nothing
abbrev pub or_else {ℓ} : {A : Type ℓ} → List A → List A → List A
or_else [] b = b
or_else (x ∷ a) b = x ∷ a

pub or_else_nil {ℓ} : {A : Type ℓ} (x : List A) → or_else x [] ≡ x
or_else_nil [] = refl
or_else_nil (y ∷ x) = refl

pub absent : (k : ℕ) (m : List Quad) → there k m ≡ false → at k m ≡ []
absent k m e = go (at k m) e
  where
    go : (x : List (List ℕ)) → not (is_nil x) ≡ false → x ≡ []
    go [] e = refl
    go (y ∷ x) e = absurd (true≢false e)

-- ---- a draw, seen from a face
pub at_draw : (j : ℕ) (q : Quad) (m : List Quad) → at j (draw q m) ≡ or_else (at j m) (only (eqb j q.key) q.words)
at_draw j q m =
    split (λ t. at j (cond t m (m ++ (q ∷ []))) ≡ or_else (at j m) (only (eqb j q.key) q.words)) (there q.key m) present gone
  where
    -- where a face is there, it stays, and another is not touched
    stays : (x : List (List ℕ)) (b : Bool) → not (is_nil x) ≡ true → x ≡ or_else x (only b q.words)
    stays [] b e = absurd (false≢true e)
    stays (y ∷ x) b e = refl

    present : there q.key m ≡ true → at j m ≡ or_else (at j m) (only (eqb j q.key) q.words)
    present e =
        split (λ t. eqb j q.key ≡ t → at j m ≡ or_else (at j m) (only t q.words)) (eqb j q.key)
        (λ s r. stays (at j m) true (rw (eqb-true j q.key r) e))
        (λ s r. sym (or_else_nil (at j m))) refl

    put_there : (b : Bool) → eqb j q.key ≡ b → at q.key m ≡ [] → at j m ++ (only b q.words ++ []) ≡ or_else (at j m) (only b q.words)
    put_there true r z = rw (eqb-true j q.key r, z)
    put_there false r z = append-nil (at j m) ∙ sym (or_else_nil (at j m))

    gone : there q.key m ≡ false → at j (m ++ (q ∷ [])) ≡ or_else (at j m) (only (eqb j q.key) q.words)
    gone e = at-append j m (q ∷ []) ∙ put_there (eqb j q.key) refl (absent q.key m e)

-- ---- a removal, seen from a face

-- one on its own
pub lone {ℓ} : {A : Type ℓ} (a b : List A) (x : A) → length (a ++ x ∷ b) ≤ 1 → (a ≡ []) × (b ≡ [])
lone [] [] x h = (refl, refl)
lone [] (y ∷ b) x h = absurd (omega arith)
lone (y ∷ a) b x h = absurd (omega (arith, length-append a (x ∷ b)))

no_room {ℓ} : {A : Type ℓ} (a b : List A) → length (a ++ b) ≤ 0 → (a ≡ []) × (b ≡ [])
no_room [] [] h = (refl, refl)
no_room [] (y ∷ b) h = absurd (omega arith)
no_room (y ∷ a) b h = absurd (omega arith)

-- a and b are what a face has before and after a quad; o says that the quad is the face's, p that the last one is
cut_lists {ℓ} : {A : Type ℓ} (o : Bool) (u : A) (a b : List A) → length (a ++ (only o u ++ b)) ≤ 1 → a ++ b ≡ cond o [] (a ++ (only o u ++ b))
cut_lists true u a b h = let e = lone a b u h in simp (e.0, e.1)
cut_lists false u a b h = refl

swap_lists {ℓ} : {A : Type ℓ} (o p : Bool) (u v : A) (a b : List A) → length ((a ++ (only o u ++ b)) ++ only p v) ≤ 1
    → a ++ (only p v ++ b) ≡ cond o [] ((a ++ (only o u ++ b)) ++ only p v)
swap_lists true true u v a b h = absurd (omega (arith, length-append (a ++ (u ∷ b)) (v ∷ []), length-append a (u ∷ b)))
swap_lists true false u v a b h = let e = lone a b u (simp append-nil at h) in simp (e.0, e.1)
swap_lists false true u v a b h = let e = no_room a b (omega (arith, length-append (a ++ b) (v ∷ []))) in simp (e.0, e.1)
swap_lists false false u v a b h = simp append-nil

cut_law : (j : ℕ) (a b : List Quad) (x : Quad) → length (at j (a ++ x ∷ b)) ≤ 1 → at j (a ++ b) ≡ cond (eqb j x.key) [] (at j (a ++ x ∷ b))
cut_law j a b x h = simp at-append (cut_lists (eqb j x.key) x.words (at j a) (at j b) (simp at-append at h))

swap_law : (j : ℕ) (a b : List Quad) (x z : Quad) → length (at j ((a ++ x ∷ b) ++ (z ∷ []))) ≤ 1
    → at j (a ++ z ∷ b) ≡ cond (eqb j x.key) [] (at j ((a ++ x ∷ b) ++ (z ∷ [])))
swap_law j a b x z h =
    simp (at-append, append-nil)
    (swap_lists (eqb j x.key) (eqb j z.key) x.words z.words (at j a) (at j b) (simp (at-append, append-nil) at h))

-- the last quad in the place of quad q
swap_at : (m : List Quad) (z : Quad) (q : ℕ) → q < length m → take (length m) (set (m ++ z ∷ []) q z) ≡ take q m ++ z ∷ drop (suc q) m
swap_at m z q h = rw (set-append_left m (z ∷ []) q z h, take_at (set m q z) (z ∷ []) (length m) (length-set m q z), set_split m q z h)

snoc : (m : List Quad) → 0 < length m → m ≡ take (length m - 1) m ++ (get_or m (length m - 1) blank ∷ [])
snoc m h =
    split_at m (length m - 1) blank (omega arith)
    ∙ ap (λ (r : List Quad). take (length m - 1) m ++ (get_or m (length m - 1) blank ∷ r)) (drop_of_length-le m {i = suc (length m - 1)} (omega arith))

shift_removes : (j q : ℕ) (m : List Quad) → q < length m → length (at j m) ≤ 1
    → at j (take q m ++ drop (suc q) m) ≡ cond (eqb j (get_or m q blank).key) [] (at j m)
shift_removes j q m hq h =
    let e = split_at m q blank hq in
    subst (λ (r : List Quad). at j (take q m ++ drop (suc q) m) ≡ cond (eqb j (get_or m q blank).key) [] (at j r)) (sym e)
    (cut_law j (take q m) (drop (suc q) m) (get_or m q blank) (subst (λ (r : List Quad). length (at j r) ≤ 1) e h))

swap_removes : (j q : ℕ) (m : List Quad) (z : Quad) → q < length m → length (at j (m ++ (z ∷ []))) ≤ 1
    → at j (take (length m) (set (m ++ z ∷ []) q z)) ≡ cond (eqb j (get_or m q blank).key) [] (at j (m ++ (z ∷ [])))
swap_removes j q m z hq h =
    let e = split_at m q blank hq in
    rw (swap_at m z q hq)
    (subst (λ (r : List Quad). at j (take q m ++ z ∷ drop (suc q) m) ≡ cond (eqb j (get_or m q blank).key) [] (at j (r ++ (z ∷ [])))) (sym e)
    (swap_law j (take q m) (drop (suc q) m) (get_or m q blank) z (subst (λ (r : List Quad). length (at j (r ++ (z ∷ []))) ≤ 1) e h)))

pub at-remove_at : (j q : ℕ) (m : List Quad) → q < length m → length (at j m) ≤ 1
    → at j (remove_at q m) ≡ cond (eqb j (get_or m q blank).key) [] (at j m)
unfolding remove_at
at-remove_at j q m hq h =
    split (λ t. at j (cond t (take q m ++ drop (suc q) m) (take (length m - 1) (set m q (get_or m (length m - 1) blank))))
    ≡ cond (eqb j (get_or m q blank).key) [] (at j m)) (shifts (length m) q)
    (λ e. shift_removes j q m hq h)
    (λ e. let far : 6 < length m - q = leb-false (length m - q) 6 e in
    let n : length (take (length m - 1) m) ≡ length m - 1 = length-take-le (length m - 1) m (omega arith) in
    let s = snoc m (omega arith) in
    rw (n, ← s, get_or-take (length m - 1) m q blank (omega arith)) at
    (swap_removes j q (take (length m - 1) m) (get_or m (length m - 1) blank) (omega arith) (subst (λ (r : List Quad). length (at j r) ≤ 1) s h)))

-- where a face is, it is at its place
pub record Placed (k : ℕ) (m : List Quad) : Type 0 where
  pub within : place_of k m < length m
  pub key : (get_or m (place_of k m) blank).key ≡ k

pub placed : (k : ℕ) (m : List Quad) → there k m ≡ true → Placed k m
placed k [] h = absurd (false≢true h)
placed k (q ∷ m) h = go (eqb k q.key) refl h (placed k m)
  where
    go : (b : Bool) → eqb k q.key ≡ b → not (is_nil (only b q.words ++ at k m)) ≡ true → (there k m ≡ true → Placed k m)
        → Placed k (q ∷ m)
    go true e i r = record { within = rw e (omega arith); key = rw e (sym (eqb-true k q.key e)) }
    go false e i r = let p = r i in let w = p.within in record { within = rw e (omega arith); key = rw e p.key }

pub at_remove : (j k : ℕ) (m : List Quad) → length (at j m) ≤ 1 → at j (remove k m) ≡ cond (eqb j k) [] (at j m)
unfolding remove
at_remove j k m h =
    split (λ t. at j (cond t (remove_at (place_of k m) m) m) ≡ cond (eqb j k) [] (at j m)) (there k m)
    (λ e. let p = placed k m e in rw p.key at (at-remove_at j (place_of k m) m p.within h))
    (λ e. split (λ t. eqb j k ≡ t → at j m ≡ cond t [] (at j m)) (eqb j k)
    (λ s r. ap (λ (i : ℕ). at i m) (eqb-true j k r) ∙ absent k m e) (λ s r. refl) refl)

-- ---- many removals, many draws
cond_le {ℓ} : {A : Type ℓ} (b : Bool) (x : List A) → length x ≤ 1 → length (cond b [] x) ≤ 1
cond_le true x h = omega arith
cond_le false x h = h

cond_twice {ℓ} : {A : Type ℓ} (a b : Bool) (x : List A) → cond b [] (cond a [] x) ≡ cond (cond a true b) [] x
cond_twice true true x = refl
cond_twice true false x = refl
cond_twice false b x = refl

pub at_cuts : (j : ℕ) (ks : List ℕ) (m : List Quad) → length (at j m) ≤ 1 → at j (run (cuts ks) m) ≡ cond (member j ks) [] (at j m)
at_cuts j [] m h = refl
at_cuts j (k ∷ ks) m h =
    let r = at_remove j k m h in
    at_cuts j ks (remove k m) (rw r (cond_le (eqb j k) (at j m) h)) ∙ rw r (cond_twice (eqb j k) (member j ks) (at j m))

or_else_twice {ℓ} : {A : Type ℓ} (b : Bool) (u : A) (x y : List A) → length (only b u ++ y) ≤ 1
    → or_else (or_else x (only b u)) y ≡ or_else x (only b u ++ y)
or_else_twice true u [] [] h = refl
or_else_twice true u [] (z ∷ y) h = absurd (omega arith)
or_else_twice true u (z ∷ x) y h = refl
or_else_twice false u [] y h = refl
or_else_twice false u (z ∷ x) y h = refl

tail_le {ℓ} : {A : Type ℓ} (b : Bool) (u : A) (y : List A) → length (only b u ++ y) ≤ 1 → length y ≤ 1
tail_le true u y h = omega arith
tail_le false u y h = h

pub at_puts : (j : ℕ) (qs m : List Quad) → length (at j qs) ≤ 1 → at j (run (puts qs) m) ≡ or_else (at j m) (at j qs)
at_puts j [] m h = sym (or_else_nil (at j m))
at_puts j (q ∷ qs) m h =
    at_puts j qs (draw q m) (tail_le (eqb j q.key) q.words (at j qs) h)
    ∙ rw (at_draw j q m) (or_else_twice (eqb j q.key) q.words (at j m) (at j qs) h)

-- ---- how many, and how many move
pub length-remove_at : (q : ℕ) (m : List Quad) → q < length m → length (remove_at q m) ≡ length m - 1
unfolding remove_at
length-remove_at q m h =
    split (λ t. length (cond t (take q m ++ drop (suc q) m) (take (length m - 1) (set m q (get_or m (length m - 1) blank)))) ≡ length m - 1)
    (shifts (length m) q)
    (λ e. simp (length-append, length-take, length-drop) (omega arith)) (λ e. simp (length-take, length-set) (omega arith))

-- a removal moves at most five quads
pub moved_by_le : (Q q : ℕ) → q < Q → moved_by Q q ≤ 5
moved_by_le Q q h =
    split (λ t. shifts Q q ≡ t → cond t (Q - 1 - q) 1 ≤ 5) (shifts Q q) (λ s e. omega (arith, leb-true (Q - q) 6 e)) (λ s e. omega arith) refl

pub moved_le : (k : ℕ) (m : List Quad) → moved k m ≤ 5
moved_le k m =
    split (λ t. there k m ≡ t → cond t (moved_by (length m) (place_of k m)) 0 ≤ 5) (there k m)
    (λ s e. moved_by_le (length m) (place_of k m) (placed k m e).within) (λ s e. omega arith) refl

-- ---- runs
pub run-append : (a b : List Op) (m : List Quad) → run (a ++ b) m ≡ run b (run a m)
run-append [] b m = refl
run-append (o ∷ a) b m = run-append a b (step o m)

step_once : (o : Op) (m : List Quad) → Once m → Once (step o m)
step_once (put q) m h j = rw (at_draw j q m) (go (at j m) (eqb j q.key) (h j))
  where
    go : (x : List (List ℕ)) (b : Bool) → length x ≤ 1 → length (or_else x (only b q.words)) ≤ 1
    go [] true l = omega arith
    go [] false l = omega arith
    go (y ∷ x) b l = l
step_once (cut k) m h j = rw (at_remove j k m (h j)) (cond_le (eqb j k) (at j m) (h j))

-- distinct faces stay distinct
pub run_once : (os : List Op) (m : List Quad) → Once m → Once (run os m)
run_once [] m h = h
run_once (o ∷ os) m h = run_once os (step o m) (step_once o m h)

own_first : (q : Quad) (m : List Quad) → at q.key (q ∷ m) ≡ q.words ∷ at q.key m
own_first q m = ap (λ (b : Bool). only b q.words ++ at q.key m) (eq-eqb q.key q.key refl)

-- LAW: meshes that have the same at each face, and none twice, have as many quads
pub same_count : (m n : List Quad) → Once m → Once n → ((k : ℕ) → at k m ≡ at k n) → length m ≡ length n
unfolding remove
same_count [] [] a b h = refl
same_count [] (q ∷ n) a b h = absurd (false≢true (sym (ap is_nil (h q.key) ∙ ap is_nil (own_first q n))))
same_count (q ∷ m) n a b h =
    let is : there q.key n ≡ true = ap (λ (x : List (List ℕ)). not (is_nil x)) (sym (h q.key) ∙ own_first q m) in
    let p = placed q.key n is in
    let rest = same_count m (remove q.key n) (λ j. tail_le (eqb j q.key) q.words (at j m) (a j)) (step_once (cut q.key) n b)
    (λ j. cut_law j [] m q (a j) ∙ ap (cond (eqb j q.key) []) (h j) ∙ sym (at_remove j q.key n (b j))) in
    let less = ap (λ (t : Bool). length (cond t (remove_at (place_of q.key n) n) n)) is ∙ length-remove_at (place_of q.key n) n p.within in
    omega (arith, rest, less, p.within)
