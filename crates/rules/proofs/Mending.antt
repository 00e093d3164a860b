-- Demand 3 on quads: a fresh mesh shows what culling shows, and an honest entry keeps it so. Assumes nothing.
use mathlib.Core.Path.{◌≡◌, refl, sym, ap, ◌∙◌, subst}
use mathlib.Core.Logic.{◌≢◌}
use mathlib.Core.Bool.{Bool, true, false, cond, not, ◌&&◌, ◌||◌}
use mathlib.Core.List.{List, []}
use mathlib.Core.Option.{Option, none, some}
use Prim.Native.Nat.{ℕ, ◌^◌, ◌/◌, ◌%◌, ◌≤◌, ◌<◌}
use native.Mathlib.Nat.{zero-div}
use native.Mathlib.Omega.{arith}
use native.Mathlib.Decide.{ℕ_discrete, dec_lt}
use lib.Dec.{eqb, ltb}
use lib.ListN.{length, get_or, set, length-set, get_or-eq_default}
use lib.Seq.{get_or-set_same, get_or-set_other, set-set}
use borrow.Author.Tests.{eqb-true}
use Rattle.rules.specs.Lists.{only}
use Rattle.rules.specs.Cells.{cells, opposite, neighbour, key_of}
use Rattle.rules.specs.Mesh.{Quad, World, type_at, is_normal_cube, covering, shown, drawn, all_sides, quads_by, mesh_by, culled, at}
use Rattle.rules.specs.Update.{Change, Broken, Added, Sides, Replaced, Entry, given_at, outside, run, Work, Tested, quads, all, is_open, added, broken, first_half, second_half, replaced, work_by, ops, is_empty, empty_type, grid_by, standing, Told, TrueBy, MendsBy, Alike, AlikeBy}
use Rattle.rules.proofs.ListLaws.{read_none, read_one, and_true, lowest_bad, only_few}
use Rattle.rules.proofs.Neighbours.{beside, opposite_lt}
use Rattle.rules.proofs.Quads.{quads_at, Once, or_else}
use Rattle.rules.proofs.Views.{Sound, sides_far, sides_own, quads_far, quads_own, worked, at_work, Apart, View, own, facing, apart, out, view, own_apart, out_apart, face_apart, conceals_none, conceals_one, reveals_none, reveals_one, idle_at}
use Rattle.rules.proofs.Replacing.{replaced_run}

-- what a right mesh has at a face
abbrev pub due : World → List ℕ → List ℕ → ℕ → ℕ → List (List ℕ)
due W outer g c f = only (drawn W outer g c f) (W.words_of (type_at g c) f c)

-- a mesh shows each face that culling shows, once, with its words, and no other
unfoldable pub Shows : World → List ℕ → List ℕ → List Quad → Type 0
Shows W outer g m = (c f : ℕ) → f < 6 → at (key_of c f) m ≡ due W outer g c f

-- a mesh that has the sides of a test, and no other, has none twice
pub sides_once : (W : World) (test : ℕ → ℕ → Bool) (g : List ℕ) (m : List Quad)
    → ((c f : ℕ) → f < 6 → at (key_of c f) m ≡ only (test c f) (W.words_of (type_at g c) f c)) → Once m
sides_once W test g m h k =
    let e : key_of (k / 6) (k % 6) ≡ k = omega arith in
    rw (← e) (rw (h (k / 6) (k % 6) (omega arith)) (only_few (test (k / 6) (k % 6)) (W.words_of (type_at g (k / 6)) (k % 6) (k / 6))))

pub shows_once : (W : World) (outer g : List ℕ) (m : List Quad) → Shows W outer g m → Once m
unfolding Shows
shows_once W outer g m h = sides_once W (drawn W outer g) g m h

-- ---- codes that show and cover nothing: empty types, and 255
abbrev Bare : World → ℕ → Type 0
Bare W t = (get_or W.kinds t 0 ≡ 0) × (get_or W.covers t 0 ≡ 0)

empty_bare : (W : World) (t : ℕ) → is_empty W t ≡ true → Bare W t
empty_bare W t e =
    let a = and_true (ltb t (length W.kinds) && eqb (get_or W.kinds t 0) 0) (eqb (get_or W.covers t 0) 0) e in
    let b = and_true (ltb t (length W.kinds)) (eqb (get_or W.kinds t 0) 0) a.0 in
    (eqb-true (get_or W.kinds t 0) 0 b.1, eqb-true (get_or W.covers t 0) 0 a.1)

outside_bare : (W : World) → Sound W → Bare W 255
outside_bare W s = (get_or-eq_default W.kinds 0 s.few, get_or-eq_default W.covers 0 s.few_sets)

bare_cube : (W : World) (t : ℕ) → Bare W t → is_normal_cube W t ≡ false
bare_cube W t b = rw b.0

bare_covers : (W : World) (t f : ℕ) → Bare W t → covering W t f ≡ false
bare_covers W t f b = rw (b.1, zero-div (2 ^ f))

pub empty_type_lem : (W : World) → empty_type W < length W.kinds → is_empty W (empty_type W) ≡ true
unfolding empty_type
empty_type_lem W h = lowest_bad (length W.kinds) (is_empty W) h

-- nothing is drawn outside the grid
pub no_side : (W : World) → Sound W → (g : List ℕ) (n f : ℕ) → length g ≤ n → all_sides W g n f ≡ false
no_side W s g n f h = rw (get_or-eq_default g 255 h, bare_cube W 255 (outside_bare W s))

pub not_drawn : (W : World) → Sound W → (outer g : List ℕ) (n f : ℕ) → length g ≤ n → drawn W outer g n f ≡ false
not_drawn W s outer g n f h = rw (no_side W s g n f h)

due_out : (W : World) → Sound W → (outer g : List ℕ) (n f : ℕ) → length g ≤ n → due W outer g n f ≡ []
due_out W s outer g n f h = rw (not_drawn W s outer g n f h)

-- ---- a fresh mesh shows what its test draws
module _ (W : World) (g : List ℕ) (test : ℕ → ℕ → Bool) where
  pub fresh_at : (n f : ℕ) → n < cells W.size → f < 6 → at (key_of n f) (mesh_by W test g) ≡ only (test n f) (W.words_of (type_at g n) f n)
  unfolding mesh_by
  fresh_at n f hn hf =
      read_one (quads_at (key_of n f)) (cells W.size) 0 n (quads_by W test g) (omega arith) (omega arith)
      (λ c h d. quads_far W (type_at g c) c n f hf (test c) (λ q. d (sym q)))
      ∙ quads_own W (type_at g n) n n f hf (test n) refl

  pub fresh_out : (n f : ℕ) → cells W.size ≤ n → f < 6 → at (key_of n f) (mesh_by W test g) ≡ []
  unfolding mesh_by
  fresh_out n f hn hf =
      read_none (quads_at (key_of n f)) (cells W.size) 0 (quads_by W test g)
      (λ c a b. quads_far W (type_at g c) c n f hf (test c) (λ q. omega arith))

  pub fresh_sides : ((n f : ℕ) → cells W.size ≤ n → test n f ≡ false) → (n f : ℕ) → f < 6
      → at (key_of n f) (mesh_by W test g) ≡ only (test n f) (W.words_of (type_at g n) f n)
  fresh_sides no_sides n f hf = go (dec_lt n (cells W.size))
    where
      go : Dec (n < cells W.size) → at (key_of n f) (mesh_by W test g) ≡ only (test n f) (W.words_of (type_at g n) f n)
      go (yes h) = fresh_at n f h hf
      go (no h) = fresh_out n f (omega arith) hf ∙ rw (no_sides n f (omega arith))

-- LAW: a culled fresh mesh shows exactly the drawn faces, once each, with their words
pub fresh_shows : (W : World) → Sound W → (outer g : List ℕ) → length g ≡ cells W.size → Shows W outer g (culled W outer g)
unfolding Shows
fresh_shows W s outer g hg = fresh_sides W g (drawn W outer g) (λ n f h. not_drawn W s outer g n f (omega arith))

-- ---- one cell c of the grid, and face f of a cell n
module _ (W : World) (s : Sound W) (g : List ℕ) (hg : length g ≡ cells W.size) (c : ℕ) (hc : c < cells W.size) (n f : ℕ) (hf : f < 6) where
  -- what is due far from c does not change
  shown_far : (t : ℕ) (o : Option ℕ) → o ≢ some c → shown W [] (set g c t) f o ≡ shown W [] g f o
  shown_far t none d = refl
  shown_far t (some k) d = rw (get_or-set_other g c k t 255 (λ q. d (ap some q)))

  due_far : (t : ℕ) → n ≢ c → neighbour W.size n f ≢ some c → due W [] (set g c t) n f ≡ due W [] g n f
  due_far t d h = rw (get_or-set_other g c n t 255 d, shown_far t (neighbour W.size n f) h)

  after_own : (t : ℕ) → type_at (set g c t) c ≡ t
  after_own t = get_or-set_same g c t 255 (omega arith)

-- ---- an entry that is true of the grid
module _ (W : World) (s : Sound W) (g : List ℕ) (hg : length g ≡ cells W.size) (e : Entry) (in_grid : e.cell < cells W.size) (told : Told W g e) (n f : ℕ) (hf : f < 6) where
  c : ℕ
  c = e.cell

  -- a neighbour as given, drawn by, is a neighbour as it stands
  open_is : (t : ℕ) (o : Option ℕ) → neighbour W.size e.cell f ≡ o
      → (outside (standing g o) || not (covering W (standing g o) (opposite f))) ≡ shown W [] (set g e.cell t) f o
  open_is t none q = refl
  open_is t (some k) q =
      let b = beside W.size s.wide s.long e.cell in_grid f k q in
      rw (get_or-set_other g e.cell k t 255 b.other) (go (outside (type_at g k)) refl)
    where
      go : (b : Bool) → outside (type_at g k) ≡ b
          → (b || not (covering W (type_at g k) (opposite f))) ≡ not (covering W (type_at g k) (opposite f))
      go true r = sym (rw (eqb-true (type_at g k) 255 r, bare_covers W 255 (opposite f) (outside_bare W s)))
      go false r = refl

  hidden : {A : Type 0} (a q : Bool) (x : A) → cond q [] (or_else (only (a && true) x) []) ≡ only (a && not q) x
  hidden true true x = refl
  hidden true false x = refl
  hidden false true x = refl
  hidden false false x = refl

  revealed : {A : Type 0} (a q : Bool) (x : A) → or_else (only (a && not q) x) (only (q && a) x) ≡ only (a && true) x
  revealed true true x = refl
  revealed true false x = refl
  revealed false true x = refl
  revealed false false x = refl

  beyond : (t : ℕ) → cells W.size ≤ n → due W [] g n f ≡ due W [] (set g e.cell t) n f
  beyond t l =
      due_out W s [] g n f (omega arith) ∙ sym (due_out W s [] (set g e.cell t) n f (omega (arith, length-set g e.cell t)))

  -- Added, over the side that is tested, where what was there shows and covers nothing
  added_due : (tested : Tested) → is_normal_cube W e.type ≡ true → Bare W (type_at g e.cell) → Alike tested W e.type
      → worked (added tested W e) (key_of n f) (due W [] g n f) ≡ due W [] (set g e.cell e.type) n f
  added_due tested cube bare alike = go (view W s e.cell in_grid n f hf)
    where
      t : ℕ
      t = e.type

      alone : n ≢ e.cell → Apart W s e.cell in_grid n f hf → worked (added tested W e) (key_of n f) (due W [] g n f) ≡ due W [] g n f
      alone d a =
          idle_at W s e.cell in_grid n f hf (added tested W e) (sides_far W e.type e.cell n f hf all d)
          (quads_far W e.type e.cell n f hf (is_open W e) d) (conceals_none W s e.cell in_grid n f hf tested e.type a) (due W [] g n f)

      go : View W s e.cell in_grid n f hf
          → worked (added tested W e) (key_of n f) (due W [] g n f) ≡ due W [] (set g e.cell e.type) n f
      go (own q) =
          rw (
            conceals_none W s e.cell in_grid n f hf tested e.type (own_apart W s e.cell in_grid n f hf q),
            sides_own W e.type e.cell n f hf all q,
            quads_own W e.type e.cell n f hf (is_open W e) q,
            q,
            after_own W s g hg e.cell in_grid n f hf e.type,
            cube,
            told f hf,
          )
          (ap (λ (b : Bool). only b (W.words_of e.type f e.cell)) (open_is e.type (neighbour W.size e.cell f) refl))
      go (facing d b q) =
          rw (
            conceals_one W s e.cell in_grid n f hf tested e.type b,
            sides_far W e.type e.cell n f hf all d,
            quads_far W e.type e.cell n f hf (is_open W e) d,
            alike (opposite f) (opposite_lt f hf),
            q,
            get_or-set_other g e.cell n e.type 255 d,
            after_own W s g hg e.cell in_grid n f hf e.type,
            bare_covers W (type_at g e.cell) (opposite f) bare,
          )
          (hidden (is_normal_cube W (type_at g n)) (covering W e.type (opposite f)) (W.words_of (type_at g n) f n))
      go (apart d l q) =
          alone d (face_apart W s e.cell in_grid n f hf q) ∙ sym (due_far W s g hg e.cell in_grid n f hf e.type d q)
      go (out d l) = alone d (out_apart W s e.cell in_grid n f hf l) ∙ beyond e.type l

  -- Broken, which leaves what shows and covers nothing
  broken_due : (t : ℕ) → Bare W t → e.type ≡ type_at g e.cell → worked (broken W e) (key_of n f) (due W [] g n f) ≡ due W [] (set g e.cell t) n f
  broken_due t bare was = go (view W s e.cell in_grid n f hf)
    where
      alone : n ≢ e.cell → Apart W s e.cell in_grid n f hf → worked (broken W e) (key_of n f) (due W [] g n f) ≡ due W [] g n f
      alone d a =
          idle_at W s e.cell in_grid n f hf (broken W e) (sides_far W e.type e.cell n f hf all d)
          (reveals_none W s e.cell in_grid n f hf e.type (given_at e) a) refl (due W [] g n f)

      go : View W s e.cell in_grid n f hf → worked (broken W e) (key_of n f) (due W [] g n f) ≡ due W [] (set g e.cell t) n f
      go (own q) =
          rw (
            reveals_none W s e.cell in_grid n f hf e.type (given_at e) (own_apart W s e.cell in_grid n f hf q),
            sides_own W e.type e.cell n f hf all q,
            q,
            after_own W s g hg e.cell in_grid n f hf t,
            bare_cube W t bare,
          )
      go (facing d b q) =
          rw (
            reveals_one W s e.cell in_grid n f hf e.type (given_at e) b,
            sides_far W e.type e.cell n f hf all d,
            told (opposite f) (opposite_lt f hf),
            b,
            q,
            get_or-set_other g e.cell n t 255 d,
            after_own W s g hg e.cell in_grid n f hf t,
            bare_covers W t (opposite f) bare,
            ← was,
          )
          (revealed (is_normal_cube W (type_at g n)) (covering W e.type (opposite f)) (W.words_of (type_at g n) f n))
      go (apart d l q) =
          alone d (face_apart W s e.cell in_grid n f hf q) ∙ sym (due_far W s g hg e.cell in_grid n f hf t d q)
      go (out d l) = alone d (out_apart W s e.cell in_grid n f hf l) ∙ beyond t l

  -- what is drawn, is drawn once
  added_new : (tested : Tested) → length (at (key_of n f) (added tested W e).new) ≤ 1
  added_new tested = go (ℕ_discrete n e.cell)
    where
      go : Dec (n ≡ e.cell) → length (at (key_of n f) (quads W e.type e.cell (is_open W e))) ≤ 1
      go (yes q) = rw (quads_own W e.type e.cell n f hf (is_open W e) q) (only_few (is_open W e f) (W.words_of e.type f e.cell))
      go (no d) = rw (quads_far W e.type e.cell n f hf (is_open W e) d) (omega arith)

  broken_new : length (at (key_of n f) (broken W e).new) ≤ 1
  broken_new = go (view W s e.cell in_grid n f hf)
    where
      gone : Apart W s e.cell in_grid n f hf → length (at (key_of n f) (broken W e).new) ≤ 1
      gone a = rw (reveals_none W s e.cell in_grid n f hf e.type (given_at e) a) (omega arith)

      go : View W s e.cell in_grid n f hf → length (at (key_of n f) (broken W e).new) ≤ 1
      go (own q) = gone (own_apart W s e.cell in_grid n f hf q)
      go (facing d b q) =
          rw (reveals_one W s e.cell in_grid n f hf e.type (given_at e) b)
          (only_few (covering W e.type (opposite f) && is_normal_cube W (given_at e (opposite f))) (W.words_of (given_at e (opposite f)) f n))
      go (apart d l q) = gone (face_apart W s e.cell in_grid n f hf q)
      go (out d l) = gone (out_apart W s e.cell in_grid n f hf l)

-- a mesh that shows what culling shows, before an entry that is true of the grid
module _ (W : World) (s : Sound W) (tested : Tested) (g : List ℕ) (hg : length g ≡ cells W.size) (m : List Quad) (shows : Shows W [] g m)
    (e : Entry) (in_grid : e.cell < cells W.size) (told : Told W g e) where
  by_faces : (w : Work) (g' : List ℕ) → ((n f : ℕ) → f < 6 → length (at (key_of n f) w.new) ≤ 1)
      → ((n f : ℕ) → f < 6 → worked w (key_of n f) (due W [] g n f) ≡ due W [] g' n f) → Shows W [] g' (run (ops w) m)
  unfolding Shows
  by_faces w g' few h n f hf =
      at_work w (key_of n f) m (shows_once W [] g m shows (key_of n f)) (few n f hf) ∙ rw (shows n f hf) (h n f hf)

  -- Broken leaves a type that shows and covers nothing; Added fills such a one
  broken_shows : (t : ℕ) → Bare W t → e.type ≡ type_at g e.cell → Shows W [] (set g e.cell t) (run (ops (broken W e)) m)
  broken_shows t bare was =
      by_faces (broken W e) (set g e.cell t) (λ n f hf. broken_new W s g hg e in_grid told n f hf) (λ n f hf. broken_due W s g hg e in_grid told n f hf t bare was)

  added_shows : is_normal_cube W e.type ≡ true → Bare W (type_at g e.cell) → Alike tested W e.type
      → Shows W [] (set g e.cell e.type) (run (ops (added tested W e)) m)
  added_shows cube bare alike =
      by_faces (added tested W e) (set g e.cell e.type) (λ n f hf. added_new W s g hg e in_grid told n f hf tested) (λ n f hf. added_due W s g hg e in_grid told n f hf tested cube bare alike)

-- ---- LAW: an honest entry of demand 3 keeps what a mesh shows
module _ (W : World) (s : Sound W) (tested : Tested) (g : List ℕ) (hg : length g ≡ cells W.size) (m : List Quad) (shows : Shows W [] g m)
    (e : Entry) (in_grid : e.cell < cells W.size) (told : Told W g e) where
  -- the grid between the halves of Replaced: 255, which shows and covers nothing, so that no empty type is asked for
  abbrev hole : List ℕ
  hole = set g e.cell 255

  told_still : Told W hole (second_half e)
  told_still f hf = told f hf ∙ go (neighbour W.size e.cell f) refl
    where
      go : (o : Option ℕ) → neighbour W.size e.cell f ≡ o → standing g o ≡ standing hole o
      go none q = refl
      go (some k) q = sym (get_or-set_other g e.cell k 255 255 (beside W.size s.wide s.long e.cell in_grid f k q).other)

  replaced_shows : e.former ≡ type_at g e.cell → is_normal_cube W e.type ≡ true → Alike tested W e.type
      → Shows W [] (set g e.cell e.type) (run (ops (replaced tested W e)) m)
  replaced_shows was cube alike =
      let nothing_left = subst (Bare W) (sym (get_or-set_same g e.cell 255 255 (omega arith))) (outside_bare W s) in
      let first = broken_shows W s tested g hg m shows (first_half e) in_grid told 255 (outside_bare W s) was in
      let second = added_shows W s tested hole (length-set g e.cell 255 ∙ hg) (run (ops (broken W (first_half e))) m) first (second_half e) in_grid told_still cube nothing_left alike in
      rw (replaced_run tested W s e in_grid m (shows_once W [] g m shows), cube, ← set-set g e.cell 255 e.type) second

  pub mends_entry : (k : Change) → TrueBy W g e k → MendsBy W g e k → AlikeBy tested W e k → Shows W [] (grid_by W g e k) (run (ops (work_by tested W e k)) m)
  mends_entry Broken h t alike = broken_shows W s tested g hg m shows e in_grid told (empty_type W) (empty_bare W (empty_type W) (empty_type_lem W h.1)) h.0
  mends_entry Added h t alike = rw t.cube (added_shows W s tested g hg m shows e in_grid told t.cube (empty_bare W (type_at g e.cell) t.was_empty) (alike t.cube))
  mends_entry Sides h t alike = absurd t
  mends_entry Replaced h t alike = replaced_shows h t (alike t)
