-- What a log does to counts, places and faces. Assumes nothing.
use mathlib.Core.Path.{◌≡◌, refl, sym, ap, ◌∙◌}
use mathlib.Core.Logic.{◌≢◌, ◌↔◌}
use mathlib.Core.Bool.{Bool, true, false, cond, ◌&&◌}
use mathlib.Core.List.{List, [], ◌∷◌, ◌++◌}
use mathlib.Core.Option.{Option, none, some}
use Prim.Native.Nat.{ℕ, zero, suc, ◌+◌, ◌-◌, ◌*◌, ◌≤◌, ◌<◌, max}
use native.Mathlib.Omega.{arith}
use lib.Dec.{leb}
use lib.ListN.{length, get_or, set, take, drop, length-append, length-set}
use lib.Seq.{set_split}
use borrow.Author.Tests.{leb-true}
use Rattle.rules.specs.Lists.{each, only}
use Rattle.rules.specs.Cells.{cells, opposite, neighbour, key_of}
use Rattle.rules.specs.Mesh.{Quad, World, is_normal_cube, covering, mesh_by, quads_by, type_at, there, place_of, quad_of}
use Rattle.rules.specs.Update.{Change, Broken, Added, Sides, Replaced, Entry, given_at, blank, draw, shifts, remove_at, remove, Op, put, cut, step, run, moves, highest, Work, Tested, sides, quads, conceal, reveal, all, is_open, to_hide, draws, nothing, added, added_if_cube, broken, first_half, second_half, work_by, work, cuts, puts, ops, needed, Course, course_from, mesh_after, empty_type, grid_by, grid_after, grid_log, Honest, Mends, AddsAlike}
use Rattle.rules.proofs.ListLaws.{All, all_append, all_take, all_drop, all_at, all_each, all_only, split, only_few, each_few}
use Rattle.rules.proofs.Neighbours.{beside, opposite_lt}
use Rattle.rules.proofs.Quads.{Once, placed, moved_le, length-remove_at, run-append, run_once}
use Rattle.rules.proofs.Laying.{Fits}
use Rattle.rules.proofs.Views.{Sound}
use Rattle.rules.proofs.Mending.{Shows, mends_entry}

-- ---- moves: at most five a removal, sixty an entry
pub moves-append : (a b : List Op) (m : List Quad) → moves (a ++ b) m ≡ moves a m + moves b (run a m)
moves-append [] b m = omega arith
moves-append (o ∷ a) b m = omega (arith, moves-append a b (step o m))

moves_cuts : (ks : List ℕ) (m : List Quad) → moves (cuts ks) m ≤ 5 * length ks
moves_cuts [] m = omega arith
moves_cuts (k ∷ ks) m = omega (arith, moves_cuts ks (remove k m), moved_le k m)

moves_puts : (qs : List Quad) (m : List Quad) → moves (puts qs) m ≡ 0
moves_puts [] m = refl
moves_puts (q ∷ qs) m = omega (arith, moves_puts qs (draw q m))

pub moves_ops : (w : Work) (m : List Quad) → moves (ops w) m ≤ 5 * (length w.own + length w.facing)
unfolding ops
moves_ops w m =
    let a = moves-append (cuts w.own) (puts w.new ++ cuts w.facing) m in
    let b = moves-append (puts w.new) (cuts w.facing) (run (cuts w.own) m) in
    let c = moves_cuts w.own m in
    let d = moves_puts w.new (run (cuts w.own) m) in
    let e = moves_cuts w.facing (run (puts w.new) (run (cuts w.own) m)) in
    omega arith

few_sides : (c : ℕ) (p : ℕ → Bool) → length (sides c p) ≤ 6
few_sides c p = each_few 1 6 0 (λ f. only (p f) (key_of c f)) (λ f. only_few (p f) (key_of c f))

pub few_own : (tested : Tested) (W : World) (e : Entry) (k : Change) → length (work_by tested W e k).own ≤ 6
few_own tested W e Broken = few_sides e.cell all
few_own tested W e Added =
    split (λ t. length (cond t (added tested W e) nothing).own ≤ 6) (is_normal_cube W e.type) (λ s. few_sides e.cell all) (λ s. omega arith)
few_own tested W e Sides = few_sides e.cell (to_hide e)
few_own tested W e Replaced = few_sides e.cell all

few_concealed : (tested : Tested) (W : World) (e : Entry) → length (added_if_cube tested W e).facing ≤ 6
few_concealed tested W e =
    split (λ t. length (cond t (added tested W e) nothing).facing ≤ 6) (is_normal_cube W e.type)
    (λ s. each_few 1 6 0 (λ i. conceal tested W e.type i (neighbour W.size e.cell i)) (λ i. one i (neighbour W.size e.cell i))) (λ s. omega arith)
  where
    one : (i : ℕ) (o : Option ℕ) → length (conceal tested W e.type i o) ≤ 1
    one i none = omega arith
    one i (some n) = only_few (covering W e.type (tested i)) (key_of n (opposite i))

pub few_facing : (tested : Tested) (W : World) (e : Entry) (k : Change) → length (work_by tested W e k).facing ≤ 6
few_facing tested W e Broken = omega arith
few_facing tested W e Added = few_concealed tested W e
few_facing tested W e Sides = omega arith
few_facing tested W e Replaced = few_concealed tested W (second_half e)

-- LAW: an entry moves at most sixty quads
pub entry_moves : (tested : Tested) (W : World) (e : Entry) (m : List Quad) → moves (ops (work tested W e)) m ≤ 60
entry_moves tested W e m =
    omega (arith, moves_ops (work tested W e) m, few_own tested W e e.change, few_facing tested W e e.change)

-- ---- counts
draw_grows : (q : Quad) (m : List Quad) → length m ≤ length (draw q m)
draw_grows q m =
    split (λ t. length m ≤ length (cond t m (m ++ (q ∷ [])))) (there q.key m) (λ e. omega arith) (λ e. omega (arith, length-append m (q ∷ [])))

remove_shrinks : (k : ℕ) (m : List Quad) → length (remove k m) ≤ length m
unfolding remove
remove_shrinks k m =
    split (λ t. there k m ≡ t → length (cond t (remove_at (place_of k m) m) m) ≤ length m) (there k m)
    (λ x e. omega (arith, length-remove_at (place_of k m) m (placed k m e).within)) (λ x e. omega arith) refl

pub cuts_shrink : (ks : List ℕ) (m : List Quad) → length (run (cuts ks) m) ≤ length m
cuts_shrink [] m = omega arith
cuts_shrink (k ∷ ks) m = omega (arith, remove_shrinks k m, cuts_shrink ks (remove k m))

pub puts_grow : (qs m : List Quad) → length m ≤ length (run (puts qs) m)
puts_grow [] m = omega arith
puts_grow (q ∷ qs) m = omega (arith, draw_grows q m, puts_grow qs (draw q m))

pub highest-append : (a b : List Op) (p : ℕ) (m : List Quad) → highest p (a ++ b) m ≡ highest (highest p a m) b (run a m)
highest-append [] b p m = refl
highest-append (o ∷ a) b p m = highest-append a b (max p (length (step o m))) (step o m)

highest_cuts : (ks : List ℕ) (p : ℕ) (m : List Quad) → length m ≤ p → highest p (cuts ks) m ≡ p
highest_cuts [] p m l = refl
highest_cuts (k ∷ ks) p m l =
    let s = remove_shrinks k m in
    let e : max p (length (remove k m)) ≡ p = omega arith in
    ap (λ (h : ℕ). highest h (cuts ks) (remove k m)) e ∙ highest_cuts ks p (remove k m) (omega arith)

highest_puts : (qs : List Quad) (p : ℕ) (m : List Quad) → length m ≤ p → highest p (puts qs) m ≡ max p (length (run (puts qs) m))
highest_puts [] p m l = omega arith
highest_puts (q ∷ qs) p m l =
    let g = puts_grow qs (draw q m) in highest_puts qs (max p (length (draw q m))) (draw q m) (omega arith) ∙ omega arith

-- LAW: the highest count on the way through an entry is that which NO_ROOM looks at
pub highest_needed : (w : Work) (p : ℕ) (m : List Quad) → length m ≤ p → highest p (ops w) m ≡ max p (needed w m)
unfolding ops needed
highest_needed w p m l =
    let a = highest-append (cuts w.own) (puts w.new ++ cuts w.facing) p m in
    let b = highest-append (puts w.new) (cuts w.facing) (highest p (cuts w.own) m) (run (cuts w.own) m) in
    let c = highest_cuts w.own p m l in
    let s = cuts_shrink w.own m in
    let d = highest_puts w.new p (run (cuts w.own) m) (omega arith) in
    let f = highest_cuts w.facing (max p (length (run (puts w.new) (run (cuts w.own) m)))) (run (puts w.new) (run (cuts w.own) m)) (omega arith) in
    a ∙ b ∙ rw (c, d) f

-- LAW: NO_ROOM is given exactly if the highest count within the entry exceeds the room
pub no_room : (w : Work) (room : ℕ) (m : List Quad) → length m ≤ room → (room < needed w m) ↔ (room < highest (length m) (ops w) m)
no_room w room m h = let e = highest_needed w (length m) m (omega arith) in (λ l. omega arith, λ l. omega arith)

pub run_le : (w : Work) (m : List Quad) → length (run (ops w) m) ≤ needed w m
unfolding ops needed
run_le w m =
    let e = run-append (cuts w.own) (puts w.new ++ cuts w.facing) m ∙ run-append (puts w.new) (cuts w.facing) (run (cuts w.own) m) in
    let s = cuts_shrink w.facing (run (puts w.new) (run (cuts w.own) m)) in
    omega (arith, ap length e)

-- ---- quads that fit stay quads that fit
pub all_removed : (P : Quad → Type 0) (q : ℕ) (m : List Quad) → q < length m → All P m → All P (remove_at q m)
unfolding remove_at
all_removed P q m h v =
    let last = get_or m (length m - 1) blank in
    split (λ t. All P (cond t (take q m ++ drop (suc q) m) (take (length m - 1) (set m q last)))) (shifts (length m) q)
    (λ _. all_append P (take q m) (drop (suc q) m) (all_take P q m v) (all_drop P (suc q) m v))
    (λ _. all_take P (length m - 1) (set m q last) (rw (set_split m q last h)
    (all_append P (take q m) (last ∷ drop (suc q) m) (all_take P q m v) (all_at P m (length m - 1) blank v (omega arith), all_drop P (suc q) m v))))

module _ (n s : ℕ) where
  fits_remove : (k : ℕ) (m : List Quad) → All (Fits n s) m → All (Fits n s) (remove k m)
  unfolding remove
  fits_remove k m v =
      split (λ t. All (Fits n s) (cond t (remove_at (place_of k m) m) m)) (there k m) (λ e. all_removed (Fits n s) (place_of k m) m (placed k m e).within v) (λ e. v)

  fits_cuts : (ks : List ℕ) (m : List Quad) → All (Fits n s) m → All (Fits n s) (run (cuts ks) m)
  fits_cuts [] m v = v
  fits_cuts (k ∷ ks) m v = fits_cuts ks (remove k m) (fits_remove k m v)

  fits_puts : (qs m : List Quad) → All (Fits n s) qs → All (Fits n s) m → All (Fits n s) (run (puts qs) m)
  fits_puts [] m w v = v
  fits_puts (q ∷ qs) m w v =
      fits_puts qs (draw q m) w.1
      (split (λ t. All (Fits n s) (cond t m (m ++ (q ∷ [])))) (there q.key m) (λ e. v) (λ e. all_append (Fits n s) m (q ∷ []) v (w.0, tt)))

  pub fits_ops : (w : Work) (m : List Quad) → All (Fits n s) w.new → All (Fits n s) m → All (Fits n s) (run (ops w) m)
  unfolding ops
  fits_ops w m h v =
      rw (run-append (cuts w.own) (puts w.new ++ cuts w.facing) m, run-append (puts w.new) (cuts w.facing) (run (cuts w.own) m))
      (fits_cuts w.facing (run (puts w.new) (run (cuts w.own) m)) (fits_puts w.new (run (cuts w.own) m) h (fits_cuts w.own m v)))

-- ---- what an entry draws fits
module _ (W : World) (snd : Sound W) (s : ℕ) (sized : (t f c : ℕ) → length (W.words_of t f c) ≡ s) where
  fits_quads : (t c : ℕ) (p : ℕ → Bool) → c < cells W.size → All (Fits (6 * cells W.size) s) (quads W t c p)
  fits_quads t c p h =
      all_each (Fits (6 * cells W.size) s) 6 0 (λ f. only (p f) (quad_of W t c f))
      (λ f a b. all_only (Fits (6 * cells W.size) s) (p f) (quad_of W t c f) (omega arith, sized t f c))

  pub fits_fresh : (test : ℕ → ℕ → Bool) (g : List ℕ) → All (Fits (6 * cells W.size) s) (mesh_by W test g)
  unfolding mesh_by
  fits_fresh test g = all_each (Fits (6 * cells W.size) s) (cells W.size) 0 (quads_by W test g) (λ c a b. fits_quads (type_at g c) c (test c) (omega arith))

  fits_revealed : (e : Entry) → e.cell < cells W.size → All (Fits (6 * cells W.size) s) (broken W e).new
  fits_revealed e h =
      all_each (Fits (6 * cells W.size) s) 6 0 (λ i. reveal W e.type (given_at e i) i (neighbour W.size e.cell i))
      (λ i a b. one i (omega arith) (neighbour W.size e.cell i) refl)
    where
      one : (i : ℕ) → i < 6 → (o : Option ℕ) → neighbour W.size e.cell i ≡ o → All (Fits (6 * cells W.size) s) (reveal W e.type (given_at e i) i o)
      one i hi none q = tt
      one i hi (some k) q =
          let b = (beside W.size snd.wide snd.long e.cell h i k q).inside in let l = opposite_lt i hi in
          all_only (Fits (6 * cells W.size) s) (covering W e.type i && is_normal_cube W (given_at e i)) (quad_of W (given_at e i) k (opposite i))
          (omega arith, sized (given_at e i) (opposite i) k)

  fits_cube : (tested : Tested) (e : Entry) → e.cell < cells W.size → All (Fits (6 * cells W.size) s) (added_if_cube tested W e).new
  fits_cube tested e h =
      split (λ t. All (Fits (6 * cells W.size) s) (cond t (added tested W e) nothing).new) (is_normal_cube W e.type)
      (λ x. fits_quads e.type e.cell (is_open W e) h) (λ x. tt)

  pub fits_new : (tested : Tested) (e : Entry) → e.cell < cells W.size → (k : Change) → All (Fits (6 * cells W.size) s) (work_by tested W e k).new
  fits_new tested e h Broken = fits_revealed e h
  fits_new tested e h Added = fits_cube tested e h
  fits_new tested e h Sides = fits_quads e.type e.cell (draws W e) h
  fits_new tested e h Replaced =
      all_append (Fits (6 * cells W.size) s) (broken W (first_half e)).new (added_if_cube tested W (second_half e)).new (fits_revealed (first_half e) h) (fits_cube tested (second_half e) h)

-- ---- a log

-- a mesh of n faces, s words a quad, whose highest count was p, in a room
pub record Sane (n s room : ℕ) (m : List Quad) (p : ℕ) : Type 0 where
  pub fits : All (Fits n s) m
  pub once : Once m
  pub reached : length m ≤ p
  pub within : p ≤ room

pub sane_step : (n s room : ℕ) (w : Work) (m : List Quad) (p : ℕ) → Sane n s room m p → All (Fits n s) w.new → needed w m ≤ room
    → Sane n s room (run (ops w) m) (highest p (ops w) m)
sane_step n s room w m p h f l =
    let e = highest_needed w p m h.reached in
    let r = run_le w m in
    let b = h.within in
    record { fits = fits_ops n s w m f h.fits; once = run_once (ops w) m h.once; reached = omega arith; within = omega arith }

-- what is drawn fits
abbrev pub Good : ℕ → ℕ → Op → Type 0
Good n s (put x) = Fits n s x
Good n s (cut k) = Unit {0}

pub good_ops : (n s : ℕ) (w : Work) → All (Fits n s) w.new → All (Good n s) (ops w)
unfolding ops
good_ops n s w f = all_append (Good n s) (cuts w.own) (puts w.new ++ cuts w.facing) (cut_all w.own) (all_append (Good n s) (puts w.new) (cuts w.facing) (put_all w.new f) (cut_all w.facing))
  where
    cut_all : (ks : List ℕ) → All (Good n s) (cuts ks)
    cut_all [] = tt
    cut_all (k ∷ ks) = (tt, cut_all ks)

    put_all : (qs : List Quad) → All (Fits n s) qs → All (Good n s) (puts qs)
    put_all [] a = tt
    put_all (x ∷ qs) a = (a.0, put_all qs a.1)

pub sane_one : (n s room : ℕ) (o : Op) (m : List Quad) (p : ℕ) → Good n s o → Sane n s room m p → length (step o m) ≤ room → Sane n s room (step o m) (max p (length (step o m)))
unfolding ops needed
sane_one n s room (put x) m p f h l = sane_step n s room (record { own = []; new = x ∷ []; facing = [] }) m p h (f, tt) l
sane_one n s room (cut k) m p f h l = sane_step n s room (record { own = k ∷ []; new = []; facing = [] }) m p h tt l

-- LAW: through any log, whether it comes through or finds no room, the mesh stays one, and in its room
pub course_sane : (n s room : ℕ) (work : ℕ → Work) (i k : ℕ) (m : List Quad) (v p : ℕ) → ((j : ℕ) → i ≤ j → j < i + k → All (Fits n s) (work j).new)
    → Sane n s room m p → Sane n s room (course_from room work i k m v p).quads (course_from room work i k m v p).highest
unfolding course_from
course_sane n s room work i zero m v p f h = h
course_sane n s room work i (suc k) m v p f h =
    split (λ t. Sane n s room (cond t after here).quads (cond t after here).highest) (leb (needed (work i) m) room)
    (λ e. course_sane n s room work (suc i) k (run (ops (work i)) m) (v + moves (ops (work i)) m) (highest p (ops (work i)) m)
    (λ j a b. f j (omega arith) (omega arith))
    (sane_step n s room (work i) m p h (f i (omega arith) (omega arith)) (leb-true (needed (work i) m) room e)))
    (λ e. h)
  where
    after : Course
    after = course_from room work (suc i) k (run (ops (work i)) m) (v + moves (ops (work i)) m) (highest p (ops (work i)) m)

    here : Course
    here = record { full = some i; quads = m; moved = v; highest = p }

pub highest_ge : (os : List Op) (h : ℕ) (m : List Quad) → h ≤ highest h os m
highest_ge [] h m = omega arith
highest_ge (o ∷ os) h m = let a = highest_ge os (max h (length (step o m))) (step o m) in omega arith

-- LAW: the highest count is not below the first
pub course_past : (room : ℕ) (works : ℕ → Work) (i k : ℕ) (m : List Quad) (v p : ℕ) → length m ≤ p → p ≤ (course_from room works i k m v p).highest
unfolding course_from
course_past room works i zero m v p h = omega arith
course_past room works i (suc k) m v p h =
    split (λ t. p ≤ (cond t (course_from room works (suc i) k (run (ops (works i)) m) (v + moves (ops (works i)) m) (highest p (ops (works i)) m))
    (record { full = some i; quads = m; moved = v; highest = p })).highest) (leb (needed (works i) m) room)
    (λ e. let t = highest_needed (works i) p m h in
    let l = run_le (works i) m in
    let b = course_past room works (suc i) k (run (ops (works i)) m) (v + moves (ops (works i)) m) (highest p (ops (works i)) m) (omega arith) in omega arith)
    (λ e. omega arith)

-- ---- which entries find room

-- a log that comes through: each entry found its room in the mesh that those before it left, and it leaves what all of them leave
pub record FoundRoom (room : ℕ) (work : ℕ → Work) (i n : ℕ) (m : List Quad) (v p : ℕ) : Type 0 where
  pub found : (j : ℕ) → j < n → needed (work (i + j)) (mesh_after work i j m) ≤ room
  pub left : (course_from room work i n m v p).quads ≡ mesh_after work i n m

pub found_room : (room : ℕ) (work : ℕ → Work) (i n : ℕ) (m : List Quad) (v p : ℕ) → (course_from room work i n m v p).full ≡ none
    → FoundRoom room work i n m v p
unfolding course_from
found_room room work i zero m v p e = record { found = λ j h. absurd (omega arith); left = refl }
found_room room work i (suc n) m v p e =
    go (leb (needed (work i) m) room) refl e
    (found_room room work (suc i) n (run (ops (work i)) m) (v + moves (ops (work i)) m) (highest p (ops (work i)) m))
  where
    after : Course
    after = course_from room work (suc i) n (run (ops (work i)) m) (v + moves (ops (work i)) m) (highest p (ops (work i)) m)

    found : needed (work i) m ≤ room → ((j : ℕ) → j < n → needed (work (suc i + j)) (mesh_after work (suc i) j (run (ops (work i)) m)) ≤ room)
        → (j : ℕ) → j < suc n → needed (work (i + j)) (mesh_after work i j m) ≤ room
    found here later zero h = let z : i + 0 ≡ i = omega arith in rw z here
    found here later (suc j) h = let z : i + suc j ≡ suc i + j = omega arith in rw z (later j (omega arith))

    go : (b : Bool) → leb (needed (work i) m) room ≡ b → (cond b after (record { full = some i; quads = m; moved = v; highest = p })).full ≡ none
        → (after.full ≡ none → FoundRoom room work (suc i) n (run (ops (work i)) m) (v + moves (ops (work i)) m) (highest p (ops (work i)) m))
        → FoundRoom room work i (suc n) m v p
    go true t e rest = let s = rest e in record { found = found (leb-true (needed (work i) m) room t) s.found; left = rw t s.left }
    go false t e rest = let z : ◌≡◌ {A = ℕ} 0 1 = cc in absurd (omega arith)

-- LAW: distinct faces stay distinct through a log
pub once_after : (work : ℕ → Work) (i n : ℕ) (m : List Quad) → Once m → Once (mesh_after work i n m)
once_after work i zero m h = h
once_after work i (suc n) m h = once_after work (suc i) n (run (ops (work i)) m) (run_once (ops (work i)) m h)

-- LAW: entries that move at most s quads each move at most s times their number
pub course_moves : (s room : ℕ) (work : ℕ → Work) (i n : ℕ) (m : List Quad) (v p : ℕ) → ((j : ℕ) (m : List Quad) → moves (ops (work j)) m ≤ s)
    → (course_from room work i n m v p).moved ≤ v + n * s
unfolding course_from
course_moves s room work i zero m v p h = omega arith
course_moves s room work i (suc n) m v p h =
    split (λ t. (cond t (course_from room work (suc i) n (run (ops (work i)) m) (v + moves (ops (work i)) m) (highest p (ops (work i)) m))
    (record { full = some i; quads = m; moved = v; highest = p })).moved ≤ v + suc n * s) (leb (needed (work i) m) room)
    (λ t. let r = course_moves s room work (suc i) n (run (ops (work i)) m) (v + moves (ops (work i)) m) (highest p (ops (work i)) m) h in
    let o = h i m in omega arith)
    (λ t. omega arith)

-- ---- an honest log that mends

pub length-after : (W : World) (g : List ℕ) (e : Entry) (k : Change) → length (grid_by W g e k) ≡ length g
length-after W g e Broken = length-set g e.cell (empty_type W)
length-after W g e Added = length-set g e.cell e.type
length-after W g e Sides = refl
length-after W g e Replaced = length-set g e.cell e.type

pub length_log : (W : World) (g : List ℕ) (es : List Entry) → length (grid_log W es g) ≡ length g
length_log W g [] = refl
length_log W g (e ∷ es) = length_log W (grid_after W g e) es ∙ length-after W g e e.change

pub log_append : (W : World) (g : List ℕ) (a b : List Entry) → grid_log W (a ++ b) g ≡ grid_log W b (grid_log W a g)
log_append W g [] b = refl
log_append W g (e ∷ a) b = log_append W (grid_after W g e) a b

pub alike-append : (tested : Tested) (W : World) (a b : List Entry) → AddsAlike tested W (a ++ b) ↔ (AddsAlike tested W a × AddsAlike tested W b)
alike-append tested W [] b = (λ h. (tt, h), λ h. h.1)
alike-append tested W (e ∷ a) b =
    let rest = alike-append tested W a b in (λ h. let r = rest.0 h.1 in ((h.0, r.0), r.1), λ h. (h.0.0, rest.1 (h.0.1, h.1)))

-- a course by works that are alike is the same
pub course_alike : (room : ℕ) (a b : ℕ → Work) (i n : ℕ) (m : List Quad) (v p : ℕ) → ((j : ℕ) → j < i + n → a j ≡ b j)
    → course_from room a i n m v p ≡ course_from room b i n m v p
unfolding course_from
course_alike room a b i zero m v p h = refl
course_alike room a b i (suc n) m v p h =
    let e = h i (omega arith) in
    rw e (ap (λ (c : Course). cond (leb (needed (b i) m) room) c (record { full = some i; quads = m; moved = v; highest = p }))
    (course_alike room a b (suc i) n (run (ops (b i)) m) (v + moves (ops (b i)) m) (highest p (ops (b i)) m) (λ j l. h j (omega arith))))

-- LAW: a mesh that shows what culling shows, shows it of the new grid after an honest log of demand 3 that comes through
pub mends_log : (W : World) → Sound W → (tested : Tested) (room : ℕ) (entry : ℕ → Entry) (i k : ℕ) (g : List ℕ) (m : List Quad) (v p : ℕ)
    → length g ≡ cells W.size → Shows W [] g m → ((j : ℕ) → i ≤ j → j < i + k → (entry j).cell < cells W.size)
    → Honest W g (each k i (λ j. entry j ∷ [])) → Mends W g (each k i (λ j. entry j ∷ []))
    → AddsAlike tested W (each k i (λ j. entry j ∷ [])) → (course_from room (λ j. work tested W (entry j)) i k m v p).full ≡ none
    → Shows W [] (grid_log W (each k i (λ j. entry j ∷ [])) g) (course_from room (λ j. work tested W (entry j)) i k m v p).quads
unfolding course_from each
mends_log W s tested room entry i zero g m v p hg sh in_grid ho me al fu = sh
mends_log W s tested room entry i (suc k) g m v p hg sh in_grid ho me al fu =
    split (λ t. (cond t after here).full ≡ none
    → Shows W [] (grid_log W (each k (suc i) (λ j. entry j ∷ [])) (grid_after W g (entry i))) (cond t after here).quads)
    (leb (needed (work tested W (entry i)) m) room)
    (λ e q. mends_log W s tested room entry (suc i) k (grid_after W g (entry i)) (run (ops (work tested W (entry i))) m)
    (v + moves (ops (work tested W (entry i))) m) (highest p (ops (work tested W (entry i))) m)
    (length-after W g (entry i) (entry i).change ∙ hg)
    (mends_entry W s tested g hg m sh (entry i) (in_grid i (omega arith) (omega arith)) ho.0 (entry i).change ho.1 me.0 al.0)
    (λ j a b. in_grid j (omega arith) (omega arith)) ho.2 me.1 al.1 q)
    (λ e q. absurd (some_none (sym q))) fu
  where
    after : Course
    after =
        course_from room (λ j. work tested W (entry j)) (suc i) k (run (ops (work tested W (entry i))) m)
        (v + moves (ops (work tested W (entry i))) m) (highest p (ops (work tested W (entry i))) m)

    here : Course
    here = record { full = some i; quads = m; moved = v; highest = p }

    some_none : {a : ℕ} → ◌≢◌ {A = Option ℕ} none (some a)
    some_none {a} e = let z : ◌≡◌ {A = ℕ} 0 1 = cc in omega arith
