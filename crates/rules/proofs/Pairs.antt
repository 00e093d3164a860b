-- 02, Q-6 and Q-7: Sides does what CullFaces and AddFaces did, one after the other, and Replaced what Broken and Added do; and the room that they ask for. Assumes nothing.
use mathlib.Core.Path.{◌≡◌, refl, sym, ap, ◌∙◌, subst}
use mathlib.Core.Logic.{◌↔◌}
use mathlib.Core.Bool.{Bool, true, false, cond, not, ◌&&◌}
use mathlib.Core.List.{List, [], ◌∷◌, ◌++◌, map, append-nil, map-append}
use mathlib.Core.Option.{Option, none, some}
use Prim.Native.Nat.{ℕ, zero, suc, ◌+◌, ◌-◌, ◌%◌, ◌/◌, ◌≤◌, ◌<◌, max}
use native.Mathlib.Omega.{arith}
use lib.Dec.{eqb, leb}
use lib.ListN.{length, get_or}
use native.Mathlib.Numerals.{add-one}
use native.Mathlib.Nat.{add-zero}
use borrow.Author.Tests.{eqb-true, le-leb, leb-true, leb-false}
use Rattle.rules.specs.Lists.{each, only, is_nil, count}
use Rattle.rules.specs.Cells.{cells, key_of}
use Rattle.rules.specs.Mesh.{Quad, World, Lists, is_normal_cube, at, there, quad_of, decode}
use Rattle.rules.specs.Update.{ENTRY_BYTES, Change, Broken, Added, Sides, Replaced, Entry, given_at, entry_at, outside, to_hide, to_draw, Op, put, cut, run, moves, highest, Work, Tested, quads, nothing, draws, sided, broken, added_if_cube, first_half, second_half, replaced, work_by, work, cuts, puts, ops, needed, hidden_there, drawn_missing, Course, course_from}
use Rattle.rules.specs.Answers.{fine}
use Rattle.rules.specs.Calls.{Scene, world, room, entries_of, update_verdict, course, update_by, update_mesh}
use Rattle.rules.specs.Pairs.{Single, stayed, cull_faces, add_faces, with_given, single_work, giving, pair_by, pairs, single_works, single_course, single_update, sides_of, as_sides}
use Rattle.rules.proofs.ListLaws.{and_false, and_with, split, each_same, none_each, map_each, count_each, get_d_table, all_each, all_only, all_map}
use Rattle.rules.proofs.Quads.{Once, at_cuts, run-append, run_once}
use Rattle.rules.proofs.Index.{count_same}
use Rattle.rules.proofs.Acting.{face_of, is_cut, acts, acting, after, acting_same, acting_acts, acting_all, acting_count, acting_sides}
use Rattle.rules.proofs.Views.{Sound, sides_own}
use Rattle.rules.proofs.Replacing.{second_idle, replaced_after}
use Rattle.rules.proofs.Demands.{sound, lent_sane, asked_of, entry_inside, through}
use Rattle.rules.proofs.Courses.{moves-append, cuts_shrink, puts_grow, highest-append, highest_needed, run_le, found_room}

-- ---- own sides that a test picks, as keys or as quads
module _ {A : Type 0} (x : ℕ → A) where
  picked : (p q : ℕ → Bool) → ((f : ℕ) → f < 6 → p f ≡ q f) → each 6 0 (λ f. only (p f) (x f)) ≡ each 6 0 (λ f. only (q f) (x f))
  picked p q h = each_same 6 0 (λ f. only (p f) (x f)) (λ f. only (q f) (x f)) (λ f _ l. ap (λ (b : Bool). only b (x f)) (h f (omega arith)))

  none_picked : (p : ℕ → Bool) → ((f : ℕ) → f < 6 → p f ≡ false) → each 6 0 (λ f. only (p f) (x f)) ≡ []
  none_picked p h = none_each 6 0 (λ f. only (p f) (x f)) (λ f _ l. ap (λ (b : Bool). only b (x f)) (h f (omega arith)))

-- a work that only hides, and one that only draws
abbrev hiding : List ℕ → Work
hiding own = record { own = own; new = []; facing = [] }

abbrev drawing : List Quad → Work
drawing new = record { own = []; new = new; facing = [] }

-- AddFaces draws of a NormalCube what Sides does
drawn_by : (tested : Tested) (W : World) (e : Entry) (p : ℕ → Bool) → ((f : ℕ) → f < 6 → with_given e f ≡ p f)
    → single_work tested W (add_faces e) ≡ drawing (quads W e.type e.cell (λ f. is_normal_cube W e.type && p f))
drawn_by tested W e p h = go (is_normal_cube W e.type)
  where
    go : (b : Bool) → cond b (drawing (quads W e.type e.cell (with_given e))) nothing ≡ drawing (quads W e.type e.cell (λ f. b && p f))
    go true = ap drawing (picked (quad_of W e.type e.cell) (with_given e) p h)
    go false = ap drawing (sym (none_picked (quad_of W e.type e.cell) (λ f. false && p f) (λ f l. refl)))

-- ---- entry for entry

-- a byte other than 0 is said exactly where a neighbour was given
said : (byte n : ℕ) (e : Entry) → eqb 0 n ≡ false → (f : ℕ) → f < 6 → eqb (given_at (sides_of byte e) f) n ≡ (eqb byte n && with_given e f)
said byte n e z f l =
    ap (λ (t : ℕ). eqb t n) (get_d_table (λ k. cond (with_given e k) byte 0) 6 f 255 l)
    ∙ split (λ b. eqb (cond b byte 0) n ≡ (eqb byte n && b)) (with_given e f) (λ _. sym (and_with (eqb byte n))) (λ _. z ∙ sym (and_false (eqb byte n)))

-- LAW: CullFaces is Sides that hides where a neighbour was given, AddFaces Sides that draws there
pub as_sides_lem : (tested : Tested) (W : World) (x : Single) → work tested W (as_sides x) ≡ single_work tested W x
as_sides_lem tested W (stayed e) = refl
as_sides_lem tested W (cull_faces e) =
    let gone = picked (key_of e.cell) (to_hide (sides_of 1 e)) (with_given e) (said 1 1 e refl) in
    let come =
    none_picked (quad_of W e.type e.cell) (draws W (sides_of 1 e))
    (λ f l. ap (λ (b : Bool). is_normal_cube W e.type && b) (said 1 2 e refl f l) ∙ and_false (is_normal_cube W e.type)) in
    λ i. record { own = gone i; new = come i; facing = [] }
as_sides_lem tested W (add_faces e) =
    let gone = none_picked (key_of e.cell) (to_hide (sides_of 2 e)) (said 2 1 e refl) in
    (λ i. record { own = gone i; new = quads W e.type e.cell (draws W (sides_of 2 e)); facing = [] })
    ∙ sym (drawn_by tested W e (to_draw (sides_of 2 e)) (λ f l. sym (said 2 2 e refl f l)))

-- ---- one after the other
given_where : (p : ℕ → Bool) (e : Entry) (f : ℕ) → f < 6 → with_given (giving p e) f ≡ p f
given_where p e f l =
    ap (λ (t : ℕ). not (outside t)) (get_d_table (λ k. cond (p k) 0 255) 6 f 255 l)
    ∙ split (λ b. not (outside (cond b 0 255)) ≡ b) (p f) (λ _. refl) (λ _. refl)

halves_ops : (own : List ℕ) (new : List Quad) → ops (record { own = own; new = new; facing = [] }) ≡ ops (hiding own) ++ ops (drawing new)
unfolding ops
halves_ops own new = sym (ap (λ (os : List Op). os ++ (puts new ++ [])) (append-nil (cuts own)))

halves_needed : (own : List ℕ) (new m : List Quad) → needed (record { own = own; new = new; facing = [] }) m ≡ needed (drawing new) (run (ops (hiding own)) m)
unfolding ops needed
halves_needed own new m = sym (ap (λ (os : List Op). length (run (puts new) (run os m))) (append-nil (cuts own)))

hiding_needed : (own : List ℕ) (m : List Quad) → needed (hiding own) m ≤ length m
unfolding needed
hiding_needed own m = cuts_shrink own m

module _ (tested : Tested) (W : World) (e : Entry) where
  abbrev first : Work
  first = single_work tested W (cull_faces (giving (to_hide e) e))

  abbrev second : Work
  second = single_work tested W (add_faces (giving (to_draw e) e))

  first_is : first ≡ hiding (sided W e).own
  first_is = ap hiding (picked (key_of e.cell) (with_given (giving (to_hide e) e)) (to_hide e) (given_where (to_hide e) e))

  second_is : second ≡ drawing (sided W e).new
  second_is = drawn_by tested W (giving (to_draw e) e) (to_draw e) (given_where (to_draw e) e)

  -- LAW: what Sides does is what CullFaces did, and then AddFaces
  pub sides_ops : ops (sided W e) ≡ ops first ++ ops second
  sides_ops = halves_ops (sided W e).own (sided W e).new ∙ sym (λ i. ops (first_is i) ++ ops (second_is i))

  -- LAW: it asks for the room that AddFaces asked for then; CullFaces asked for none
  pub sides_needed : (m : List Quad) → needed (sided W e) m ≡ needed second (run (ops first) m)
  sides_needed m = halves_needed (sided W e).own (sided W e).new m ∙ sym (λ i. needed (second_is i) (run (ops (first_is i)) m))

  pub first_needed : (m : List Quad) → needed first m ≤ length m
  first_needed m = subst (λ w. needed w m ≤ length m) (sym first_is) (hiding_needed (sided W e).own m)

module _ (tested : Tested) (W : World) (s : Sound W) (e : Entry) (in_grid : e.cell < cells W.size) (m : List Quad) (once : Once m) where
  -- LAW: Replaced asks for the larger of the pair's two needs
  pub replaced_needed : needed (replaced tested W e) m ≡ max (needed (broken W (first_half e)) m) (needed (added_if_cube tested W (second_half e)) (run (ops (broken W (first_half e))) m))
  unfolding ops needed
  replaced_needed =
      let gone = broken W (first_half e) in
      let come = added_if_cube tested W (second_half e) in
      let between = run (cuts gone.own) m in
      let left = run-append (cuts gone.own) (puts gone.new ++ []) m ∙ ap (λ (os : List Op). run os between) (append-nil (puts gone.new)) in
      let both = ap (λ (os : List Op). run os between) (map-append put gone.new come.new) ∙ run-append (puts gone.new) (puts come.new) between in
      let idle = (second_idle tested W s e in_grid m once).1 ∙ left in
      omega (arith, ap length both, ap (λ (x : List Quad). length (run (puts come.new) x)) idle, puts_grow come.new (run (puts gone.new) between))

-- ---- a log

-- an entry that finds its room
course_one : (room : ℕ) (works : ℕ → Work) (w : Work) (i n : ℕ) (m : List Quad) (v p : ℕ) → works i ≡ w → needed w m ≤ room
    → course_from room works i (suc n) m v p ≡ course_from room works (suc i) n (run (ops w) m) (v + moves (ops w) m) (highest p (ops w) m)
unfolding course_from
course_one room works w i n m v p e l = rw (e, le-leb (needed w m) room l)

-- two that are one: it leaves what they leave
course_two : (room : ℕ) (works : ℕ → Work) (a b w : Work) (i n : ℕ) (m : List Quad) (v p : ℕ) → works i ≡ a → works (suc i) ≡ b → after p m (ops w) ≡ after p m (ops a ++ ops b)
    → needed a m ≤ room → needed b (run (ops a) m) ≤ room
    → course_from room works i (suc (suc n)) m v p ≡ course_from room works (suc (suc i)) n (run (ops w) m) (v + moves (ops w) m) (highest p (ops w) m)
course_two room works a b w i n m v p ea eb o la lb =
    course_one room works a i (suc n) m v p ea la
    ∙ course_one room works b (suc i) n (run (ops a) m) (v + moves (ops a) m) (highest p (ops a) m) eb lb
    ∙ sym (λ j. course_from room works (suc (suc i)) n (left j) (moved j) (top j))
  where
    left : run (ops w) m ≡ run (ops b) (run (ops a) m)
    left = ap (λ (x : ℕ × ℕ × List Quad). x.2) o ∙ run-append (ops a) (ops b) m

    moved : v + moves (ops w) m ≡ v + moves (ops a) m + moves (ops b) (run (ops a) m)
    moved = omega (arith, ap (λ (x : ℕ × ℕ × List Quad). x.1) o, moves-append (ops a) (ops b) m)

    top : highest p (ops w) m ≡ highest (highest p (ops a) m) (ops b) (run (ops a) m)
    top = ap (λ (x : ℕ × ℕ × List Quad). x.0) o ∙ highest-append (ops a) (ops b) p m

module _ (tested : Tested) (W : World) (s : Sound W) (room : ℕ) (entry : ℕ → Entry) (single : ℕ → Work) where
  abbrev entries : ℕ → ℕ → List Entry
  entries n i = each n i (λ k. entry k ∷ [])

  abbrev now : ℕ → Work
  now k = work tested W (entry k)

  -- from j on `single` does what these changes do
  abbrev Follows : ℕ → List Single → Type 0
  Follows j es = (k : ℕ) → single (j + k) ≡ get_or (map (single_work tested W) es) k nothing

  later : (j : ℕ) (x : Single) (es : List Single) → Follows j (x ∷ es) → Follows (suc j) es
  later j x es h k = ap single (omega arith) ∙ h (suc k)

  -- the place after these
  abbrev past : ℕ → List Single → ℕ
  past j [] = j
  past j (x ∷ es) = past (suc j) es

  passed : (first rest : List Single) (j : ℕ) → Follows j (first ++ rest) → Follows (past j first) rest
  passed [] rest j h = h
  passed (x ∷ first) rest j h = passed first rest (suc j) (later j x (first ++ rest) h)

  here : (j : ℕ) (x : Single) (es : List Single) → Follows j (x ∷ es) → single j ≡ single_work tested W x
  here j x es h = ap single (omega arith) ∙ h 0

  -- ---- one entry, on a mesh of which p was the highest count: its single changes, and what comes after them
  module _ (i j : ℕ) (m : List Quad) (v p : ℕ) (in_grid : (entry i).cell < cells W.size) (once : Once m) (reached : length m ≤ p) (fits : length m ≤ room) (rest : List Single) where
    -- what the rest does, from whatever place on
    abbrev onwards : ℕ → Course
    onwards k = course_from room single k (length rest) (run (ops (now i)) m) (v + moves (ops (now i)) m) (highest p (ops (now i)) m)

    -- these single changes: where they find room the entry does, and where it does they are done, and the rest is left
    record Does (parts : List Single) : Type 0 where
      found : (course_from room single j (length (parts ++ rest)) m v p).full ≡ none → needed (now i) m ≤ room
      done : needed (now i) m ≤ room → course_from room single j (length (parts ++ rest)) m v p ≡ onwards (past j parts)

    one : Follows j (stayed (entry i) ∷ rest) → Does (stayed (entry i) ∷ [])
    one h =
        let e = here j (stayed (entry i)) rest h in
        record {
          found = λ f. rw (add-zero j, e) at ((found_room room single j (suc (length rest)) m v p f).found 0 (omega arith));
          done = λ f. course_one room single (now i) j (length rest) m v p e f;
        }

    two : (a b : Single) → Follows j (a ∷ b ∷ rest) → after p m (ops (now i)) ≡ after p m (ops (single_work tested W a) ++ ops (single_work tested W b))
        → (needed (now i) m ≤ room) ↔ ((needed (single_work tested W a) m ≤ room) × (needed (single_work tested W b) (run (ops (single_work tested W a)) m) ≤ room))
        → Does (a ∷ b ∷ [])
    two a b h same need =
        let x = here j a (b ∷ rest) h in
        let y = here (suc j) b rest (later j a (b ∷ rest) h) in
        record {
          found = λ f. let r = (found_room room single j (suc (suc (length rest))) m v p f).found in
              let s = r 0 (omega arith) in
              let t = r 1 (omega arith) in
              need.1 (rw (add-zero j, x) at s, rw (add-one j, x, y) at t);
          done = λ f. let l = need.0 f in
              course_two room single (single_work tested W a) (single_work tested W b) (now i) j (length rest) m v p x y same l.0 l.1;
        }

    entry_does : (k : Change) → (entry i).change ≡ k → Follows j (pair_by (entry i) k ++ rest) → Does (pair_by (entry i) k)
    entry_does Broken e h = one h
    entry_does Added e h = one h
    entry_does Sides e h =
        let w = ap (work_by tested W (entry i)) e in
        let need = ap (λ (x : Work). needed x m) w ∙ sides_needed tested W (entry i) m in
        two (cull_faces (giving (to_hide (entry i)) (entry i))) (add_faces (giving (to_draw (entry i)) (entry i))) h
        (ap (after p m) (ap ops w ∙ sides_ops tested W (entry i)))
        (λ f. (omega (arith, first_needed tested W (entry i) m), omega (arith, need)), λ l. let t = l.1 in omega (arith, need))
    entry_does Replaced e h =
        let w = ap (work_by tested W (entry i)) e in
        let need = ap (λ (x : Work). needed x m) w ∙ replaced_needed tested W s (entry i) in_grid m once in
        two (stayed (first_half (entry i))) (stayed (second_half (entry i))) h
        (ap (λ (x : Work). after p m (ops x)) w ∙ replaced_after tested W s (entry i) in_grid m once p reached)
        (λ f. (omega (arith, need), omega (arith, need)), λ l. let t = l.0 in let u = l.1 in omega (arith, need))

  -- LAW: a log comes through exactly if its single changes do, and does what they do
  pub same_course : (n i j : ℕ) (m : List Quad) (v p : ℕ) → ((k : ℕ) → i ≤ k → k < i + n → (entry k).cell < cells W.size) → Once m → length m ≤ p → length m ≤ room → Follows j (pairs (entries n i))
      → let mine = course_from room now i n m v p in let theirs = course_from room single j (length (pairs (entries n i))) m v p in
      ((mine.full ≡ none) ↔ (theirs.full ≡ none)) × (mine.full ≡ none → theirs ≡ mine)
  unfolding course_from each
  same_course zero i j m v p in_grid once reached fits h = ((λ q. refl, λ q. refl), λ q. refl)
  same_course (suc n) i j m v p in_grid once reached fits h =
      by (leb (needed (now i) m) room) refl
      (λ f. same_course n (suc i) (past j (pair_by (entry i) (entry i).change)) (run (ops (now i)) m) (v + moves (ops (now i)) m) (highest p (ops (now i)) m)
      (λ k a b. in_grid k (omega arith) (omega arith)) (run_once (ops (now i)) m once) (omega (arith, highest_needed (now i) p m reached, run_le (now i) m)) (omega (arith, f, run_le (now i) m))
      (passed (pair_by (entry i) (entry i).change) (pairs (entries n (suc i))) j h))
    where
      rest : List Single
      rest = pairs (entries n (suc i))

      parts : List Single
      parts = pair_by (entry i) (entry i).change

      d : Does i j m v p (in_grid i (omega arith) (omega arith)) once reached fits rest parts
      d = entry_does i j m v p (in_grid i (omega arith) (omega arith)) once reached fits rest (entry i).change refl h

      end : Course
      end = course_from room now (suc i) n (run (ops (now i)) m) (v + moves (ops (now i)) m) (highest p (ops (now i)) m)

      stop : Course
      stop = record { full = some i; quads = m; moved = v; highest = p }

      Same : Course → Course → Type 0
      Same mine theirs = ((mine.full ≡ none) ↔ (theirs.full ≡ none)) × (mine.full ≡ none → theirs ≡ mine)

      stopped : ◌≡◌ {A = Option ℕ} (some i) none → ⊥
      stopped q = let z : ◌≡◌ {A = ℕ} 0 1 = cc in omega arith

      by : (t : Bool) → leb (needed (now i) m) room ≡ t → (needed (now i) m ≤ room → Same end (onwards i j m v p (in_grid i (omega arith) (omega arith)) once reached fits rest (past j parts)))
          → Same (cond t end stop) (course_from room single j (length (parts ++ rest)) m v p)
      by true t r = let f = leb-true (needed (now i) m) room t in subst (Same end) (sym (d.done f)) (r f)
      by false t r =
          let none_found : (course_from room single j (length (parts ++ rest)) m v p).full ≡ none → ⊥ =
          λ q. let f = d.found q in let g = leb-false (needed (now i) m) room t in omega arith in
          ((λ q. absurd (stopped q), λ q. absurd (none_found q)), λ q. absurd (stopped q))

-- LAW: an update whose input is accepted comes through exactly if one by single changes does, and then answers and leaves what it does
module _ (tested : Tested) (S : Scene) (log : List ℕ) (B : Lists) (Q : ℕ) (accepted : update_verdict S log B Q ≡ fine) where
  by_singles : let mine = course tested S log B Q in let theirs = single_course tested S (pairs (entries_of log)) B Q in
      ((mine.full ≡ none) ↔ (theirs.full ≡ none)) × (mine.full ≡ none → theirs ≡ mine)
  by_singles =
      let a = asked_of tested S log B Q accepted in
      let s = lent_sane S B Q a.size a.slots a.count a.book in
      let l = s.reached in
      let r = s.within in
      same_course tested (world S) (sound S a.size a.types) (room S B) (entry_at log) (λ k. get_or (single_works tested S (pairs (entries_of log))) k nothing) (length log / ENTRY_BYTES) 0 0
      (decode S.types.coloured Q B) 0 Q (λ k x y. entry_inside (cells S.size) (length S.types.kinds) log a.entries k (omega arith)) s.once (omega arith) (omega arith)
      (λ k. ap (λ (n : ℕ). get_or (single_works tested S (pairs (entries_of log))) n nothing) (omega arith))

  pub comes_through : ((course tested S log B Q).full ≡ none) ↔ ((single_course tested S (pairs (entries_of log)) B Q).full ≡ none)
  comes_through = by_singles.0

  pub does_the_same : (course tested S log B Q).full ≡ none → update_mesh tested S log B Q ≡ single_update tested S (pairs (entries_of log)) B Q
  does_the_same q = rw accepted (ap (λ (x : Course). update_by fine S x B) (sym (by_singles.1 q)))

-- LAW: an update that is not refused answers and leaves what one by single changes does
pub update_by_pairs : (tested : Tested) (S : Scene) (log : List ℕ) (B : Lists) (Q : ℕ) → (update_mesh tested S log B Q).answer.number ≡ 0
    → update_mesh tested S log B Q ≡ single_update tested S (pairs (entries_of log)) B Q
update_by_pairs tested S log B Q e = let t = through tested S log B Q e in does_the_same tested S log B Q t.0 t.1

-- LAW: where one of two accepted logs of the same single changes is not refused, the other answers and leaves the same
pub same_changes_same_update : (tested : Tested) (S : Scene) (one other : List ℕ) (B : Lists) (Q : ℕ) → pairs (entries_of one) ≡ pairs (entries_of other)
    → (update_mesh tested S one B Q).answer.number ≡ 0 → update_verdict S other B Q ≡ fine → update_mesh tested S other B Q ≡ update_mesh tested S one B Q
same_changes_same_update tested S one other B Q same e accepted =
    let t = through tested S one B Q e in
    let f = ap (λ (es : List Single). (single_course tested S es B Q).full) same in
    let q = (comes_through tested S other B Q accepted).1 (sym f ∙ (comes_through tested S one B Q t.0).0 t.1) in
    does_the_same tested S other B Q accepted q ∙ ap (λ (es : List Single). single_update tested S es B Q) (sym same) ∙ sym (update_by_pairs tested S one B Q e)

-- ---- the room

-- the operations of own sides that a test picks: each alone on its side
module _ {A : Type 0} (g : A → Op) (x : ℕ → A) (c : Bool) (side : (f : ℕ) → f < 6 → face_of (g (x f)) % 6 ≡ f) (kind : (f : ℕ) → is_cut (g (x f)) ≡ c) (p : ℕ → Bool) (m : List Quad) (once : Once m) where
  abbrev os : List Op
  os = map g (each 6 0 (λ f. only (p f) (x f)))

  abbrev does : ℕ → Bool
  does f = p f && acts (g (x f)) m

  own_acting : acting os m ≡ each 6 0 (λ f. only (does f) (g (x f)))
  own_acting =
      ap (λ (l : List Op). acting l m) (map_each g 6 0 (λ f. only (p f) (x f)))
      ∙ acting_sides (λ k. k % 6) (λ f. map g (only (p f) (x f))) 6 0 (λ f. few f (p f)) (λ f _ l. all_map (λ o. face_of o % 6 ≡ f) g (only (p f) (x f)) (all_only (λ a. face_of (g a) % 6 ≡ f) (p f) (x f) (side f (omega arith)))) m once
      ∙ each_same 6 0 (λ f. acting (map g (only (p f) (x f))) m) (λ f. only (does f) (g (x f))) (λ f _ l. one f (p f))
    where
      few : (f : ℕ) (b : Bool) → length (map g (only b (x f))) ≤ 1
      few f true = omega arith
      few f false = omega arith

      one : (f : ℕ) (b : Bool) → acting (map g (only b (x f))) m ≡ only (b && acts (g (x f)) m) (g (x f))
      one f true = append-nil (only (acts (g (x f)) m) (g (x f)))
      one f false = refl

  -- LAW: they make as many quads more, or fewer, as change something
  own_count : length (run os m) + cond c (count 6 does) 0 ≡ length m + cond c 0 (count 6 does)
  unfolding count
  own_count =
      let many : length (acting os m) ≡ count 6 does = ap length own_acting ∙ omega (arith, count_each does (λ f. g (x f)) 6 0) in
      let same = ap (λ (y : ℕ × ℕ × List Quad). length y.2) (acting_same os (length m) m (omega arith)) in
      let kinds = all_map (λ o. is_cut o ≡ c) g (each 6 0 (λ f. only (p f) (x f))) (all_each (λ a. is_cut (g a) ≡ c) 6 0 (λ f. only (p f) (x f)) (λ f _ l. all_only (λ a. is_cut (g a) ≡ c) (p f) (x f) (kind f))) in
      (λ i. sym same i + cond c (sym many i) 0) ∙ acting_count c (acting os m) m (acting_all (λ o. is_cut o ≡ c) os m kinds) (acting_acts os m) ∙ ap (λ (n : ℕ). length m + cond c 0 n) many

-- LAW: Sides asks for Q, less the hidden sides that have a quad, plus the drawn ones that have none
pub sides_room : (W : World) (e : Entry) (m : List Quad) → Once m → needed (sided W e) m ≡ length m - hidden_there e m + drawn_missing W e m
unfolding needed
sides_room W e m once =
    let hid = own_count cut (key_of e.cell) true (λ f l. omega arith) (λ f. refl) (to_hide e) m once in
    let drew = own_count put (quad_of W e.type e.cell) false (λ f l. omega arith) (λ f. refl) (draws W e) left (run_once (cuts (sided W e).own) m once) in
    omega (arith, hid, drew, count_same 6 (λ f. draws W e f && not (there (key_of e.cell f) left)) (λ f. draws W e f && not (there (key_of e.cell f) m)) (λ f l. still f l (to_draw e f) refl))
  where
    left : List Quad
    left = run (cuts (sided W e).own) m

    -- a side that is drawn is not one that was hidden
    still : (f : ℕ) → f < 6 → (b : Bool) → to_draw e f ≡ b → (is_normal_cube W e.type && b && not (there (key_of e.cell f) left)) ≡ (is_normal_cube W e.type && b && not (there (key_of e.cell f) m))
    still f l true d =
        let n = eqb-true (given_at e f) 2 d in
        let h : to_hide e f ≡ false = ap (λ (byte : ℕ). eqb byte 1) n in
        let s = sides_own W e.type e.cell e.cell f l (to_hide e) refl ∙ h in
        ap (λ (y : List (List ℕ)). is_normal_cube W e.type && true && not (not (is_nil y))) (at_cuts (key_of e.cell f) (sided W e).own m (once (key_of e.cell f)) ∙ ap (λ (b : Bool). cond b [] (at (key_of e.cell f) m)) s)
    still f l false d = rw (and_false (is_normal_cube W e.type))
