-- A log that stops for want of room has done the log of its earlier entries, whole. Assumes nothing.
use Prim.Native.Nat.{ℕ, zero, suc, ◌+◌, ◌-◌, ◌*◌, ◌/◌, ◌%◌, ◌≤◌, ◌<◌}
use mathlib.Core.Path.{◌≡◌, refl, sym, ap, ◌∙◌, subst}
use mathlib.Core.Bool.{Bool, true, false, cond, not}
use mathlib.Core.List.{List, [], ◌∷◌, ◌++◌}
use mathlib.Core.Option.{Option, none, some}
use native.Mathlib.Omega.{arith}
use lib.Dec.{eqb, leb, ltb}
use lib.ListN.{length, get_or, take, drop, length-append, take-append-drop, length-drop, get_or-append}
use lib.Seq.{length-take-le, drop-append-le, take-append-le, take-append_seam, drop-append_seam, get_or-drop, drop-drop}
use borrow.Author.Tests.{leb-false, eq-eqb}
use Rattle.rules.specs.Lists.{each, table, every, part}
use Rattle.rules.specs.Cells.{cells}
use Rattle.rules.specs.Mesh.{Quad, Lists, layout, decode}
use Rattle.rules.specs.Update.{ENTRY_BYTES, Entry, Work, Course, Tested, u32_at, entry_at, work, ops, run, moves, highest, needed, course_from, mesh_after}
use Rattle.rules.specs.Answers.{fine, refuse_lowest, BAD_SIZE, bad_neighbour, bad_neighbours, bad_sides, bad_bytes, bad_former, bad_spare, bad_entry, BAD_ENTRY}
use Rattle.rules.specs.Calls.{Scene, answered, world, faces, room, types_verdict, lent_verdict, update_verdict, entries_of, course, update_by, update_mesh}
use Rattle.rules.proofs.ListLaws.{each_same, each_split, each_on}
use Rattle.rules.proofs.Checking.{then_fine, fine_then, fine_if, lowest_fine, fine_lowest}
use Rattle.rules.proofs.Courses.{found_room, course_alike}
use Rattle.demands.specs.Room.{needed_at, FindsRoom, FirstWithout}

some_is : {a b : ℕ} → ◌≡◌ {A = Option ℕ} (some a) (some b) → a ≡ b
some_is e = cc

none_is_not {ℓ} : {A : Type ℓ} {a : ℕ} → ◌≡◌ {A = Option ℕ} none (some a) → A
none_is_not {a = a} e = let z : ◌≡◌ {A = ℕ} 0 1 = cc in absurd (omega arith)

-- ---- a course that stops

-- at entry k of n from i on: it has gone through those before, which left what it leaves, and k asks for more than the room
record Stops (room : ℕ) (work : ℕ → Work) (i n : ℕ) (m : List Quad) (v p k : ℕ) : Type 0 where
  pub before : ℕ
  pub place : k ≡ i + before
  pub early : before < n
  pub through : let c = course_from room work i n m v p in
      course_from room work i before m v p ≡ record { full = none; quads = c.quads; moved = c.moved; highest = c.highest }
  pub tight : room < needed (work k) (course_from room work i n m v p).quads

stops : (room : ℕ) (work : ℕ → Work) (i n : ℕ) (m : List Quad) (v p k : ℕ) → (course_from room work i n m v p).full ≡ some k
    → Stops room work i n m v p k
unfolding course_from
stops room work i zero m v p k e = none_is_not e
stops room work i (suc n) m v p k e =
    go (leb (needed (work i) m) room) refl e
    (stops room work (suc i) n (run (ops (work i)) m) (v + moves (ops (work i)) m) (highest p (ops (work i)) m) k)
  where
    after : Course
    after = course_from room work (suc i) n (run (ops (work i)) m) (v + moves (ops (work i)) m) (highest p (ops (work i)) m)

    here : Course
    here = record { full = some i; quads = m; moved = v; highest = p }

    go : (b : Bool) → leb (needed (work i) m) room ≡ b → (cond b after here).full ≡ some k
        → (after.full ≡ some k → Stops room work (suc i) n (run (ops (work i)) m) (v + moves (ops (work i)) m) (highest p (ops (work i)) m) k)
        → Stops room work i (suc n) m v p k
    go true t e rest =
        let s = rest e in
        record {
          before = suc s.before;
          place = omega (arith, s.place);
          early = omega (arith, s.early);
          through = rw t s.through;
          tight = rw t s.tight;
        }
    go false t e rest =
        record {
          before = 0;
          place = omega (arith, some_is e);
          early = omega arith;
          through = rw t refl;
          tight = rw (t, sym (some_is e)) (leb-false (needed (work i) m) room t);
        }

-- ---- the first entries of a log
module _ (k : ℕ) (first rest : List ℕ) (whole : length first ≡ ENTRY_BYTES * k) where
  byte : (i : ℕ) → i < ENTRY_BYTES * k → get_or (first ++ rest) i 0 ≡ get_or first i 0
  byte i h = get_or-append first rest 0 i (omega (arith, whole))

  word : (j : ℕ) → j < k → u32_at (first ++ rest) (ENTRY_BYTES * j) ≡ u32_at first (ENTRY_BYTES * j)
  word j h =
      rw (byte (ENTRY_BYTES * j) (omega arith), byte (ENTRY_BYTES * j + 1) (omega arith), byte (ENTRY_BYTES * j + 2) (omega arith), byte (ENTRY_BYTES * j + 3) (omega arith))

  pub entry_stays : (j : ℕ) → j < k → entry_at (first ++ rest) j ≡ entry_at first j
  unfolding entry_at
  entry_stays j h =
      let given : part (ENTRY_BYTES * j + 6) 6 (first ++ rest) ≡ part (ENTRY_BYTES * j + 6) 6 first =
      ap (take 6) (drop-append-le (ENTRY_BYTES * j + 6) first rest (omega (arith, whole)))
      ∙ take-append-le 6 (drop (ENTRY_BYTES * j + 6) first) rest (rw (length-drop, whole) (omega arith)) in
      rw (word j h, byte (ENTRY_BYTES * j + 4) (omega arith), byte (ENTRY_BYTES * j + 5) (omega arith), given, byte (ENTRY_BYTES * j + 12) (omega arith))

  every_alike : (n : ℕ) (p q : ℕ → Bool) → ((i : ℕ) → i < n → p i ≡ q i) → every n p ≡ every n q
  unfolding every
  every_alike zero p q h = refl
  every_alike (suc n) p q h = rw (h n (omega arith), every_alike n p q (λ i l. h i (omega arith)))

  -- one of six bytes is bad, by whatever test
  six_stay : (p : ℕ → Bool) (at : ℕ) → at + ENTRY_BYTES ≤ ENTRY_BYTES * k → not (every 6 (λ f. not (p (get_or (first ++ rest) (at + (6 + f)) 0)))) ≡ not (every 6 (λ f. not (p (get_or first (at + (6 + f)) 0))))
  six_stay p at h =
      ap not (every_alike 6 (λ f. not (p (get_or (first ++ rest) (at + (6 + f)) 0))) (λ f. not (p (get_or first (at + (6 + f)) 0)))
      (λ f l. ap (λ (t : ℕ). not (p t)) (byte (at + (6 + f)) (omega arith))))

  bad_stays : (cells types j : ℕ) → j < k → bad_entry cells types (first ++ rest) j ≡ bad_entry cells types first j
  unfolding bad_entry bad_bytes bad_sides bad_neighbours bad_former bad_spare
  bad_stays cells types j h =
      rw (
        word j h,
        byte (ENTRY_BYTES * j + 4) (omega arith),
        byte (ENTRY_BYTES * j + 5) (omega arith),
        six_stay (ltb 2) (ENTRY_BYTES * j) (omega arith),
        six_stay (bad_neighbour types) (ENTRY_BYTES * j) (omega arith),
        byte (ENTRY_BYTES * j + 12) (omega arith),
        byte (ENTRY_BYTES * j + 13) (omega arith),
        byte (ENTRY_BYTES * j + 14) (omega arith),
        byte (ENTRY_BYTES * j + 15) (omega arith),
      )

-- ---- the entries after them
pub entry_dropped : (k : ℕ) (log : List ℕ) (j : ℕ) → entry_at (drop (ENTRY_BYTES * k) log) j ≡ entry_at log (k + j)
unfolding entry_at
entry_dropped k log j =
    let from : (i : ℕ) → ENTRY_BYTES * k + (ENTRY_BYTES * j + i) ≡ ENTRY_BYTES * (k + j) + i = λ i. omega arith in
    let start : ENTRY_BYTES * k + ENTRY_BYTES * j ≡ ENTRY_BYTES * (k + j) = omega arith in
    let first = get_or-drop (ENTRY_BYTES * k) log (ENTRY_BYTES * j) 0 ∙ ap (λ (n : ℕ). get_or log n 0) start in
    let byte : (i : ℕ) → get_or (drop (ENTRY_BYTES * k) log) (ENTRY_BYTES * j + i) 0 ≡ get_or log (ENTRY_BYTES * (k + j) + i) 0 =
    λ i. get_or-drop (ENTRY_BYTES * k) log (ENTRY_BYTES * j + i) 0 ∙ ap (λ (n : ℕ). get_or log n 0) (from i) in
    let given = drop-drop (ENTRY_BYTES * j + 6) (ENTRY_BYTES * k) log ∙ ap (λ (n : ℕ). drop n log) (from 6) in
    rw (first, byte 1, byte 2, byte 3, byte 4, byte 5, given, byte 12)

-- a log's entries are those of its first k and those of the rest
pub entries_split : (log : List ℕ) (k : ℕ) → k ≤ length log / ENTRY_BYTES
    → entries_of log ≡ entries_of (take (ENTRY_BYTES * k) log) ++ entries_of (drop (ENTRY_BYTES * k) log)
entries_split log k h =
    let first = take (ENTRY_BYTES * k) log in
    let rest = drop (ENTRY_BYTES * k) log in
    let whole : length first ≡ ENTRY_BYTES * k = length-take-le (ENTRY_BYTES * k) log (omega arith) in
    let count : length first / ENTRY_BYTES ≡ k = omega (arith, whole) in
    let others : length rest / ENTRY_BYTES ≡ length log / ENTRY_BYTES - k = rw length-drop (omega arith) in
    let sum : length log / ENTRY_BYTES ≡ k + (length log / ENTRY_BYTES - k) = omega arith in
    let from : 0 + k ≡ k + 0 = omega arith in
    let early : table k (entry_at log) ≡ entries_of first =
    each_same k 0 (λ j. entry_at log j ∷ []) (λ j. entry_at first j ∷ [])
    (λ j a b. ap (λ (e : Entry). e ∷ []) (ap (λ (l : List ℕ). entry_at l j) (sym (take-append-drop (ENTRY_BYTES * k) log)) ∙ entry_stays k first rest whole j (omega arith)))
    ∙ ap (λ (n : ℕ). table n (entry_at first)) (sym count) in
    let late : each (length log / ENTRY_BYTES - k) (0 + k) (λ j. entry_at log j ∷ []) ≡ entries_of rest =
    ap (λ (i : ℕ). each (length log / ENTRY_BYTES - k) i (λ j. entry_at log j ∷ [])) from ∙ each_on k (length log / ENTRY_BYTES - k) 0 (λ j. entry_at log j ∷ [])
    ∙ each_same (length log / ENTRY_BYTES - k) 0 (λ j. entry_at log (k + j) ∷ []) (λ j. entry_at rest j ∷ []) (λ j a b. ap (λ (e : Entry). e ∷ []) (sym (entry_dropped k log j)))
    ∙ ap (λ (n : ℕ). table n (entry_at rest)) (sym others) in
    ap (λ (n : ℕ). table n (entry_at log)) sum ∙ each_split k (length log / ENTRY_BYTES - k) 0 (λ j. entry_at log j ∷ []) ∙ (λ i. early i ++ late i)

-- and those of two logs of whole entries, one after the other, are theirs
pub entries_joined : (one other : List ℕ) → length one % ENTRY_BYTES ≡ 0 → entries_of (one ++ other) ≡ entries_of one ++ entries_of other
entries_joined one other whole =
    let seam : ENTRY_BYTES * (length one / ENTRY_BYTES) ≡ length one = omega arith in
    entries_split (one ++ other) (length one / ENTRY_BYTES) (omega (arith, length-append one other))
    ∙ (λ i. entries_of (take (seam i) (one ++ other)) ++ entries_of (drop (seam i) (one ++ other)))
    ∙ (λ i. entries_of (take-append_seam one other i) ++ entries_of (drop-append_seam one other i))

-- ---- which entry finds no room
module _ (tested : Tested) (S : Scene) (log : List ℕ) (B : Lists) (Q : ℕ) where
  abbrev works : ℕ → Work
  works j = work tested (world S) (entry_at log j)

  abbrev lent : List Quad
  lent = decode S.types.coloured Q B

  -- a course that comes through: each entry found its room
  pub all_found : (course tested S log B Q).full ≡ none → (j : ℕ) → j < length log / ENTRY_BYTES → FindsRoom tested S log B Q j
  all_found f j h = let z : 0 + j ≡ j = omega arith in rw z at ((found_room (room S B) works 0 (length log / ENTRY_BYTES) lent 0 Q f).found j h)

  -- one that stops at k: k is the first that did not
  pub first_without : (k : ℕ) → (course tested S log B Q).full ≡ some k → FirstWithout tested S log B Q k (needed_at tested S log B Q k)
  first_without k f =
      let s = stops (room S B) works 0 (length log / ENTRY_BYTES) lent 0 Q k f in
      let z : s.before ≡ k = omega (arith, s.place) in
      let t = found_room (room S B) works 0 s.before lent 0 Q (ap (λ (c : Course). c.full) s.through) in
      let left : (course tested S log B Q).quads ≡ mesh_after works 0 k lent =
      sym (ap (λ (c : Course). c.quads) s.through) ∙ t.left ∙ ap (λ (n : ℕ). mesh_after works 0 n lent) z in
      record {
        in_log = omega (arith, s.early);
        before = λ j h. let y : 0 + j ≡ j = omega arith in rw y at (t.found j (omega arith));
        without = subst (λ (m : List Quad). room S B < needed (works k) m) left s.tight;
      }

-- ---- an update that stops at entry k
module _ (tested : Tested) (S : Scene) (log : List ℕ) (B : Lists) (Q k : ℕ) (accepted : update_verdict S log B Q ≡ fine)
    (full : (course tested S log B Q).full ≡ some k) where
  abbrev work_of : List ℕ → ℕ → Work
  work_of l j = work tested (world S) (entry_at l j)

  stopped : Stops (room S B) (work_of log) 0 (length log / ENTRY_BYTES) (decode S.types.coloured Q B) 0 Q k
  stopped = stops (room S B) (work_of log) 0 (length log / ENTRY_BYTES) (decode S.types.coloured Q B) 0 Q k full

  in_log_lem : k < length log / ENTRY_BYTES
  in_log_lem = omega (arith, stopped.place, stopped.early)

  abbrev first : List ℕ
  first = take (ENTRY_BYTES * k) log

  whole : length first ≡ ENTRY_BYTES * k
  whole = length-take-le (ENTRY_BYTES * k) log (omega (arith, in_log_lem))

  joined : first ++ drop (ENTRY_BYTES * k) log ≡ log
  joined = take-append-drop (ENTRY_BYTES * k) log

  entry_first : (j : ℕ) → j < k → entry_at log j ≡ entry_at first j
  entry_first j h = ap (λ (l : List ℕ). entry_at l j) (sym joined) ∙ entry_stays k first (drop (ENTRY_BYTES * k) log) whole j h

  bad_first : (n types j : ℕ) → j < k → bad_entry n types log j ≡ bad_entry n types first j
  bad_first n types j h = ap (λ (l : List ℕ). bad_entry n types l j) (sym joined) ∙ bad_stays k first (drop (ENTRY_BYTES * k) log) whole n types j h

  count_first : length first / ENTRY_BYTES ≡ k
  count_first = omega (arith, whole)

  first_accepted : update_verdict S first B Q ≡ fine
  unfolding BAD_ENTRY
  first_accepted =
      let n = cells S.size in
      let types = length S.types.kinds in
      let a = then_fine (BAD_SIZE S.size) _ accepted in
      let b = then_fine (types_verdict S) _ a.1 in
      let d = then_fine (lent_verdict S B Q) (BAD_ENTRY n types log) b.1 in
      let e = then_fine (refuse_lowest 13 (length log / ENTRY_BYTES) (bad_entry n types log)) _ d.1 in
      let good : (j : ℕ) → j < length first / ENTRY_BYTES → bad_entry n types first j ≡ false =
      λ j l. sym (bad_first n types j (omega (arith, count_first)))
      ∙ lowest_fine 13 (length log / ENTRY_BYTES) (bad_entry n types log) e.0 j (omega (arith, count_first, in_log_lem)) in
      let even : not (eqb (length first % ENTRY_BYTES) 0) ≡ false = rw (eq-eqb (length first % ENTRY_BYTES) 0 (omega (arith, whole))) in
      fine_then a.0 (fine_then b.0 (fine_then d.0
      (fine_then (fine_lowest 13 (length first / ENTRY_BYTES) (bad_entry n types first) good)
      (fine_if (not (eqb (length first % ENTRY_BYTES) 0)) 13 (length first / ENTRY_BYTES) even))))

  -- LAW: the call for the entries before it alone comes through, with the same quads, moves and lists
  pub done_before : let c = course tested S log B Q in
      update_mesh tested S (take (ENTRY_BYTES * k) log) B Q
      ≡ record { answer = answered (length c.quads) c.moved; lists = layout (faces S) S.types.coloured c.highest c.quads B }
  done_before =
      let from = decode S.types.coloured Q B in
      let n : stopped.before ≡ k = omega (arith, stopped.place) in
      let same =
      course_alike (room S B) (work_of first) (work_of log) 0 k from 0 Q (λ j l. ap (work tested (world S)) (sym (entry_first j (omega arith))))
      ∙ ap (λ (n : ℕ). course_from (room S B) (work_of log) 0 n from 0 Q) (sym n) ∙ stopped.through in
      rw (first_accepted, count_first) (ap (λ (c : Course). update_by fine S c B) same)
