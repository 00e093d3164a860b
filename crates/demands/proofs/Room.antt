-- Demand 1, "only an update out of room keeps the entries before the one it stopped at, complete, and says how many": which entry that is, that
-- what is left is a mesh which the next update takes. Demand 2: how far quads can have moved. Assumes nothing.
use Rattle.std.specs.Prelude.{Ok, Err}
use Prim.Native.Nat.{ℕ, ◌*◌, ◌/◌, ◌≤◌, ◌<◌}
use mathlib.Core.Path.{◌≡◌, refl, sym, ap, ◌∙◌}
use mathlib.Core.Logic.{◌↔◌}
use mathlib.Core.Bool.{true}
use mathlib.Core.List.{List, [], ◌∷◌}
use mathlib.Core.Option.{Option, none, some}
use native.Mathlib.Omega.{arith}
use native.Mathlib.Decide.{ℕ_discrete, dec_lt}
use lib.ListN.{length}
use lib.Seq.{length-take-le}
use Rattle.rules.specs.Lists.{member}
use Rattle.rules.specs.Cells.{cells}
use Rattle.rules.specs.Mesh.{Lists, decode}
use Rattle.rules.specs.Update.{ENTRY_BYTES, Tested, Course, work, entry_at}
use Rattle.rules.specs.Answers.{Verdict, fine, refuse, ◌then◌, BAD_ENTRY}
use Rattle.rules.specs.Calls.{answered, Scene, world, room, lent_verdict, update_verdict, course, check_by}
use Rattle.rules.proofs.ListLaws.{member-append}
use Rattle.rules.proofs.Refusals.{Within, given, entry_numbers}
use Rattle.rules.proofs.Courses.{entry_moves, course_moves}
use Rattle.rules.proofs.Demands.{asked_of}
use Rattle.answers.specs.declared.Refusal.{Refusal}
use Rattle.answers.specs.declared.Refusal.TheVariants.{NoRoom}
use Rattle.answers.specs.Verdicts.{number_of}
use Rattle.terms.specs.declared.Count.{Count}
use Rattle.update.specs.Outcome.{outcome_of}
use Rattle.telling.specs.Numbers.{answer}
use Rattle.demands.specs.Promised.{Updates, Updated, stopped_for}
use Rattle.demands.specs.Chunks.{first_of}
use Rattle.demands.specs.Room.{needed_at, FindsRoom, FirstWithout, Did, all_done, stopped_at}
use Rattle.demands.proofs.Lent.{left_is_taken}
use Rattle.demands.proofs.Telling.{read_update, update_reads}
use Rattle.demands.proofs.Stopped.{all_found, first_without}
use Rattle.demands.proofs.Answers.{fine_not_refused, what_an_update_call_says, an_update_is_done_if_nothing_refuses}

-- ---- what an update leaves, the next call takes

skip : {a b : Verdict} → a ≡ fine → (a then b) ≡ b
unfolding ◌then◌
skip p = rw p

-- some log of k entries is answered Done with the same count and lists
done_first : (tested : Tested) (S : Scene) (log : List ℕ) (entry : Lists) (Q : ℕ) {r : Updated} {k : ℕ} {count : Count} (exit : Lists)
    → Did log r k count → Updates tested S log entry Q r exit → (l : List ℕ) × (length l / ENTRY_BYTES ≡ k) × Updates tested S l entry Q (Ok count) exit
done_first tested S log entry Q exit (all_done count) e = (log, refl, e)
done_first tested S log entry Q exit (stopped_at k count) e =
    let s = (what_an_update_call_says tested S log entry Q (Err (stopped_for NoRoom k count)) exit e).stopped refl in
    let h = s.first.in_log in
    (first_of k log, omega (arith, length-take-le (ENTRY_BYTES * k) log (omega arith)), s.before)

-- after any log, honest or foolish, that is answered Done or NO_ROOM, lists and count pass 9 to 12 again
pub what_an_update_leaves_is_taken : (tested : Tested) (S : Scene) (log : List ℕ) (entry : Lists) (Q : ℕ) (r : Updated) (k : ℕ) (count : Count)
    (exit : Lists) → Did log r k count → Updates tested S log entry Q r exit → lent_verdict S exit count.quads ≡ fine
what_an_update_leaves_is_taken tested S log entry Q r k count exit d e = by d e
  where
    by : {r : Updated} {k : ℕ} {count : Count} → Did log r k count → Updates tested S log entry Q r exit → lent_verdict S exit count.quads ≡ fine
    by (all_done count) e = left_is_taken tested S log entry Q (answered count.quads count.moved) exit refl e
    by (stopped_at k count) e = left_is_taken tested S log entry Q (answer 14 k count.quads count.moved) exit refl e

-- so the next update, by any log in either mode, can refuse that log alone: 13, or 14
pub the_next_update_refuses_its_log_alone : (tested next : Tested) (S : Scene) (log : List ℕ) (entry : Lists) (Q : ℕ) (r : Updated) (k : ℕ) (count : Count)
    (exit : Lists) (more : List ℕ) (why : Refusal) (place : ℕ) (told : Count) (left : Lists) → Did log r k count → Updates tested S log entry Q r exit
    → Updates next S more exit count.quads (Err (stopped_for why place told)) left → member (number_of why) (13 ∷ 14 ∷ []) ≡ true
the_next_update_refuses_its_log_alone tested next S log entry Q r k count exit more why place told left d e n = by (ℕ_discrete (number_of why) 14)
  where
    of_log : (v : Verdict) → Within (13 ∷ []) v → v ≡ refuse (number_of why) place → member (number_of why) (13 ∷ 14 ∷ []) ≡ true
    of_log fine w z = fine_not_refused z
    of_log (refuse m p) (given h) z =
        let same = ap (λ (v : Verdict). (check_by v).number) z in
        member-append (number_of why) (13 ∷ []) (14 ∷ []) ∙ rw (ap (λ (i : ℕ). member i (13 ∷ [])) (sym same) ∙ h)

    -- sizes and types are those of the first call, and the lists are what it left
    verdict : update_verdict S more exit count.quads ≡ BAD_ENTRY (cells S.size) (length S.types.kinds) more
    verdict =
        let f = done_first tested S log entry Q exit d e in
        let a = (what_an_update_call_says tested S f.0 entry Q (Ok count) exit f.2).accepted in
        let o = asked_of tested S f.0 entry Q a in
        skip o.size ∙ skip o.types ∙ skip (what_an_update_leaves_is_taken tested S log entry Q r k count exit d e)

    by : Dec (number_of why ≡ 14) → member (number_of why) (13 ∷ 14 ∷ []) ≡ true
    by (yes z) = ap (λ (i : ℕ). member i (13 ∷ 14 ∷ [])) z
    by (no z) =
        of_log (BAD_ENTRY (cells S.size) (length S.types.kinds) more) (entry_numbers (cells S.size) (length S.types.kinds) more)
        (sym verdict ∙ ((what_an_update_call_says next S more exit count.quads (Err (stopped_for why place told)) left n).refused z).told)

-- ---- NO_ROOM exactly, both ways
module _ (tested : Tested) (S : Scene) (log : List ℕ) (entry : Lists) (Q : ℕ) where
  abbrev c : Course
  c = course tested S log entry Q

  -- Done means that the log is accepted and every entry found its room
  pub done_exactly : (r : Updated) (exit : Lists) → Updates tested S log entry Q r exit
      → ((count : Count) × (r ≡ Ok count))
      ↔ ((update_verdict S log entry Q ≡ fine) × ((j : ℕ) → j < length log / ENTRY_BYTES → FindsRoom tested S log entry Q j))
  done_exactly r exit e = (λ d. told d.0 d.1, λ h. found h.0 h.1 c.full refl)
    where
      told : (count : Count) → r ≡ Ok count
          → (update_verdict S log entry Q ≡ fine) × ((j : ℕ) → j < length log / ENTRY_BYTES → FindsRoom tested S log entry Q j)
      told count d =
          let a = what_an_update_call_says tested S log entry Q (Ok count) exit (ap (λ (x : Updated). outcome_of x exit) (sym d) ∙ e) in
          (a.accepted, all_found tested S log entry Q a.ended)

      found : update_verdict S log entry Q ≡ fine → ((j : ℕ) → j < length log / ENTRY_BYTES → FindsRoom tested S log entry Q j) → (o : Option ℕ) → c.full ≡ o
          → (count : Count) × (r ≡ Ok count)
      found a h none f = an_update_is_done_if_nothing_refuses tested S log entry Q r exit a f e
      found a h (some k) f = let w = first_without tested S log entry Q k f in let l = w.without in let m = h k w.in_log in absurd (omega arith)

  -- out of room at entry k means that the log is accepted and entry k is the first that did not find its room
  pub no_room_exactly : (r : Updated) (exit : Lists) (k : ℕ) → Updates tested S log entry Q r exit
      → ((count : Count) × (r ≡ Err (stopped_for NoRoom k count))) ↔ ((update_verdict S log entry Q ≡ fine) × FirstWithout tested S log entry Q k (needed_at tested S log entry Q k))
  no_room_exactly r exit k e = (λ d. told d.0 d.1, λ h. found h.0 h.1 c.full refl)
    where
      told : (count : Count) → r ≡ Err (stopped_for NoRoom k count) → (update_verdict S log entry Q ≡ fine) × FirstWithout tested S log entry Q k (needed_at tested S log entry Q k)
      told count d =
          let a = (what_an_update_call_says tested S log entry Q (Err (stopped_for NoRoom k count)) exit (ap (λ (x : Updated). outcome_of x exit) (sym d) ∙ e)
          ).stopped refl in
          (a.ran.accepted, a.first)

      -- there is one first
      alike : (i j : ℕ) → FirstWithout tested S log entry Q i (needed_at tested S log entry Q i) → FirstWithout tested S log entry Q j (needed_at tested S log entry Q j) → i ≤ j
      alike i j a b = on (dec_lt j i)
        where
          on : Dec (j < i) → i ≤ j
          on (yes h) = let l = a.before j h in let m = b.without in absurd (omega arith)
          on (no h) = omega arith

      found : update_verdict S log entry Q ≡ fine → FirstWithout tested S log entry Q k (needed_at tested S log entry Q k) → (o : Option ℕ) → c.full ≡ o
          → (count : Count) × (r ≡ Err (stopped_for NoRoom k count))
      found a w none f = let l = w.without in let m = all_found tested S log entry Q f k w.in_log in absurd (omega arith)
      found a w (some i) f =
          let x = first_without tested S log entry Q i f in
          let same : i ≡ k = omega (arith, alike i k x w, alike k i w x) in
          let count : Count = record { quads = length c.quads; moved = c.moved } in
          (count, sym (update_reads r exit) ∙ ap read_update e ∙ (rw (a, f)) ∙ ap (λ (i : ℕ). Err (stopped_for NoRoom i count)) same)

-- ---- at most sixty moves an entry
pub moved_at_most_sixty_an_entry : (tested : Tested) (S : Scene) (log : List ℕ) (entry : Lists) (Q : ℕ) (r : Updated) (k : ℕ) (count : Count)
    (exit : Lists) → Did log r k count → Updates tested S log entry Q r exit → count.moved ≤ 60 * k
moved_at_most_sixty_an_entry tested S log entry Q r k count exit d e =
    let f = done_first tested S log entry Q exit d e in
    let l = f.0 in
    let a = what_an_update_call_says tested S l entry Q (Ok count) exit f.2 in
    let m = course_moves 60 (room S entry) (λ j. work tested (world S) (entry_at l j)) 0 (length l / ENTRY_BYTES) (decode S.types.coloured Q entry) 0 Q
    (λ j. entry_moves tested (world S) (entry_at l j)) in
    omega (arith, a.moved, f.1)
