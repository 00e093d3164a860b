-- 02, Q-6 and Q-7: what is done of a log is what 01's single changes do, two of them for each Sides and for each Replaced, of the Rattle call and of the C call; and when such an
-- entry is out of room, of the Rattle call. Assumes nothing.
use Rattle.std.specs.Prelude.{Ok, Err}
use Prim.Native.Nat.{ℕ, ◌/◌, ◌<◌}
use mathlib.Core.Path.{◌≡◌, refl, sym, ap, ◌∙◌, subst}
use mathlib.Core.Logic.{◌↔◌}
use mathlib.Core.List.{List}
use lib.ListN.{length}
use Rattle.rules.specs.Cells.{cells}
use Rattle.rules.specs.Mesh.{Lists}
use Rattle.rules.specs.Update.{ENTRY_BYTES, Sides, Replaced, Tested, entry_at, work, work_by, Work, needed}
use Rattle.rules.specs.Answers.{fine}
use Rattle.rules.specs.Calls.{Answer, Outcome, Scene, world, entries_of, update_verdict}
use Rattle.rules.specs.Pairs.{pairs, single_update}
use Rattle.rules.proofs.Quads.{Once}
use Rattle.rules.proofs.Courses.{once_after}
use Rattle.rules.proofs.Demands.{sound, asked_of, lent_sane, entry_inside}
use Rattle.rules.proofs.Pairs.{update_by_pairs, same_changes_same_update, sides_room, replaced_needed}
use Rattle.answers.specs.declared.Refusal.TheVariants.{NoRoom}
use Rattle.terms.specs.declared.Count.{Count}
use Rattle.update.specs.Outcome.{outcome_of}
use Rattle.telling.specs.Numbers.{tested_from, outcome}
use Rattle.demands.specs.Promised.{Updates, TellsUpdate, Updated, stopped_for}
use Rattle.demands.specs.Chunks.{first_of}
use Rattle.demands.specs.Room.{mesh_before, needed_at, sides_need, replaced_need, FirstWithout}
use Rattle.demands.proofs.Answers.{what_an_update_call_says}
use Rattle.demands.proofs.Room.{no_room_exactly}

-- in quads, lists, `moved` and zeroed places
pub pairs_do_the_same : (tested : Tested) (S : Scene) (log : List ℕ) (entry : Lists) (Q : ℕ) (count : Count) (exit : Lists)
    → Updates tested S log entry Q (Ok count) exit → outcome_of (Ok count) exit ≡ single_update tested S (pairs (entries_of log)) entry Q
pairs_do_the_same tested S log entry Q count exit e = e ∙ update_by_pairs tested S log entry Q (sym (ap (λ (o : Outcome). o.answer.number) e))

-- so of two logs of the same single changes, one with Replaced and one with Broken and Added in its place: where one is Done, so is the other, if its input is accepted, with the
-- same count and the same lists
pub same_changes_do_the_same : (tested : Tested) (S : Scene) (one other : List ℕ) (entry : Lists) (Q : ℕ) (count : Count) (exit : Lists) → pairs (entries_of one) ≡ pairs (entries_of other)
    → Updates tested S one entry Q (Ok count) exit → update_verdict S other entry Q ≡ fine → Updates tested S other entry Q (Ok count) exit
same_changes_do_the_same tested S one other entry Q count exit same e accepted =
    e ∙ sym (same_changes_same_update tested S one other entry Q same (sym (ap (λ (o : Outcome). o.answer.number) e)) accepted)

-- out of room at entry k: so were the entries before it
pub out_of_room_after_what_the_pairs_do : (tested : Tested) (S : Scene) (log : List ℕ) (entry : Lists) (Q k : ℕ) (count : Count) (exit : Lists)
    → Updates tested S log entry Q (Err (stopped_for NoRoom k count)) exit → outcome_of (Ok count) exit ≡ single_update tested S (pairs (entries_of (first_of k log))) entry Q
out_of_room_after_what_the_pairs_do tested S log entry Q k count exit e =
    pairs_do_the_same tested S (first_of k log) entry Q count exit ((what_an_update_call_says tested S log entry Q (Err (stopped_for NoRoom k count)) exit e).stopped refl).before

pub pairs_do_the_same_in_c : (tested : ℕ) (S : Scene) (log : List ℕ) (entry : Lists) (Q : ℕ) (a : Answer) (exit : Lists)
    → TellsUpdate tested S log entry Q a exit → a.number ≡ 0 → outcome a exit ≡ single_update (tested_from tested) S (pairs (entries_of log)) entry Q
pairs_do_the_same_in_c tested S log entry Q a exit e done = e ∙ update_by_pairs (tested_from tested) S log entry Q (sym (ap (λ (o : Outcome). o.answer.number) e) ∙ done)

-- ---- entry k out of room
module _ (tested : Tested) (S : Scene) (log : List ℕ) (entry : Lists) (Q k : ℕ) where
  exactly : {need : ℕ} → (update_verdict S log entry Q ≡ fine → k < length log / ENTRY_BYTES → needed_at tested S log entry Q k ≡ need) → (r : Updated) (exit : Lists) → Updates tested S log entry Q r exit
      → ((count : Count) × (r ≡ Err (stopped_for NoRoom k count))) ↔ ((update_verdict S log entry Q ≡ fine) × FirstWithout tested S log entry Q k need)
  exactly is r exit e =
      let x = no_room_exactly tested S log entry Q r exit k e in (
        λ d. let y = x.0 d in (y.0, subst (FirstWithout tested S log entry Q k) (is y.0 y.1.in_log) y.1),
        λ h. x.1 (h.0, subst (FirstWithout tested S log entry Q k) (sym (is h.0 h.1.in_log)) h.1),
      )

  once : update_verdict S log entry Q ≡ fine → Once (mesh_before tested S log entry Q k)
  once accepted =
      let a = asked_of tested S log entry Q accepted in
      once_after (λ j. work tested (world S) (entry_at log j)) 0 k _ (lent_sane S entry Q a.size a.slots a.count a.book).once

  pub what_sides_need : (entry_at log k).change ≡ Sides → update_verdict S log entry Q ≡ fine → needed_at tested S log entry Q k ≡ sides_need tested S log entry Q k
  what_sides_need is accepted =
      let m = mesh_before tested S log entry Q k in
      ap (λ (w : Work). needed w m) (ap (work_by tested (world S) (entry_at log k)) is) ∙ sides_room (world S) (entry_at log k) m (once accepted)

  pub what_replaced_needs : (entry_at log k).change ≡ Replaced → update_verdict S log entry Q ≡ fine → k < length log / ENTRY_BYTES
      → needed_at tested S log entry Q k ≡ replaced_need tested S log entry Q k
  what_replaced_needs is accepted in_log =
      let a = asked_of tested S log entry Q accepted in
      let m = mesh_before tested S log entry Q k in
      let in_grid = entry_inside (cells S.size) (length S.types.kinds) log a.entries k in_log in
      ap (λ (w : Work). needed w m) (ap (work_by tested (world S) (entry_at log k)) is) ∙ replaced_needed tested (world S) (sound S a.size a.types) (entry_at log k) in_grid m (once accepted)

  pub sides_out_of_room_exactly : (entry_at log k).change ≡ Sides → (r : Updated) (exit : Lists) → Updates tested S log entry Q r exit
      → ((count : Count) × (r ≡ Err (stopped_for NoRoom k count))) ↔ ((update_verdict S log entry Q ≡ fine) × FirstWithout tested S log entry Q k (sides_need tested S log entry Q k))
  sides_out_of_room_exactly is = exactly (λ accepted in_log. what_sides_need is accepted)

  pub replaced_out_of_room_exactly : (entry_at log k).change ≡ Replaced → (r : Updated) (exit : Lists) → Updates tested S log entry Q r exit
      → ((count : Count) × (r ≡ Err (stopped_for NoRoom k count))) ↔ ((update_verdict S log entry Q ≡ fine) × FirstWithout tested S log entry Q k (replaced_need tested S log entry Q k))
  replaced_out_of_room_exactly is = exactly (what_replaced_needs is)
