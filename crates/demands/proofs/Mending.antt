-- Demand 3, "a mesh that passes with no outer face named passes after any unrefused honest log", its Added and Replaced as each mode asks (`LogFor`,
-- specs/Chunks): mesh_grid, then any number of update_mesh calls, then check_mesh says Fine; out of room it says so for the entries that were done.
-- And what is the same in both modes. Assumes nothing.
use Rattle.std.specs.Prelude.{Ok, Err}
use Prim.Native.Nat.{ℕ, ◌*◌, ◌/◌, ◌≤◌}
use mathlib.Core.Path.{◌≡◌, refl, sym, ap, ◌∙◌, subst}
use mathlib.Core.Bool.{true}
use mathlib.Core.List.{List, [], ◌++◌}
use native.Mathlib.Omega.{arith}
use lib.ListN.{length, drop}
use Rattle.rules.specs.Mesh.{Lists, is_normal_cube}
use Rattle.rules.specs.Update as rules
use Rattle.rules.specs.Update.{ENTRY_BYTES, Entry, source, itself, Alike, AddsAlike}
use Rattle.rules.specs.Calls.{Answer, Scene, Outcome, world, entries_of, update_mesh}
use Rattle.rules.proofs.Courses.{alike-append}
use Rattle.rules.proofs.Modes.{table_alike, itself_alike, modes_agree}
use Rattle.rules.proofs.Demands.{mended_accepted}
use Rattle.rules.proofs.Merging.{FairLog, fair_of, fair_honest, fair_mends, fair_append}
use Rattle.answers.specs.declared.Refusal.TheVariants.{NoRoom}
use Rattle.terms.specs.declared.Tested.{Tested}
use Rattle.terms.specs.declared.Tested.TheVariants.{Opposite, Itself}
use Rattle.terms.specs.Modes.{tested_by}
use Rattle.terms.specs.declared.Count.{Count}
use Rattle.demands.specs.Promised.{Meshes, Updates, Checks, Verdict, Updated, Fine, stopped_for}
use Rattle.demands.specs.Chunks.{Chunk, Passes, first_of, ground_after, FillingLog, AlikeLog, MendableLog, LogFor, mended_to, Mended, untouched, one_more}
use Rattle.demands.proofs.Stopped.{entries_split}
use Rattle.demands.proofs.Answers.{what_an_update_call_says}
use Rattle.demands.proofs.OneOutcome.{one_update, one_check}
use Rattle.demands.proofs.Exact.{fine_is_zero}
use Rattle.demands.proofs.Fresh.{fresh_is_fine}

-- ---- over the side tested

-- the check says Fine of what the rule of an update leaves
pub still_fine : (tested : rules.Tested) (S : Scene) (log grid : List ℕ) (B : Lists) (Q : ℕ) → Checks S [] grid B Q Fine → FillingLog S grid log
    → AddsAlike tested (world S) (entries_of log) → (update_mesh tested S log B Q).answer.number ≡ 0
    → Checks S [] (ground_after S log grid) (update_mesh tested S log B Q).lists (update_mesh tested S log B Q).answer.quads Fine
still_fine tested S log grid B Q passed true-log alike unrefused =
    (fine_is_zero S [] (ground_after S log grid) (update_mesh tested S log B Q).lists (update_mesh tested S log B Q).answer.quads).1
    (mended_accepted tested S grid log B Q (ap (λ (a : Answer). a.number) ((fine_is_zero S [] grid B Q).0 passed))
    true-log.honest true-log.mends alike unrefused)

-- all that the two modes need apart: what demand 3 asks of a log, and that it is enough
pub asked : (mode : Tested) (S : Scene) (grid log : List ℕ) → LogFor mode S grid log
    → FillingLog S grid log × AddsAlike (tested_by mode) (world S) (entries_of log)
asked Opposite S grid log h = (h.filling, h.alike)
asked Itself S grid log h = (h, itself_alike (world S) (entries_of log))

-- the check says Fine of what the call leaves
pub fine_after : (tested : rules.Tested) (S : Scene) (log : List ℕ) (k : Chunk) (exit : Lists) (count : Count) → Passes S k → FillingLog S k.grid log
    → AddsAlike tested (world S) (entries_of log) → Updates tested S log k.lists k.quads (Ok count) exit → Passes S (mended_to S log k count exit)
fine_after tested S log k exit count passed true-log alike mended =
    subst (λ (o : Outcome). Checks S [] (ground_after S log k.grid) o.lists o.answer.quads Fine) (sym mended)
    (still_fine tested S log k.grid k.lists k.quads passed true-log alike (sym (ap (λ (o : Outcome). o.answer.number) mended)))

mended_is_fine : (mode : Tested) (S : Scene) (log : List ℕ) (k : Chunk) (exit : Lists) (count : Count) → Passes S k → LogFor mode S k.grid log
    → Updates (tested_by mode) S log k.lists k.quads (Ok count) exit → Passes S (mended_to S log k count exit)
mended_is_fine mode S log k exit count passed true-log =
    let a = asked mode S k.grid log true-log in fine_after (tested_by mode) S log k exit count passed a.0 a.1

mended_passes : (mode : Tested) (S : Scene) (log grid : List ℕ) (B exit : Lists) (Q : ℕ) (count : Count) (r : Verdict)
    → Checks S [] grid B Q Fine → LogFor mode S grid log → Updates (tested_by mode) S log B Q (Ok count) exit
    → Checks S [] (ground_after S log grid) exit count.quads r → r ≡ Fine
mended_passes mode S log grid B exit Q count r passed true-log mended checked =
    one_check S [] (ground_after S log grid) exit count.quads r Fine checked
    (mended_is_fine mode S log (record { grid = grid; lists = B; quads = Q }) exit count passed true-log mended)

-- ---- such a log, entry by entry
module _ (S : Scene) (grid log : List ℕ) where
  pub filling_fair : FillingLog S grid log → FairLog (world S) grid (entries_of log)
  filling_fair f = fair_of (world S) grid (entries_of log) f.honest f.mends

  pub filling_of : FairLog (world S) grid (entries_of log) → FillingLog S grid log
  filling_of f = record { honest = fair_honest (world S) grid (entries_of log) f; mends = fair_mends (world S) grid (entries_of log) f }

-- ---- out of room, and still right

-- the first entries of a log of demand 3 are such a log
module _ (S : Scene) (log : List ℕ) (k : ℕ) (in_log : k ≤ length log / ENTRY_BYTES) where
  abbrev rest : List Entry
  rest = entries_of (drop (ENTRY_BYTES * k) log)

  split : entries_of log ≡ entries_of (first_of k log) ++ rest
  split = entries_split log k in_log

  pub first_filling : (grid : List ℕ) → FillingLog S grid log → FillingLog S grid (first_of k log)
  first_filling grid f =
      filling_of S grid (first_of k log) (fair_append (world S) grid (entries_of (first_of k log)) rest (subst (FairLog (world S) grid) split (filling_fair S grid log f))).0

  pub first_alike : (tested : rules.Tested) → AddsAlike tested (world S) (entries_of log) → AddsAlike tested (world S) (entries_of (first_of k log))
  first_alike tested a = ((alike-append tested (world S) (entries_of (first_of k log)) rest).0 (subst (AddsAlike tested (world S)) split a)).0

  first_of_such_a_log : (mode : Tested) (grid : List ℕ) → LogFor mode S grid log → LogFor mode S grid (first_of k log)
  first_of_such_a_log Opposite grid l = record { filling = first_filling grid l.filling; alike = first_alike source l.alike }
  first_of_such_a_log Itself grid l = first_filling grid l

-- a log that stops at entry k for want of room leaves a mesh that passes for the grid after its first k entries
pub out_of_room_and_still_right : (mode : Tested) (S : Scene) (log grid : List ℕ) (B exit : Lists) (Q k : ℕ) (count : Count) (r : Verdict)
    → Checks S [] grid B Q Fine → LogFor mode S grid log → Updates (tested_by mode) S log B Q (Err (stopped_for NoRoom k count)) exit
    → Checks S [] (ground_after S (first_of k log) grid) exit count.quads r → r ≡ Fine
out_of_room_and_still_right mode S log grid B exit Q k count r passed true-log stopped checked =
    let s = (what_an_update_call_says (tested_by mode) S log B Q (Err (stopped_for NoRoom k count)) exit stopped).stopped refl in
    mended_passes mode S (first_of k log) grid B exit Q count r passed
    (first_of_such_a_log S log k (omega (arith, s.first.in_log)) mode grid true-log) s.before checked

-- ---- one call

-- the source's mode
pub a_mended_mesh_passes : (S : Scene) (log grid : List ℕ) (B exit : Lists) (Q : ℕ) (count : Count) (r : Verdict)
    → Checks S [] grid B Q Fine → MendableLog S grid log → Updates source S log B Q (Ok count) exit
    → Checks S [] (ground_after S log grid) exit count.quads r → r ≡ Fine
a_mended_mesh_passes = mended_passes Opposite

-- the new mode: no word about covers
pub a_mesh_mended_with_slabs_passes : (S : Scene) (log grid : List ℕ) (B exit : Lists) (Q : ℕ) (count : Count) (r : Verdict)
    → Checks S [] grid B Q Fine → FillingLog S grid log → Updates itself S log B Q (Ok count) exit
    → Checks S [] (ground_after S log grid) exit count.quads r → r ≡ Fine
a_mesh_mended_with_slabs_passes = mended_passes Itself

-- ---- any number of calls, each in either mode

-- from any mesh that passes, however made
pub still_passes : {S : Scene} {from k : Chunk} {n : ℕ} → Passes S from → Mended S from n k → Passes S k
still_passes p untouched = p
still_passes {S = S} p (one_more {k = k} mode log count exit calls true-log mended) =
    mended_is_fine mode S log k exit count (still_passes p calls) true-log mended

-- mesh_grid by Culling with no outer face named, then n calls of update_mesh, then check_mesh for the grid that the logs left
pub mended_any_times : (S : Scene) (grid : List ℕ) (B exit : Lists) (quads n : ℕ) (k : Chunk) (r : Verdict)
    → Meshes S [] grid true B (Ok quads) exit → Mended S (record { grid = grid; lists = exit; quads = quads }) n k
    → Checks S [] k.grid k.lists k.quads r → r ≡ Fine
mended_any_times S grid B exit quads n k r made mended checked =
    one_check S [] k.grid k.lists k.quads r Fine checked (still_passes (fresh_is_fine S [] grid B exit quads made) mended)

pub mended_two_hundred_times : (S : Scene) (grid : List ℕ) (B exit : Lists) (quads : ℕ) (k : Chunk) (r : Verdict)
    → Meshes S [] grid true B (Ok quads) exit → Mended S (record { grid = grid; lists = exit; quads = quads }) 200 k
    → Checks S [] k.grid k.lists k.quads r → r ≡ Fine
mended_two_hundred_times S grid B exit quads = mended_any_times S grid B exit quads 200

-- ---- both modes

-- for cubes that cover opposite sides alike the two calls give the same answer and the same lists, after any log and on any lists
pub both_modes_agree : (S : Scene) (log : List ℕ) (B : Lists) (Q : ℕ) (a b : Updated) (x y : Lists) → AlikeLog S log
    → Updates source S log B Q a x → Updates itself S log B Q b y → (a ≡ b) × (x ≡ y)
both_modes_agree S log B Q a b x y h p q = one_update itself S log B Q a b x y (p ∙ modes_agree source S log B Q h) q

-- where all NormalCubes of the table cover opposite sides alike, so do those that a log puts: such a batch can change its mode, and nothing else changes
pub a_table_of_such_cubes_is_enough : (S : Scene) (log : List ℕ) → ((t : ℕ) → is_normal_cube (world S) t ≡ true → Alike source (world S) t) → AlikeLog S log
a_table_of_such_cubes_is_enough S log cubes = table_alike source (world S) cubes (entries_of log)
