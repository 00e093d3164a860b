-- 02, Q-14, "two crews, one chunk": two logs, each demand 3's on the ground that both crews saw, on cells that do not touch, lead in any order, in one call or in several, to the
-- same faces with the same vertices, if no call is refused. Assumes nothing.
use Rattle.std.specs.Prelude.{Ok}
use Prim.Native.Nat.{ℕ, zero, suc, ◌/◌, ◌%◌, ◌<◌}
use mathlib.Core.Path.{◌≡◌, refl, sym, ap, ◌∙◌, subst}
use mathlib.Core.Logic.{◌↔◌}
use mathlib.Core.List.{List, [], ◌∷◌, ◌++◌}
use native.Mathlib.Omega.{arith}
use lib.ListN.{length}
use Rattle.rules.specs.Cells.{Size, cells}
use Rattle.rules.specs.Mesh.{Lists}
use Rattle.rules.specs.Update as rules
use Rattle.rules.specs.Update.{ENTRY_BYTES, Entry, entry_at, grid_log, AddsAlike}
use Rattle.rules.specs.Calls.{Answer, Outcome, Scene, world, entries_of, update_mesh, check_verdict}
use Rattle.rules.specs.Crews.{Clear, Merged}
use Rattle.rules.proofs.ListLaws.{All, all_with, all_append, all_each}
use Rattle.rules.proofs.Views.{Sound}
use Rattle.rules.proofs.Courses.{log_append, alike-append}
use Rattle.rules.proofs.Refusals.{CHECK, check_numbers, zero_fine}
use Rattle.rules.proofs.Demands.{sound, asked_of, entries_inside, through, passed}
use Rattle.rules.proofs.Merging.{clear_back, BothClear, AllClear, FairLog, fair_append, merged_fair, merged_ground, all_other, one_then_other, turned}
use Rattle.terms.specs.declared.Tested.{Tested}
use Rattle.terms.specs.Modes.{tested_by}
use Rattle.terms.specs.declared.Count.{Count}
use Rattle.telling.specs.Numbers.{tested_from, answer, outcome}
use Rattle.demands.specs.Promised.{Updates, TellsUpdate, TellsCheck}
use Rattle.demands.specs.Chunks.{Chunk, Passes, ground_after, FillingLog, LogFor, mended_to}
use Rattle.demands.specs.Crews.{ClearLogs, Led, no_call, one_call, Agree}
use Rattle.demands.proofs.Stopped.{entries_joined}
use Rattle.demands.proofs.Exact.{one_grid_same_faces}
use Rattle.demands.proofs.Mending.{asked, fine_after, filling_fair, filling_of}

-- ---- calls that were done
module _ (S : Scene) where
  abbrev Inside : Entry → Type 0
  Inside e = e.cell < cells S.size

  -- name cells of the grid
  led_inside : {from k : Chunk} {es : List Entry} → Led S from es k → All Inside es
  led_inside no_call = tt
  led_inside (one_call {es = es} {k = k} tested log count exit led alike done) =
      let t = through tested S log k.lists k.quads (sym (ap (λ (o : Outcome). o.answer.number) done)) in
      all_append Inside es (entries_of log) (led_inside led)
      (entries_inside (cells S.size) (length S.types.kinds) log (asked_of tested S log k.lists k.quads t.0).entries)

  -- and keep a mesh right, for the ground after their entries
  led_passes : {from k : Chunk} {es : List Entry} → Passes S from → FairLog (world S) from.grid es → Led S from es k
      → Passes S k × (k.grid ≡ grid_log (world S) es from.grid)
  led_passes p fair no_call = (p, refl)
  led_passes {from = from} p fair (one_call {es = es} {k = k} tested log count exit led alike done) =
      let f = fair_append (world S) from.grid es (entries_of log) fair in
      let r = led_passes p f.0 led in
      let here = filling_of S k.grid log (subst (λ (g : List ℕ). FairLog (world S) g (entries_of log)) (sym r.1) f.1) in (
        fine_after tested S log k exit count r.0 here alike done,
        ap (grid_log (world S) (entries_of log)) r.1 ∙ sym (log_append (world S) from.grid es (entries_of log)),
      )

-- ---- two crews on one chunk
module _ (S : Scene) (from : Chunk) (one other : List ℕ) (passes : Passes S from) (clear : ClearLogs S.size one other) where
  abbrev OneOrder : List Entry → Type 0
  OneOrder = Merged (entries_of one) (entries_of other)

  all_clear : All (Inside S) (entries_of other) → AllClear S.size (entries_of one) (entries_of other)
  all_clear inside =
      all_each (λ e. All (BothClear S.size e) (entries_of other)) (length one / ENTRY_BYTES) 0 (λ i. entry_at one i ∷ []) (λ i l h. (of (entry_at one i) (λ j b. clear i j (omega arith) b), tt))
    where
      snd : Sound (world S)
      snd = let p = passed S [] from.grid from.lists from.quads (sym passes) in sound S p.size p.types

      of : (e : Entry) → ((j : ℕ) → j < length other / ENTRY_BYTES → Clear S.size e.cell (entry_at other j).cell) → All (BothClear S.size e) (entries_of other)
      of e h =
          all_with (λ d c i. (c, clear_back (world S) snd e.cell d.cell i c)) (entries_of other)
          (all_each (λ d. Clear S.size e.cell d.cell) (length other / ENTRY_BYTES) 0 (λ j. entry_at other j ∷ []) (λ j l b. (h j (omega arith), tt))) inside

  -- a log of both crews' entries is demand 3's exactly if each crew's log is
  pub honest_together : (log : List ℕ) → Merged (entries_of one) (entries_of other) (entries_of log) → ((j : ℕ) → j < length other / ENTRY_BYTES → (entry_at other j).cell < cells S.size)
      → (FillingLog S from.grid one × FillingLog S from.grid other) ↔ FillingLog S from.grid log
  honest_together log merged inside =
      let g = from.grid in
      let law = merged_fair (world S) g (all_clear (all_each (Inside S) (length other / ENTRY_BYTES) 0 (λ j. entry_at other j ∷ []) (λ j l h. (inside j (omega arith), tt)))) merged in (
        λ f. filling_of S g log (law.0 (filling_fair S g one f.0, filling_fair S g other f.1)),
        λ f. let r = law.1 (filling_fair S g log f) in (filling_of S g one r.0, filling_of S g other r.1),
      )

  module _ (oneHonest : FillingLog S from.grid one) (otherHonest : FillingLog S from.grid other) where
    -- each order leads to a mesh that passes, for the ground that the one crew and then the other leave
    leads_to : {es : List Entry} {k : Chunk} → OneOrder es → Led S from es k
        → Passes S k × (k.grid ≡ grid_log (world S) (entries_of other) (grid_log (world S) (entries_of one) from.grid))
    leads_to merged led =
        let g = from.grid in
        let c = all_clear (all_other (Inside S) merged (led_inside S led)) in
        let r = led_passes S passes ((merged_fair (world S) g c merged).0 (filling_fair S g one oneHonest, filling_fair S g other otherHonest)) led in
        (r.0, r.1 ∙ merged_ground (world S) g c merged)

    -- THE PROMISE: any two orders of both crews' entries, each in any calls
    pub two_crews : {es fs : List Entry} {k l : Chunk} → Merged (entries_of one) (entries_of other) es → Merged (entries_of one) (entries_of other) fs
        → Led S from es k → Led S from fs l → Agree S k l
    two_crews {k = k} {l = l} m n x y =
        let a = leads_to m x in
        let b = leads_to n y in
        let ground = a.1 ∙ sym b.1 in
        let same = one_grid_same_faces S [] k l a.0 b.0 ground in
        record { faces = same.0; count = same.1; passes = (a.0, b.0); ground = ground }

    -- one log and then the other in one call, and the other way round, by one side tested
    one_call_lem : (tested : rules.Tested) → AddsAlike tested (world S) (entries_of one) → AddsAlike tested (world S) (entries_of other)
        → length one % ENTRY_BYTES ≡ 0 → length other % ENTRY_BYTES ≡ 0 → (m n : Count) (x y : Lists)
        → Updates tested S (one ++ other) from.lists from.quads (Ok m) x → Updates tested S (other ++ one) from.lists from.quads (Ok n) y
        → Agree S (mended_to S (one ++ other) from m x) (mended_to S (other ++ one) from n y)
    one_call_lem tested oneAlike otherAlike wholeOne wholeOther m n x y first second =
        let joined = sym (entries_joined one other wholeOne) in
        let turned_round = sym (entries_joined other one wholeOther) in
        two_crews (subst OneOrder joined (one_then_other (entries_of one) (entries_of other))) (subst OneOrder turned_round (turned (one_then_other (entries_of other) (entries_of one))))
        (one_call tested (one ++ other) m x no_call
        (subst (AddsAlike tested (world S)) joined ((alike-append tested (world S) (entries_of one) (entries_of other)).1 (oneAlike, otherAlike))) first)
        (one_call tested (other ++ one) n y no_call
        (subst (AddsAlike tested (world S)) turned_round ((alike-append tested (world S) (entries_of other) (entries_of one)).1 (otherAlike, oneAlike))) second)

-- ---- in one mode
module _ (mode : Tested) (S : Scene) (from : Chunk) (one other : List ℕ) (passes : Passes S from) (clear : ClearLogs S.size one other) (oneHonest : LogFor mode S from.grid one)
    (otherHonest : LogFor mode S from.grid other) where
  asked_one : FillingLog S from.grid one × AddsAlike (tested_by mode) (world S) (entries_of one)
  asked_one = asked mode S from.grid one oneHonest

  asked_other : FillingLog S from.grid other × AddsAlike (tested_by mode) (world S) (entries_of other)
  asked_other = asked mode S from.grid other otherHonest

  -- a call for each log
  pub in_either_order : (m n m' n' : Count) (x y x' y' : Lists)
      → Updates (tested_by mode) S one from.lists from.quads (Ok m) x → Updates (tested_by mode) S other x m.quads (Ok n) y
      → Updates (tested_by mode) S other from.lists from.quads (Ok m') x' → Updates (tested_by mode) S one x' m'.quads (Ok n') y'
      → Agree S (mended_to S other (mended_to S one from m x) n y) (mended_to S one (mended_to S other from m' x') n' y')
  in_either_order m n m' n' x y x' y' a b c d =
      let t = tested_by mode in
      two_crews S from one other passes clear asked_one.0 asked_other.0 (one_then_other (entries_of one) (entries_of other)) (turned (one_then_other (entries_of other) (entries_of one)))
      (one_call t other n y (one_call t one m x no_call asked_one.1 a) asked_other.1 b) (one_call t one n' y' (one_call t other m' x' no_call asked_other.1 c) asked_one.1 d)

  -- one call for both
  pub in_one_log : length one % ENTRY_BYTES ≡ 0 → length other % ENTRY_BYTES ≡ 0 → (m n : Count) (x y : Lists)
      → Updates (tested_by mode) S (one ++ other) from.lists from.quads (Ok m) x → Updates (tested_by mode) S (other ++ one) from.lists from.quads (Ok n) y
      → Agree S (mended_to S (one ++ other) from m x) (mended_to S (other ++ one) from n y)
  in_one_log = one_call_lem S from one other passes clear asked_one.0 asked_other.0 (tested_by mode) asked_one.1 asked_other.1

-- ---- 02's words: two entries, on different cells that are not neighbours across a face
clear_entries : (s : Size) (one other : List ℕ) → length one ≡ ENTRY_BYTES → length other ≡ ENTRY_BYTES → Clear s (entry_at one 0).cell (entry_at other 0).cell
    → ClearLogs s one other
clear_entries s one other a b clear zero zero i j = clear
clear_entries s one other a b clear zero (suc n) i j = absurd (omega arith)
clear_entries s one other a b clear (suc n) m i j = absurd (omega arith)

pub two_entries : (mode : Tested) (S : Scene) (from : Chunk) (one other : List ℕ) (m n : Count) (x y : Lists) → Passes S from → LogFor mode S from.grid one → LogFor mode S from.grid other
    → length one ≡ ENTRY_BYTES → length other ≡ ENTRY_BYTES → Clear S.size (entry_at one 0).cell (entry_at other 0).cell
    → Updates (tested_by mode) S (one ++ other) from.lists from.quads (Ok m) x → Updates (tested_by mode) S (other ++ one) from.lists from.quads (Ok n) y
    → Agree S (mended_to S (one ++ other) from m x) (mended_to S (other ++ one) from n y)
two_entries mode S from one other m n x y passes oneHonest otherHonest a b clear =
    in_one_log mode S from one other passes (clear_entries S.size one other a b clear) oneHonest otherHonest (omega arith) (omega arith) m n x y

-- ---- of the C call

-- one that tells 0 is done
pub zero_is_done : (tested : rules.Tested) (S : Scene) (log : List ℕ) (B : Lists) (Q : ℕ) (a : Answer) (exit : Lists) → outcome a exit ≡ update_mesh tested S log B Q → a.number ≡ 0
    → Updates tested S log B Q (Ok (record { quads = a.quads; moved = a.moved })) exit
zero_is_done tested S log B Q a exit e z =
    let t = through tested S log B Q (sym (ap (λ (o : Outcome). o.answer.number) e) ∙ z) in
    let first : a.place ≡ 0 = ap (λ (o : Outcome). o.answer.place) e ∙ rw (t.0, t.1) refl in
    (λ i. outcome (answer (sym z i) (sym first i) a.quads a.moved) exit) ∙ e

pub in_one_log_in_c : (tested : ℕ) (S : Scene) (one other grid : List ℕ) (B : Lists) (Q before : ℕ) (a b : Answer) (x y : Lists) → TellsCheck S [] grid B Q 0 before
    → FillingLog S grid one → AddsAlike (tested_from tested) (world S) (entries_of one) → FillingLog S grid other → AddsAlike (tested_from tested) (world S) (entries_of other)
    → ClearLogs S.size one other → length one % ENTRY_BYTES ≡ 0 → length other % ENTRY_BYTES ≡ 0
    → a.number ≡ 0 → TellsUpdate tested S (one ++ other) B Q a x → b.number ≡ 0 → TellsUpdate tested S (other ++ one) B Q b y
    → Agree S (record { grid = ground_after S (one ++ other) grid; lists = x; quads = a.quads }) (record { grid = ground_after S (other ++ one) grid; lists = y; quads = b.quads })
in_one_log_in_c tested S one other grid B Q before a b x y p oneHonest oneAlike otherHonest otherAlike clear wholeOne wholeOther z first w second =
    let from : Chunk = record { grid = grid; lists = B; quads = Q } in
    let passes = sym (zero_fine CHECK refl (check_verdict S [] grid B Q) (check_numbers S [] grid B Q) (sym (ap (λ (r : Answer). r.number) p))) in
    one_call_lem S from one other passes clear oneHonest otherHonest (tested_from tested) oneAlike otherAlike wholeOne wholeOther
    (record { quads = a.quads; moved = a.moved }) (record { quads = b.quads; moved = b.moved }) x y
    (zero_is_done (tested_from tested) S (one ++ other) B Q a x first z) (zero_is_done (tested_from tested) S (other ++ one) B Q b y second w)
