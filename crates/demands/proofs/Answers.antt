-- Demand 1, "every public call takes all input, damaged meshes and logs among it, ends, and answers a result or one numbered refusal. A refused
-- call changes no lent list; only an update out of room keeps the entries before the one it stopped at, complete, and says how many", and
-- demand 2, "cubes, fresh meshes and updates .. are proved against 01's face rules": all that an answer says.
-- That a call ends, for all input, is proved with its code: none of the four has a `requires`. Assumes nothing.
use Rattle.std.specs.Prelude.{Ok, Err}
use Prim.Native.Nat.{ℕ, ◌*◌}
use mathlib.Core.Path.{◌≡◌, refl, sym, ap, ◌∙◌, subst}
use mathlib.Core.Logic.{◌≢◌}
use mathlib.Core.Bool.{Bool, true, false}
use mathlib.Core.List.{List, ◌++◌}
use mathlib.Core.Option.{Option, none, some}
use native.Mathlib.Omega.{arith}
use lib.ListN.{length, drop}
use borrow.Author.Tests.{eqb-false}
use Rattle.rules.specs.Lists.{member}
use Rattle.rules.specs.Cube.{Shape, floats_of, cube_words}
use Rattle.rules.specs.Mesh.{Lists, layout}
use Rattle.rules.specs.Update.{Tested, Course}
use Rattle.rules.specs.Answers as rules
use Rattle.rules.specs.Answers.{fine, refuse}
use Rattle.rules.specs.Calls.{CubeOutcome, cube_verdict, cube_by, Scene, faces, Outcome, fresh_mesh, mesh_verdict, meshed_by, update_verdict, course, course_answer, update_by, check_verdict, check_by}
use Rattle.rules.proofs.Refusals.{Within, given, CUBE, MESH, UPDATE_FIRST, CHECK, cube_numbers, mesh_numbers, update_numbers, check_numbers}
use Rattle.answers.specs.declared.Refusal.{Refusal}
use Rattle.answers.specs.declared.Refusal.TheVariants.{NoRoom}
use Rattle.answers.specs.Verdicts.{number_of, verdict_of}
use Rattle.meshem.specs.Outcome as mesh
use Rattle.terms.specs.declared.Count.{Count}
use Rattle.update.specs.Outcome.{outcome_of}
use Rattle.demands.specs.Promised.{Cubes, Meshes, Updates, Checks, Verdict, Meshed, Updated, Fine, refused_for, stopped_for}
use Rattle.demands.specs.Chunks.{first_of}
use Rattle.demands.specs.Room.{needed_at, FirstWithout}
use Rattle.demands.proofs.Telling.{numbered}
use Rattle.demands.proofs.Stopped.{first_without, done_before}

-- a refusal: one of the call's own numbers, which 01's tests in their order give
pub record Refuses (numbers : List ℕ) (verdict : rules.Verdict) (number place : ℕ) : Type 0 where
  pub listed : member number numbers ≡ true
  pub told : verdict ≡ refuse number place

refuses : {numbers : List ℕ} {verdict : rules.Verdict} {number place n p : ℕ}
    → verdict ≡ refuse n p → Within numbers (refuse n p) → number ≡ n → place ≡ p → Refuses numbers verdict number place
refuses {numbers = numbers} t (given h) n p =
    record { listed = ap (λ (i : ℕ). member i numbers) n ∙ h; told = t ∙ (λ i. refuse (sym n i) (sym p i)) }

-- no refusal's number is 0
not_zero : (why : Refusal) → number_of why ≢ 0
not_zero why = eqb-false (number_of why) 0 (numbered why).1

-- a number that is not listed is not given
unlisted {ℓ} : {A : Type ℓ} {numbers : List ℕ} {m n p : ℕ} → member m numbers ≡ false → Within numbers (refuse n p) → m ≡ n → A
unlisted {numbers = numbers} u (given h) e =
    let z : ◌≡◌ {A = Bool} true false = sym h ∙ ap (λ (i : ℕ). member i numbers) (sym e) ∙ u in
    let y : ◌≡◌ {A = ℕ} 0 1 = cc in absurd (omega arith)

pub fine_not_refused {ℓ} : {A : Type ℓ} {n p : ℕ} → fine ≡ refuse n p → A
fine_not_refused e = let z : ◌≡◌ {A = ℕ} 0 1 = cc in absurd (omega arith)

-- ---- the cube

-- the words of 01's cube, then what was there
pub record CubeMade (shape : Shape) (entry exit : List ℕ) : Type 0 where
  pub accepted : cube_verdict shape entry ≡ fine
  pub laid : exit ≡ cube_words shape ++ drop (24 * floats_of shape.coloured) entry

abbrev says_by : Shape → List ℕ → rules.Verdict → List ℕ → Type 0
says_by shape entry fine exit = CubeMade shape entry exit
says_by shape entry (refuse number place) exit = Refuses CUBE (cube_verdict shape entry) number place × (exit ≡ entry)

abbrev pub CubeSays : Shape → List ℕ → Verdict → List ℕ → Type 0
CubeSays shape entry r exit = says_by shape entry (verdict_of r) exit

pub what_a_cube_call_says : (shape : Shape) (entry : List ℕ) (r : Verdict) (exit : List ℕ) → Cubes shape entry r exit → CubeSays shape entry r exit
what_a_cube_call_says shape entry r exit = by r
  where
    done : (v : rules.Verdict) → cube_verdict shape entry ≡ v → Within CUBE v
        → record { answer = check_by fine; out = exit } ≡ cube_by v shape entry → CubeMade shape entry exit
    done fine t w e = record { accepted = t; laid = ap (λ (o : CubeOutcome). o.out) e }
    done (refuse n p) t w e = unlisted refl w (ap (λ (o : CubeOutcome). o.answer.number) e)

    refused : (number place : ℕ) → number ≢ 0 → (v : rules.Verdict) → cube_verdict shape entry ≡ v → Within CUBE v
        → record { answer = check_by (refuse number place); out = exit } ≡ cube_by v shape entry
        → Refuses CUBE (cube_verdict shape entry) number place × (exit ≡ entry)
    refused number place d fine t w e = absurd (d (ap (λ (o : CubeOutcome). o.answer.number) e))
    refused number place d (refuse n p) t w e =
        (refuses t w (ap (λ (o : CubeOutcome). o.answer.number) e) (ap (λ (o : CubeOutcome). o.answer.place) e), ap (λ (o : CubeOutcome). o.out) e)

    by : (r : Verdict) → Cubes shape entry r exit → CubeSays shape entry r exit
    by (Ok u) = done (cube_verdict shape entry) refl (cube_numbers shape entry)
    by (Err e) = refused (number_of e.why) e.place (not_zero e.why) (cube_verdict shape entry) refl (cube_numbers shape entry)

-- ---- a fresh mesh

-- 01's mesh, by the algorithm asked for, laid out in the lent lists
pub record Made (S : Scene) (outer grid : List ℕ) (culling : Bool) (entry : Lists) (quads : ℕ) (exit : Lists) : Type 0 where
  pub accepted : mesh_verdict S outer grid culling entry ≡ fine
  pub counted : quads ≡ length (fresh_mesh S outer grid culling)
  pub laid : let m = fresh_mesh S outer grid culling in exit ≡ layout (faces S) S.types.coloured (length m) m entry

abbrev pub MeshSays : Scene → List ℕ → List ℕ → Bool → Lists → Meshed → Lists → Type 0
MeshSays S outer grid culling entry (Ok quads) exit = Made S outer grid culling entry quads exit
MeshSays S outer grid culling entry (Err r) exit =
    Refuses MESH (mesh_verdict S outer grid culling entry) (number_of r.why) r.place × (exit ≡ entry)

pub what_a_mesh_call_says : (S : Scene) (outer grid : List ℕ) (culling : Bool) (entry : Lists) (r : Meshed) (exit : Lists)
    → Meshes S outer grid culling entry r exit → MeshSays S outer grid culling entry r exit
what_a_mesh_call_says S outer grid culling entry r exit e =
    go r (mesh_verdict S outer grid culling entry) refl (mesh_numbers S outer grid culling entry) e
  where
    go : (r : Meshed) (v : rules.Verdict) → mesh_verdict S outer grid culling entry ≡ v → Within MESH v
        → mesh.outcome r exit ≡ meshed_by v S (fresh_mesh S outer grid culling) entry → MeshSays S outer grid culling entry r exit
    go (Ok quads) fine t w e =
        record { accepted = t; counted = ap (λ (o : Outcome). o.answer.quads) e; laid = ap (λ (o : Outcome). o.lists) e }
    go (Err r) fine t w e = absurd (not_zero r.why (ap (λ (o : Outcome). o.answer.number) e))
    go (Ok quads) (refuse n p) t w e = unlisted refl w (ap (λ (o : Outcome). o.answer.number) e)
    go (Err r) (refuse n p) t w e =
        (refuses t w (ap (λ (o : Outcome). o.answer.number) e) (ap (λ (o : Outcome). o.answer.place) e), ap (λ (o : Outcome). o.lists) e)

-- ---- an update

-- 01's course of the log, by the side tested, laid out in the lent lists; `full` is the entry that found no room
pub record Ran (tested : Tested) (S : Scene) (log : List ℕ) (entry : Lists) (Q : ℕ) (full : Option ℕ) (count : Count) (exit : Lists) : Type 0 where
  pub accepted : update_verdict S log entry Q ≡ fine
  pub ended : (course tested S log entry Q).full ≡ full
  pub quads : count.quads ≡ length (course tested S log entry Q).quads
  pub moved : count.moved ≡ (course tested S log entry Q).moved
  pub laid : let c = course tested S log entry Q in exit ≡ layout (faces S) S.types.coloured c.highest c.quads entry

-- out of room at entry k, the first without: the call for the entries before it alone, k of them, answers Done with the same count and the same lists
pub record Stopped (tested : Tested) (S : Scene) (log : List ℕ) (entry : Lists) (Q k : ℕ) (count : Count) (exit : Lists) : Type 0 where
  pub ran : Ran tested S log entry Q (some k) count exit
  pub first : FirstWithout tested S log entry Q k (needed_at tested S log entry Q k)
  pub before : Updates tested S (first_of k log) entry Q (Ok count) exit

-- a refusal counts nothing and changes nothing; NO_ROOM alone, 14, tells what the entries before it did, and keeps them
pub record Turned (tested : Tested) (S : Scene) (log : List ℕ) (entry : Lists) (Q number place : ℕ) (count : Count) (exit : Lists) : Type 0 where
  pub refused : number ≢ 14 → Refuses UPDATE_FIRST (update_verdict S log entry Q) number place
  pub kept : number ≢ 14 → exit ≡ entry
  pub uncounted : number ≢ 14 → count ≡ record { quads = 0; moved = 0 }
  pub stopped : number ≡ 14 → Stopped tested S log entry Q place count exit

abbrev pub UpdateSays : Tested → Scene → List ℕ → Lists → ℕ → Updated → Lists → Type 0
UpdateSays tested S log entry Q (Ok count) exit = Ran tested S log entry Q none count exit
UpdateSays tested S log entry Q (Err s) exit = Turned tested S log entry Q (number_of s.refused.why) s.refused.place s.count exit

pub what_an_update_call_says : (tested : Tested) (S : Scene) (log : List ℕ) (entry : Lists) (Q : ℕ) (r : Updated) (exit : Lists)
    → Updates tested S log entry Q r exit → UpdateSays tested S log entry Q r exit
what_an_update_call_says tested S log entry Q r exit e =
    go r (update_verdict S log entry Q) refl (update_numbers S log entry Q) e
  where
    c : Course
    c = course tested S log entry Q

    ran : (count : Count) (full : Option ℕ) → update_verdict S log entry Q ≡ fine → c.full ≡ full
        → count.quads ≡ length c.quads → count.moved ≡ c.moved
        → exit ≡ layout (faces S) S.types.coloured c.highest c.quads entry → Ran tested S log entry Q full count exit
    ran count full a f q m l = record { accepted = a; ended = f; quads = q; moved = m; laid = l }

    through : (r : Updated) → update_verdict S log entry Q ≡ fine → (full : Option ℕ) → c.full ≡ full
        → outcome_of r exit ≡ record { answer = course_answer c full; lists = layout (faces S) S.types.coloured c.highest c.quads entry }
        → UpdateSays tested S log entry Q r exit
    through (Ok count) t none f e =
        ran count none t f (ap (λ (o : Outcome). o.answer.quads) e) (ap (λ (o : Outcome). o.answer.moved) e) (ap (λ (o : Outcome). o.lists) e)
    through (Err s) t none f e = absurd (not_zero s.refused.why (ap (λ (o : Outcome). o.answer.number) e))
    through (Ok count) t (some k) f e = let z = ap (λ (o : Outcome). o.answer.number) e in absurd (omega arith)
    through (Err s) t (some i) f e =
        let k = s.refused.place in
        let n = ap (λ (o : Outcome). o.answer.number) e in
        let p = f ∙ ap some (sym (ap (λ (o : Outcome). o.answer.place) e)) in
        record {
          refused = λ d. absurd (d n);
          kept = λ d. absurd (d n);
          uncounted = λ d. absurd (d n);
          stopped = λ _. record {
            ran = ran s.count (some k) t p (ap (λ (o : Outcome). o.answer.quads) e) (ap (λ (o : Outcome). o.answer.moved) e)
                (ap (λ (o : Outcome). o.lists) e);
            first = first_without tested S log entry Q k p;
            before = (λ i. record { answer = record { number = 0; place = 0; quads = (e i).answer.quads; moved = (e i).answer.moved }; lists = (e i).lists })
                ∙ sym (done_before tested S log entry Q k t p);
          };
        }

    go : (r : Updated) (v : rules.Verdict) → update_verdict S log entry Q ≡ v → Within UPDATE_FIRST v
        → outcome_of r exit ≡ update_by v S c entry → UpdateSays tested S log entry Q r exit
    go r fine t w e = through r t c.full refl e
    go (Ok count) (refuse n p) t w e = unlisted refl w (ap (λ (o : Outcome). o.answer.number) e)
    go (Err s) (refuse n p) t w e =
        let number = ap (λ (o : Outcome). o.answer.number) e in
        record {
          refused = λ d. refuses t w number (ap (λ (o : Outcome). o.answer.place) e);
          kept = λ d. ap (λ (o : Outcome). o.lists) e;
          uncounted = λ d. λ i. record { quads = (e i).answer.quads; moved = (e i).answer.moved };
          stopped = λ z. unlisted refl w (sym z ∙ number);
        }

-- ---- the check

abbrev pub CheckSays : Scene → List ℕ → List ℕ → Lists → ℕ → Verdict → Type 0
CheckSays S outer grid B Q (Ok u) = check_verdict S outer grid B Q ≡ fine
CheckSays S outer grid B Q (Err r) = Refuses CHECK (check_verdict S outer grid B Q) (number_of r.why) r.place

pub what_a_check_call_says : (S : Scene) (outer grid : List ℕ) (B : Lists) (Q : ℕ) (r : Verdict)
    → Checks S outer grid B Q r → CheckSays S outer grid B Q r
what_a_check_call_says S outer grid B Q (Ok u) e = sym e
what_a_check_call_says S outer grid B Q (Err r) e =
    refuses (sym e) (subst (Within CHECK) (sym e) (check_numbers S outer grid B Q)) refl refl

-- ---- a refusal changes nothing

pub a_refused_cube_changes_nothing : (shape : Shape) (entry : List ℕ) (r : Verdict) (exit : List ℕ) → r ≢ Fine → Cubes shape entry r exit
    → exit ≡ entry
a_refused_cube_changes_nothing shape entry (Ok u) exit d e = absurd (d refl)
a_refused_cube_changes_nothing shape entry (Err r) exit d e = (what_a_cube_call_says shape entry (Err r) exit e).1

pub a_refused_mesh_changes_nothing : (S : Scene) (outer grid : List ℕ) (culling : Bool) (entry : Lists) (why : Refusal) (place : ℕ) (exit : Lists)
    → Meshes S outer grid culling entry (Err (refused_for why place)) exit → exit ≡ entry
a_refused_mesh_changes_nothing S outer grid culling entry why place exit e =
    (what_a_mesh_call_says S outer grid culling entry (Err (refused_for why place)) exit e).1

pub a_refused_update_changes_nothing : (tested : Tested) (S : Scene) (log : List ℕ) (entry : Lists) (Q : ℕ) (why : Refusal) (place : ℕ) (count : Count)
    (exit : Lists) → number_of why ≢ 14 → Updates tested S log entry Q (Err (stopped_for why place count)) exit → exit ≡ entry
a_refused_update_changes_nothing tested S log entry Q why place count exit d e =
    (what_an_update_call_says tested S log entry Q (Err (stopped_for why place count)) exit e).kept d

-- the one exception
pub out_of_room_keeps_the_entries_before : (tested : Tested) (S : Scene) (log : List ℕ) (entry : Lists) (Q k : ℕ) (count : Count) (exit : Lists)
    → Updates tested S log entry Q (Err (stopped_for NoRoom k count)) exit → Updates tested S (first_of k log) entry Q (Ok count) exit
out_of_room_keeps_the_entries_before tested S log entry Q k count exit e =
    ((what_an_update_call_says tested S log entry Q (Err (stopped_for NoRoom k count)) exit e).stopped refl).before

-- ---- and nothing is refused without cause

pub a_cube_is_made_if_nothing_refuses : (shape : Shape) (entry : List ℕ) (r : Verdict) (exit : List ℕ) → cube_verdict shape entry ≡ fine
    → Cubes shape entry r exit → r ≡ Fine
a_cube_is_made_if_nothing_refuses shape entry (Ok u) exit v e = refl
a_cube_is_made_if_nothing_refuses shape entry (Err r) exit v e =
    fine_not_refused (sym v ∙ (what_a_cube_call_says shape entry (Err r) exit e).0.told)

pub a_mesh_is_made_if_nothing_refuses : (S : Scene) (outer grid : List ℕ) (culling : Bool) (entry : Lists) (r : Meshed) (exit : Lists)
    → mesh_verdict S outer grid culling entry ≡ fine → Meshes S outer grid culling entry r exit
    → r ≡ Ok (length (fresh_mesh S outer grid culling))
a_mesh_is_made_if_nothing_refuses S outer grid culling entry (Ok quads) exit v e =
    ap Ok (what_a_mesh_call_says S outer grid culling entry (Ok quads) exit e).counted
a_mesh_is_made_if_nothing_refuses S outer grid culling entry (Err r) exit v e =
    fine_not_refused (sym v ∙ (what_a_mesh_call_says S outer grid culling entry (Err r) exit e).0.told)

-- an update of a log that is accepted is done, unless an entry finds no room
pub an_update_is_done_if_nothing_refuses : (tested : Tested) (S : Scene) (log : List ℕ) (entry : Lists) (Q : ℕ) (r : Updated) (exit : Lists)
    → update_verdict S log entry Q ≡ fine → (course tested S log entry Q).full ≡ none → Updates tested S log entry Q r exit
    → (count : Count) × (r ≡ Ok count)
an_update_is_done_if_nothing_refuses tested S log entry Q (Ok count) exit v f e = (count, refl)
an_update_is_done_if_nothing_refuses tested S log entry Q (Err s) exit v f e =
    absurd (not_zero s.refused.why (ap (λ (o : Outcome). o.answer.number) e ∙ rw (v, f)))

pub a_mesh_passes_if_nothing_refuses : (S : Scene) (outer grid : List ℕ) (B : Lists) (Q : ℕ) (r : Verdict) → check_verdict S outer grid B Q ≡ fine
    → Checks S outer grid B Q r → r ≡ Fine
a_mesh_passes_if_nothing_refuses S outer grid B Q (Ok u) v e = refl
a_mesh_passes_if_nothing_refuses S outer grid B Q (Err r) v e =
    fine_not_refused (sym v ∙ (what_a_check_call_says S outer grid B Q (Err r) e).told)
