-- The calls one after the other: what the contracts of each give together. Assumes nothing.
use Prim.Native.Nat.{ℕ}
use mathlib.Core.Path.{◌≡◌, refl, sym, ap, ◌∙◌, subst}
use mathlib.Core.Bool.{Bool, true, false, cond}
use mathlib.Core.List.{List, []}
use lib.Dec.{eqb}
use Rattle.std.specs.Prelude.{Result, Ok, Err}
use Rattle.std.specs.Result.{IsErrAnd}
use borrow.Author.Tests.{eqb-true}
use Rattle.rules.specs.Mesh.{Lists}
use Rattle.rules.specs.Update.{Tested, AddsAlike}
use Rattle.rules.specs.Answers.{Verdict, fine, refuse, ◌then◌}
use Rattle.rules.specs.Calls.{Answer, Outcome, Scene, world, entries_of, update_mesh, check_verdict}
use Rattle.answers.specs.declared.Refused.{Refused}
use Rattle.answers.specs.Verdicts.{number_of, verdict_of}
use Rattle.terms.specs.declared.Tested as code
use Rattle.terms.specs.Modes.{tested_by}
use Rattle.update.specs.Outcome.{answer_of}
use Rattle.demands.specs.Promised.{Meshes, Meshed, Updated}
use Rattle.demands.specs.Chunks.{ground_after, FillingLog, LogFor}
use Rattle.release.specs.Composed.{Ending, meshed_by, ends_with, only_after, verdict_by, checked_after, checked_on, make_ending, mend_promise, mend_ending}
use Rattle.demands.proofs.Telling.{numbered}
use Rattle.demands.proofs.Answers.{what_a_mesh_call_says}
use Rattle.demands.proofs.Fresh.{fresh_is_fine}
use Rattle.demands.proofs.Mending.{still_fine, asked}

-- what a call left, checked: its answer is told with its lists
pub checked : (S : Scene) (outer grid : List ℕ) {a : Answer} {exit : Lists} {u : Outcome} {v : Verdict} → v ≡ checked_after a S outer grid exit
    → record { answer = a; lists = exit } ≡ u → ends_with v exit ≡ checked_on S outer grid u
checked S outer grid {exit = exit} c e = (λ i. ends_with (c i) exit) ∙ ap (checked_on S outer grid) e

-- what a `?` gives out is what it met
pub refused_so : (r : Result Unit Refused) (e : Refused) → IsErrAnd r (λ y. y ≡ e) → verdict_of r ≡ refuse (number_of e.why) e.place
refused_so (Ok u) e out = absurd out
refused_so (Err d) e out = rw out

-- an update is checked by the answer that it leaves
pub left_refused : (x : Updated) (r : Result Unit Refused) {e : Refused} (S : Scene) (outer grid : List ℕ) (B : Lists) → meshed_by x ≡ Err e → IsErrAnd r (λ y. y ≡ e)
    → verdict_of r ≡ checked_after (answer_of x) S outer grid B
unfolding ◌then◌
left_refused (Ok count) r S outer grid B was out = cc
left_refused (Err s) r {e} S outer grid B was out =
    let same : s.refused ≡ e = cc in
    refused_so r e out ∙ rw (sym same, (numbered s.refused.why).1)

pub left_checked : (x : Updated) {Q : ℕ} {v : Verdict} (S : Scene) (outer grid : List ℕ) (B : Lists) → meshed_by x ≡ Ok Q → v ≡ check_verdict S outer grid B Q
    → v ≡ checked_after (answer_of x) S outer grid B
unfolding ◌then◌
left_checked (Ok count) {Q} S outer grid B was c = let same : count.quads ≡ Q = cc in c ∙ rw (sym same)
left_checked (Err s) S outer grid B was c = cc

-- ---- a mesh made and checked

pub made : (S : Scene) (outer grid : List ℕ) (B exit : Lists) (m : Meshed) (quads : ℕ) {v : Verdict} → m ≡ Ok quads → v ≡ check_verdict S outer grid exit quads
    → Meshes S outer grid true B m exit → ends_with v exit ≡ make_ending S outer grid B
made S outer grid B exit m quads was c meshes =
    let e = subst (λ (x : Meshed). Meshes S outer grid true B x exit) was meshes in
    let v = c ∙ sym (fresh_is_fine S outer grid B exit quads e) ∙ sym (what_a_mesh_call_says S outer grid true B (Ok quads) exit e).accepted in
    λ i. ends_with (v i) (e i).lists

pub unmade : (S : Scene) (outer grid : List ℕ) (B exit : Lists) (m : Meshed) (r : Result Unit Refused) (d : Refused) → m ≡ Err d → IsErrAnd r (λ y. y ≡ d)
    → Meshes S outer grid true B m exit → ends_with (verdict_of r) exit ≡ make_ending S outer grid B
unmade S outer grid B exit m r d was out meshes =
    let e = subst (λ (x : Meshed). Meshes S outer grid true B x exit) was meshes in
    let v = refused_so r d out ∙ sym (what_a_mesh_call_says S outer grid true B (Err d) exit e).0.told in
    λ i. ends_with (v i) (e i).lists

-- ---- a mesh mended and checked
module _ (tested : Tested) (S : Scene) (grid log left : List ℕ) (B : Lists) (Q : ℕ) where
  pub stopped : (x r : Result Unit Refused) {e : Refused} → x ≡ Err e → IsErrAnd r (λ y. y ≡ e) → verdict_of x ≡ check_verdict S [] grid B Q
      → ends_with (verdict_of r) B ≡ mend_ending tested S grid log left B Q
  unfolding ◌then◌
  stopped x r {e} was out k =
      (λ i. ends_with (refused_so r e out i) B)
      ∙ (λ i. only_after ((sym (ap verdict_of was) ∙ k) i) B (checked_on S [] left (update_mesh tested S log B Q)))

  pub mended : {o : Ending} → check_verdict S [] grid B Q ≡ fine → o ≡ checked_on S [] left (update_mesh tested S log B Q)
      → o ≡ mend_ending tested S grid log left B Q
  unfolding ◌then◌
  mended p e = e ∙ (λ i. only_after (sym p i) B (checked_on S [] left (update_mesh tested S log B Q)))

  -- LAW: after a log of demand 3 the second check refuses nothing
  pub second_check_idle : FillingLog S grid log → AddsAlike tested (world S) (entries_of log) → left ≡ ground_after S log grid
      → (mend_ending tested S grid log left B Q).verdict ≡ mend_promise tested S grid log B Q
  unfolding ◌then◌
  second_check_idle h al l = first (check_verdict S [] grid B Q) refl
    where
      u : Outcome
      u = update_mesh tested S log B Q

      again : Verdict
      again = check_verdict S [] left u.lists u.answer.quads

      second : (b : Bool) → eqb u.answer.number 0 ≡ b → check_verdict S [] grid B Q ≡ fine
          → (cond b fine (refuse u.answer.number u.answer.place) then again) ≡ cond b fine (refuse u.answer.number u.answer.place)
      second true t p =
          ap (λ (g : List ℕ). check_verdict S [] g u.lists u.answer.quads) l
          ∙ sym (still_fine tested S log grid B Q (sym p) h al (eqb-true u.answer.number 0 t))
      second false t p = refl

      first : (v : Verdict) → check_verdict S [] grid B Q ≡ v
          → (v then verdict_by u.answer then again) ≡ (v then verdict_by u.answer)
      first fine p = second (eqb u.answer.number 0) refl p
      first (refuse n k) p = refl

pub promised : (mode : code.Tested) (S : Scene) (grid log left : List ℕ) (B : Lists) (Q : ℕ) {o : Ending} → o ≡ mend_ending (tested_by mode) S grid log left B Q
    → (o ≡ mend_ending (tested_by mode) S grid log left B Q)
    × (LogFor mode S grid log → left ≡ ground_after S log grid → o.verdict ≡ mend_promise (tested_by mode) S grid log B Q)
promised mode S grid log left B Q e = (
  e,
  λ h l. let a = asked mode S grid log h in
      ap (λ (o : Ending). o.verdict) e ∙ second_check_idle (tested_by mode) S grid log left B Q a.0 a.1 l,
)
