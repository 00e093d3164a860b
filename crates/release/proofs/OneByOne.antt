-- A call for each entry of a log: the loop over them, and that a mesh which passed still passes. Assumes nothing.
use Prim.Native.Nat.{ℕ, zero, suc, ◌+◌, ◌-◌, ◌*◌, ◌/◌, ◌≤◌, ◌<◌}
use mathlib.Core.Path.{◌≡◌, refl, sym, ap, ◌∙◌, subst}
use mathlib.Core.Bool.{true, cond}
use mathlib.Core.List.{List, [], ◌∷◌}
use native.Mathlib.Nat.{sub-zero}
use native.Mathlib.Omega.{arith}
use lib.Dec.{eqb}
use lib.ListN.{length, take, drop, take-append-drop, length-drop}
use lib.Seq.{length-take-le}
use borrow.Author.Tests.{eqb-true}
use Rattle.rules.specs.Lists.{each}
use Rattle.rules.specs.Mesh.{Lists}
use Rattle.rules.specs.Update.{ENTRY_BYTES, Entry, entry_at, Tested, grid_log, Honest, Mends, AddsAlike, grid_after as gridStep}
use Rattle.rules.specs.Answers.{Verdict, ◌then◌}
use Rattle.rules.specs.Calls.{Outcome, Scene, world, entries_of, update_mesh, check_verdict}
use Rattle.rules.proofs.ListLaws.{split}
use Rattle.answers.specs.declared.Refused.{Refused}
use Rattle.answers.specs.Verdicts.{verdict_of}
use Rattle.std.specs.Prelude.{Result, Ok, Err}
use Rattle.std.specs.Result.{IsErrAnd}
use Rattle.terms.specs.declared.Tested as code
use Rattle.terms.specs.Modes.{tested_by}
use Rattle.update.specs.Outcome.{outcome_of}
use Rattle.demands.specs.Promised.{Meshes, Updates, Checks, Meshed, Updated, Fine}
use Rattle.demands.specs.Chunks.{ground_after, LogFor}
use Rattle.release.specs.OneByOne.{Progress, through, halted, went_of, onward, entry_log, calls, verdict_on, passed_on, ends_on, chain, chain_promise, chain_ending}
use Rattle.release.specs.Composed.{Ending, meshed_by, ends_with, only_after}
use Rattle.release.proofs.Composed.{refused_so}
use Rattle.demands.proofs.Telling.{numbered}
use Rattle.demands.proofs.Stopped.{entry_stays, entry_dropped}
use Rattle.demands.proofs.Answers.{what_a_mesh_call_says}
use Rattle.demands.proofs.Fresh.{fresh_is_fine}
use Rattle.demands.proofs.Mending.{still_fine, asked}

-- the check of what the calls left
pub passed : (S : Scene) (left : List ℕ) (went : Meshed) {Q : ℕ} (exit : Lists) {v : Verdict} {k : Progress} → went ≡ Ok Q → v ≡ check_verdict S [] left exit Q
    → went_of went exit ≡ k → ends_with v exit ≡ ends_on S left k
passed S left went exit was c e = (λ i. ends_with (c i) exit) ∙ (λ i. ends_on S left (went_of (sym was i) exit)) ∙ ap (ends_on S left) e

pub halts : (S : Scene) (left : List ℕ) (went : Meshed) (r : Result Unit Refused) (d : Refused) (exit : Lists) {k : Progress} → went ≡ Err d → IsErrAnd r (λ y. y ≡ d)
    → went_of went exit ≡ k → ends_with (verdict_of r) exit ≡ ends_on S left k
halts S left went r d exit was out e = (λ i. ends_with (refused_so r d out i) exit) ∙ (λ i. ends_on S left (went_of (sym was i) exit)) ∙ ap (ends_on S left) e

-- k calls are done: what is left on what is there is the whole on what was there
pub record Calling (tested : Tested) (S : Scene) (log : List ℕ) (n : ℕ) (B₀ : Lists) (Q₀ k : ℕ) (B : Lists) (Q : ℕ) : Type 0 where
  pub left : calls tested S log k (n - k) B Q ≡ calls tested S log 0 n B₀ Q₀

-- after a call that was answered, the rest; after one that was refused, nothing
onward_of : (x : Updated) (exit : Lists) (rest : Lists → ℕ → Progress) {P : ℕ} → meshed_by x ≡ Ok P → rest exit P ≡ onward (outcome_of x exit) rest
onward_of (Ok count) exit rest {P} was = let same : count.quads ≡ P = cc in rw (sym same)
onward_of (Err s) exit rest was = cc

halted_of : (x : Updated) (r : Meshed) (exit : Lists) (rest : Lists → ℕ → Progress) {d : Refused} → meshed_by x ≡ Err d → IsErrAnd r (λ y. y ≡ d)
    → went_of r exit ≡ onward (outcome_of x exit) rest
halted_of (Ok count) r exit rest was out = cc
halted_of (Err s) (Ok quads) exit rest was out = absurd out
halted_of (Err s) (Err e) exit rest {d} was out = let same : s.refused ≡ d = cc in rw (out, sym same, (numbered s.refused.why).1)

module _ (tested : Tested) (S : Scene) (log : List ℕ) (n : ℕ) (B₀ : Lists) (Q₀ : ℕ) where
  pub starts : Calling tested S log n B₀ Q₀ 0 B₀ Q₀
  starts = record { left = rw sub-zero }

  abbrev rest : ℕ → Lists → ℕ → Progress
  rest k = calls tested S log (k + 1) (n - (k + 1))

  one_call_lem : (k : ℕ) (B : Lists) (Q : ℕ) → k < n → calls tested S log k (n - k) B Q ≡ onward (update_mesh tested S (entry_log log k) B Q) (rest k)
  unfolding calls
  one_call_lem k B Q h =
      let e : n - k ≡ suc (n - (k + 1)) = omega arith in
      let f : suc k ≡ k + 1 = omega arith in
      rw e (ap (λ (j : ℕ). onward (update_mesh tested S (entry_log log k) B Q) (calls tested S log j (n - (k + 1)))) f)

  pub goes_on : (k : ℕ) (B : Lists) (Q : ℕ) (exit : Lists) (x : Updated) {P : ℕ} → k < n → Calling tested S log n B₀ Q₀ k B Q
      → Updates tested S (entry_log log k) B Q x exit → meshed_by x ≡ Ok P → Calling tested S log n B₀ Q₀ (k + 1) exit P
  goes_on k B Q exit x {P} h c e was =
      record { left = onward_of x exit (rest k) was ∙ (λ i. onward (e i) (rest k)) ∙ sym (one_call_lem k B Q h) ∙ c.left }

  pub refuses : (k : ℕ) (B : Lists) (Q : ℕ) (exit : Lists) (x : Updated) (r : Meshed) {d : Refused} → k < n → Calling tested S log n B₀ Q₀ k B Q
      → Updates tested S (entry_log log k) B Q x exit → meshed_by x ≡ Err d → IsErrAnd r (λ y. y ≡ d) → went_of r exit ≡ calls tested S log 0 n B₀ Q₀
  refuses k B Q exit x r h c e was out =
      halted_of x r exit (rest k) was out ∙ (λ i. onward (e i) (rest k)) ∙ sym (one_call_lem k B Q h) ∙ c.left

  pub ends : (k : ℕ) (B : Lists) (Q : ℕ) → n ≤ k → Calling tested S log n B₀ Q₀ k B Q → through B Q ≡ calls tested S log 0 n B₀ Q₀
  unfolding calls
  ends k B Q h c = let z : n - k ≡ 0 = omega arith in (rw z) ∙ c.left

-- ---- the log of one entry
module _ (log : List ℕ) (i : ℕ) (inside : i < length log / ENTRY_BYTES) where
  entry_alone : entry_at (entry_log log i) 0 ≡ entry_at log i
  entry_alone =
      sym (entry_stays 1 (take ENTRY_BYTES (drop (ENTRY_BYTES * i) log)) (drop ENTRY_BYTES (drop (ENTRY_BYTES * i) log)) sixteen 0 (omega arith))
      ∙ ap (λ (l : List ℕ). entry_at l 0) (take-append-drop ENTRY_BYTES (drop (ENTRY_BYTES * i) log)) ∙ entry_dropped i log 0 ∙ ap (entry_at log) this
    where
      this : i + 0 ≡ i
      this = omega arith

      sixteen : length (take ENTRY_BYTES (drop (ENTRY_BYTES * i) log)) ≡ ENTRY_BYTES
      sixteen = length-take-le ENTRY_BYTES (drop (ENTRY_BYTES * i) log) (rw length-drop (omega arith))

  pub one_entry : entries_of (entry_log log i) ≡ entry_at log i ∷ []
  unfolding each
  one_entry =
      let n : length (entry_log log i) / ENTRY_BYTES ≡ 1 = omega (arith, length-take-le ENTRY_BYTES (drop (ENTRY_BYTES * i) log) (rw length-drop (omega arith))) in
      rw n (ap (λ (e : Entry). e ∷ []) entry_alone)

-- ---- a mesh that passed still passes

-- where the calls come through, the check says Fine of what they left
abbrev pub PassesOn : Scene → List ℕ → Progress → Type 0
PassesOn S grid (through B Q) = Checks S [] grid B Q Fine
PassesOn S grid (halted number place B) = Unit {0}

calls_pass : (tested : Tested) (S : Scene) (log : List ℕ) (n i : ℕ) (grid : List ℕ) (B : Lists) (Q : ℕ) → i + n ≤ length log / ENTRY_BYTES → Checks S [] grid B Q Fine
    → Honest (world S) grid (each n i (λ j. entry_at log j ∷ [])) → Mends (world S) grid (each n i (λ j. entry_at log j ∷ []))
    → AddsAlike tested (world S) (each n i (λ j. entry_at log j ∷ []))
    → PassesOn S (grid_log (world S) (each n i (λ j. entry_at log j ∷ [])) grid) (calls tested S log i n B Q)
unfolding each calls
calls_pass tested S log zero i grid B Q h p ho me al = p
calls_pass tested S log (suc n) i grid B Q h p ho me al =
    split (λ b. eqb u.answer.number 0 ≡ b
    → PassesOn S last (cond b (calls tested S log (suc i) n u.lists u.answer.quads) (halted u.answer.number u.answer.place u.lists)))
    (eqb u.answer.number 0)
    (λ x t. calls_pass tested S log n (suc i) next u.lists u.answer.quads (omega arith) (mended t) ho.2 me.1 al.1)
    (λ x t. tt) refl
  where
    u : Outcome
    u = update_mesh tested S (entry_log log i) B Q

    next : List ℕ
    next = gridStep (world S) grid (entry_at log i)

    last : List ℕ
    last = grid_log (world S) (each n (suc i) (λ j. entry_at log j ∷ [])) next

    alone : entries_of (entry_log log i) ≡ entry_at log i ∷ []
    alone = one_entry log i (omega arith)

    mended : eqb u.answer.number 0 ≡ true → Checks S [] next u.lists u.answer.quads Fine
    mended t =
        subst (λ (g : List ℕ). Checks S [] g u.lists u.answer.quads Fine) (ap (λ (es : List Entry). grid_log (world S) es grid) alone)
        (still_fine tested S (entry_log log i) grid B Q p
        (record {
          honest = subst (Honest (world S) grid) (sym alone) (ho.0, ho.1, tt);
          mends = subst (Mends (world S) grid) (sym alone) (me.0, tt);
        })
        (subst (AddsAlike tested (world S)) (sym alone) (al.0, tt)) (eqb-true u.answer.number 0 t))

-- LAW: after a call for each entry of a log of demand 3, each of them answered, the check says Fine for the grid that the log left
pub one_by_one : (mode : code.Tested) (S : Scene) (log grid : List ℕ) (B : Lists) (Q : ℕ) → Checks S [] grid B Q Fine → LogFor mode S grid log
    → PassesOn S (ground_after S log grid) (calls (tested_by mode) S log 0 (length log / ENTRY_BYTES) B Q)
one_by_one mode S log grid B Q p h =
    let a = asked mode S grid log h in
    calls_pass (tested_by mode) S log (length log / ENTRY_BYTES) 0 grid B Q (omega arith) p a.0.honest a.0.mends a.1

-- ---- a mesh made, mended by a call for each entry, and checked
module _ (mode : code.Tested) (S : Scene) (grid log left : List ℕ) (B : Lists) where
  idle_on : (c : Progress) → PassesOn S left c → passed_on S left c ≡ verdict_on c
  idle_on (through C Q) p = sym p
  idle_on (halted number place C) p = refl

  pub chained : (exit : Lists) (m : Meshed) (quads : ℕ) {o : Ending} → m ≡ Ok quads → Meshes S [] grid true B m exit
      → o ≡ ends_on S left (calls (tested_by mode) S log 0 (length log / ENTRY_BYTES) exit quads)
      → (o ≡ chain_ending (tested_by mode) S grid log left B)
      × (LogFor mode S grid log → left ≡ ground_after S log grid → o.verdict ≡ chain_promise (tested_by mode) S grid log B)
  unfolding ◌then◌
  chained exit m quads was meshes c =
      let e = subst (λ (x : Meshed). Meshes S [] grid true B x exit) was meshes in
      let done : Outcome → Progress = λ o. calls (tested_by mode) S log 0 (length log / ENTRY_BYTES) o.lists o.answer.quads in
      let accepted = sym (what_a_mesh_call_says S [] grid true B (Ok quads) exit e).accepted in (
        c ∙ (λ i. only_after (accepted i) (e i).lists (ends_on S left (done (e i)))),
        λ h l. ap (λ (o : Ending). o.verdict) c
            ∙ idle_on (calls (tested_by mode) S log 0 (length log / ENTRY_BYTES) exit quads)
            (subst (λ (g : List ℕ). PassesOn S g (calls (tested_by mode) S log 0 (length log / ENTRY_BYTES) exit quads)) (sym l)
            (one_by_one mode S log grid exit quads (fresh_is_fine S [] grid B exit quads e) h))
            ∙ (λ i. accepted i then verdict_on (done (e i))),
      )

  pub unmade : (exit : Lists) (m : Meshed) (r : Result Unit Refused) (d : Refused) → m ≡ Err d → IsErrAnd r (λ y. y ≡ d) → Meshes S [] grid true B m exit
      → (ends_with (verdict_of r) exit ≡ chain_ending (tested_by mode) S grid log left B)
      × (LogFor mode S grid log → left ≡ ground_after S log grid → verdict_of r ≡ chain_promise (tested_by mode) S grid log B)
  unfolding ◌then◌
  unmade exit m r d was out meshes =
      let e = subst (λ (x : Meshed). Meshes S [] grid true B x exit) was meshes in
      let v = refused_so r d out in
      let t = sym (what_a_mesh_call_says S [] grid true B (Err d) exit e).0.told in (
        (λ i. ends_with (v i) exit) ∙ (λ i. only_after (t i) (e i).lists (ends_on S left (chain (tested_by mode) S grid log B))),
        λ h l. v ∙ (λ i. t i then verdict_on (chain (tested_by mode) S grid log B)),
      )
