-- 02, Q-7: Replaced changes what Broken with the former type and then Added with the new one change, quad by quad. Assumes nothing.
use mathlib.Core.Path.{◌≡◌, refl, sym, ap, ◌∙◌}
use mathlib.Core.Bool.{Bool, true, false, cond, not}
use mathlib.Core.List.{List, [], ◌∷◌, ◌++◌, append_assoc, append-nil, map-append}
use Prim.Native.Nat.{ℕ, ◌<◌, ◌≤◌}
use native.Mathlib.Omega.{arith}
use lib.ListN.{length}
use Rattle.rules.specs.Lists.{only, is_nil}
use Rattle.rules.specs.Cells.{cells, key_of}
use Rattle.rules.specs.Mesh.{Quad, World, is_normal_cube, at, there}
use Rattle.rules.specs.Update.{Entry, given_at, Op, put, cut, run, Work, Tested, all, nothing, added, broken, added_if_cube, first_half, second_half, in_one, replaced, cuts, puts, ops}
use Rattle.rules.proofs.ListLaws.{All, all_each, all_only}
use Rattle.rules.proofs.Quads.{Once, run-append}
use Rattle.rules.proofs.Acting.{acting, acting_append, acting_same, after, idle_step}
use Rattle.rules.proofs.Views.{Sound, sides_own, at_work, own_apart, reveals_none}

-- removing faces that are not there
idle_cuts : (ks : List ℕ) (m : List Quad) → All (λ k. there k m ≡ false) ks → (acting (cuts ks) m ≡ []) × (run (cuts ks) m ≡ m)
idle_cuts [] m a = (refl, refl)
idle_cuts (k ∷ ks) m a = let s = (idle_step (cut k) m a.0).0 in let r = idle_cuts ks m a.1 in (rw (a.0, s) r.0, ap (run (cuts ks)) s ∙ r.1)

-- two works in one
module _ (gone come : Work) (none-facing : gone.facing ≡ []) (m : List Quad) where
  abbrev rest : List Op
  rest = puts come.new ++ cuts come.facing

  in_one_ops : ops (in_one gone come) ≡ ops gone ++ rest
  unfolding ops
  in_one_ops =
      rw none-facing
      (ap (λ (x : List Op). cuts gone.own ++ x) (ap (λ (x : List Op). x ++ cuts come.facing) (map-append put gone.new come.new)
      ∙ append_assoc (puts gone.new) (puts come.new) (cuts come.facing) ∙ ap (λ (x : List Op). x ++ rest) (sym (append-nil (puts gone.new))))
      ∙ sym (append_assoc (cuts gone.own) (puts gone.new ++ []) rest))

  pub in_one_acts : All (λ k. there k (run (ops gone) m) ≡ false) come.own → acting (ops (in_one gone come)) m ≡ acting (ops gone ++ ops come) m
  unfolding ops
  in_one_acts a =
      let i = idle_cuts come.own (run (ops gone) m) a in
      ap (λ (x : List Op). acting x m) in_one_ops ∙ acting_append (ops gone) rest m
      ∙ sym (acting_append (ops gone) (ops come) m ∙ ap (λ (x : List Op). acting (ops gone) m ++ x)
      (acting_append (cuts come.own) rest (run (ops gone) m) ∙ (λ j. i.0 j ++ acting rest (i.1 j))))

module _ (tested : Tested) (W : World) (s : Sound W) (e : Entry) (in_grid : e.cell < cells W.size) (m : List Quad) (once : Once m) where
  abbrev gone : Work
  gone = broken W (first_half e)

  abbrev come : Work
  come = added_if_cube tested W (second_half e)

  -- none of the cell's own quads is left by the first half
  none_left : (f : ℕ) → f < 6 → there (key_of e.cell f) (run (ops gone) m) ≡ false
  none_left f hf =
      let new = reveals_none W s e.cell in_grid e.cell f hf e.former (given_at e) (own_apart W s e.cell in_grid e.cell f hf refl) in
      let seen : at (key_of e.cell f) (run (ops gone) m) ≡ [] =
      at_work gone (key_of e.cell f) m (once (key_of e.cell f)) (rw new (omega arith)) ∙ rw (sides_own W e.type e.cell e.cell f hf all refl, new) in
      ap (λ (x : List (List ℕ)). not (is_nil x)) seen

  own_gone : (b : Bool) → All (λ k. there k (run (ops gone) m) ≡ false) (cond b (added tested W (second_half e)) nothing).own
  own_gone true =
      all_each (λ k. there k (run (ops gone) m) ≡ false) 6 0 (λ f. only (all f) (key_of e.cell f))
      (λ f _ l. all_only (λ k. there k (run (ops gone) m) ≡ false) (all f) (key_of e.cell f) (none_left f (omega arith)))
  own_gone false = tt

  pub second_idle : (acting (cuts come.own) (run (ops gone) m) ≡ []) × (run (cuts come.own) (run (ops gone) m) ≡ run (ops gone) m)
  second_idle = idle_cuts come.own (run (ops gone) m) (own_gone (is_normal_cube W e.type))

  -- LAW: Replaced changes what the pair changes, in the same order
  pub replaced_acts : acting (ops (replaced tested W e)) m ≡ acting (ops gone ++ ops come) m
  replaced_acts = in_one_acts gone come refl m (own_gone (is_normal_cube W e.type))

  -- LAW: so it leaves the quads that the pair leaves, as many move, and the highest count is the same
  pub replaced_after : (h : ℕ) → length m ≤ h → after h m (ops (replaced tested W e)) ≡ after h m (ops gone ++ ops come)
  replaced_after h l =
      sym (acting_same (ops (replaced tested W e)) h m l) ∙ ap (after h m) replaced_acts ∙ acting_same (ops gone ++ ops come) h m l

  pub replaced_run : run (ops (replaced tested W e)) m ≡ run (ops come) (run (ops gone) m)
  replaced_run = ap (λ (x : ℕ × ℕ × List Quad). x.2) (replaced_after (length m) (omega arith)) ∙ run-append (ops gone) (ops come) m
