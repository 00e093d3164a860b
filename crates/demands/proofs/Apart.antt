-- 02, Q-8: a call on lists that are the parts of one list of vertices answers what it answered on that list, and leaves the parts of what it left there, the
-- places to spare too. Of the Rattle calls, and of the C calls. Assumes nothing.
use Prim.Native.Nat.{ℕ}
use mathlib.Core.Path.{◌≡◌, ap, ◌∙◌}
use mathlib.Core.Bool.{Bool}
use mathlib.Core.List.{List}
use Rattle.rules.specs.Mesh.{Lists}
use Rattle.rules.specs.Update.{Tested}
use Rattle.rules.specs.Calls.{Answer, Scene, check_by}
use Rattle.rules.specs.Together.{Together, mesh_together, update_together, check_together, apart, outcome_apart}
use Rattle.rules.proofs.Apart.{mesh_apart, update_apart, check_apart}
use Rattle.answers.specs.Verdicts.{verdict_of}
use Rattle.meshem.specs.Outcome as mesh
use Rattle.update.specs.Outcome.{outcome_of}
use Rattle.telling.specs.Numbers.{tested_from, answer, outcome}
use Rattle.demands.specs.Promised.{Meshes, Updates, Checks, TellsMesh, TellsUpdate, TellsCheck, Verdict, Meshed, Updated}

module _ (S : Scene) (spare : List ℕ) (B : Together) where
  pub a_mesh_is_what_it_was : (outer grid : List ℕ) (culling : Bool) (r : Meshed) (exit : Lists) → Meshes S outer grid culling (apart S spare B) r exit
      → mesh.outcome r exit ≡ outcome_apart S spare (mesh_together S outer grid culling B)
  a_mesh_is_what_it_was outer grid culling r exit made = made ∙ mesh_apart S spare B outer grid culling

  pub an_update_is_what_it_was : (tested : Tested) (log : List ℕ) (Q : ℕ) (r : Updated) (exit : Lists) → Updates tested S log (apart S spare B) Q r exit
      → outcome_of r exit ≡ outcome_apart S spare (update_together tested S log B Q)
  an_update_is_what_it_was tested log Q r exit mended = mended ∙ update_apart S spare B tested log Q

  pub a_check_is_what_it_was : (outer grid : List ℕ) (Q : ℕ) (r : Verdict) → Checks S outer grid (apart S spare B) Q r
      → check_by (verdict_of r) ≡ check_together S outer grid B Q
  a_check_is_what_it_was outer grid Q r checked = ap check_by checked ∙ check_apart S spare B outer grid Q

  pub a_c_mesh_is_what_it_was : (outer grid : List ℕ) (culling : Bool) (a : Answer) (exit : Lists) → TellsMesh S outer grid culling (apart S spare B) a exit
      → outcome a exit ≡ outcome_apart S spare (mesh_together S outer grid culling B)
  a_c_mesh_is_what_it_was outer grid culling a exit told = told ∙ mesh_apart S spare B outer grid culling

  pub a_c_update_is_what_it_was : (tested : ℕ) (log : List ℕ) (Q : ℕ) (a : Answer) (exit : Lists) → TellsUpdate tested S log (apart S spare B) Q a exit
      → outcome a exit ≡ outcome_apart S spare (update_together (tested_from tested) S log B Q)
  a_c_update_is_what_it_was tested log Q a exit told = told ∙ update_apart S spare B (tested_from tested) log Q

  pub a_c_check_is_what_it_was : (outer grid : List ℕ) (Q number place : ℕ) → TellsCheck S outer grid (apart S spare B) Q number place
      → answer number place 0 0 ≡ check_together S outer grid B Q
  a_c_check_is_what_it_was outer grid Q number place told = told ∙ check_apart S spare B outer grid Q
