-- The whole outcome of a call, case by case. Assumes nothing.
use mathlib.Core.Path.{◌≡◌, sym}
use mathlib.Core.Bool.{Bool}
use mathlib.Core.List.{List}
use Prim.Native.Nat.{ℕ}
use lib.ListN.{length}
use Rattle.std.specs.Prelude.{Result, Ok, Err}
use Rattle.std.specs.Result.{IsErrAnd}
use Rattle.rules.specs.Mesh.{Lists, layout}
use Rattle.rules.specs.Answers.{Verdict, fine, refuse, ◌then◌}
use Rattle.rules.specs.Calls.{Scene, faces, fresh_mesh, mesh_grid, mesh_verdict}
use Rattle.answers.specs.declared.Refused.{Refused}
use Rattle.answers.specs.Verdicts.{number_of, verdict_of}
use Rattle.meshem.specs.Outcome.{outcome}

-- a test that refuses
pub stopped : (x : Result Unit Refused) {e : Refused} (a b : Verdict) → x ≡ Err e → verdict_of x ≡ a → refuse (number_of e.why) e.place ≡ (a then b)
unfolding ◌then◌
stopped x a b was k = rw (sym k, was)

module _ (S : Scene) (outer g : List ℕ) (culling : Bool) (B : Lists) where
  -- what a `?` gives out is what it met
  pub refused_so : (r : Result ℕ Refused) (e : Refused) → IsErrAnd r (λ y. y ≡ e) → refuse (number_of e.why) e.place ≡ mesh_verdict S outer g culling B → outcome r B ≡ mesh_grid S outer g culling B
  refused_so (Ok quads) e out k = absurd out
  refused_so (Err d) e out k = rw (out, sym k)

  pub done : {Q : ℕ} {after : Lists} → fine ≡ mesh_verdict S outer g culling B → Q ≡ length (fresh_mesh S outer g culling)
      → after ≡ layout (faces S) S.types.coloured (length (fresh_mesh S outer g culling)) (fresh_mesh S outer g culling) B
      → outcome (Ok Q) after ≡ mesh_grid S outer g culling B
  done e q l = rw (sym e, q, l)
