-- Demand 2 of fresh meshes: what they hold. Demand 3, "every culled fresh mesh passes for its own outer list". Assumes nothing.
use Rattle.std.specs.Prelude.{Ok}
use Prim.Native.Nat.{ℕ}
use mathlib.Core.Path.{◌≡◌, sym, ap, ◌∙◌, subst}
use mathlib.Core.Bool.{Bool, true, false, cond}
use mathlib.Core.List.{List}
use Rattle.rules.specs.Mesh.{Lists, drawn, all_sides, decode}
use Rattle.rules.specs.Check.{Holds}
use Rattle.rules.specs.Answers.{fine}
use Rattle.rules.specs.Calls.{Scene, Outcome, answered, world, lent_verdict, check_mesh}
use Rattle.rules.proofs.Demands.{fresh_holds, fresh_lent, fresh_accepted}
use Rattle.demands.specs.Promised.{Meshes, Checks, Verdict, Fine}
use Rattle.demands.proofs.Answers.{what_a_mesh_call_says}
use Rattle.demands.proofs.OneOutcome.{one_check}
use Rattle.demands.proofs.Exact.{fine_is_zero}

holds : (S : Scene) (outer grid : List ℕ) (culling : Bool) (B exit : Lists) (quads : ℕ) → Meshes S outer grid culling B (Ok quads) exit
    → Holds (world S) (cond culling (drawn (world S) outer grid) (all_sides (world S) grid)) grid (decode S.types.coloured quads exit)
holds S outer grid culling B exit quads made =
    let m = what_a_mesh_call_says S outer grid culling B (Ok quads) exit made in
    subst (Holds (world S) (cond culling (drawn (world S) outer grid) (all_sides (world S) grid)) grid)
    (λ i. decode S.types.coloured (sym m.counted i) (sym m.laid i)) (fresh_holds S outer grid culling B m.accepted)

-- a fresh mesh holds exactly the sides that its algorithm draws, once each, in order, with their words: by Culling those that show
pub a_culled_mesh_holds_what_shows : (S : Scene) (outer grid : List ℕ) (B exit : Lists) (quads : ℕ) → Meshes S outer grid true B (Ok quads) exit
    → Holds (world S) (drawn (world S) outer grid) grid (decode S.types.coloured quads exit)
a_culled_mesh_holds_what_shows S outer grid B exit quads = holds S outer grid true B exit quads

-- by Naive all six of each NormalCube
pub a_naive_mesh_holds_all_sides : (S : Scene) (outer grid : List ℕ) (B exit : Lists) (quads : ℕ) → Meshes S outer grid false B (Ok quads) exit
    → Holds (world S) (all_sides (world S) grid) grid (decode S.types.coloured quads exit)
a_naive_mesh_holds_all_sides S outer grid B exit quads = holds S outer grid false B exit quads

-- a fresh mesh of either algorithm passes 9 to 12: another call can be lent it
pub a_fresh_mesh_is_taken : (S : Scene) (outer grid : List ℕ) (culling : Bool) (B exit : Lists) (quads : ℕ) → Meshes S outer grid culling B (Ok quads) exit
    → lent_verdict S exit quads ≡ fine
a_fresh_mesh_is_taken S outer grid culling B exit quads made =
    let m = what_a_mesh_call_says S outer grid culling B (Ok quads) exit made in
    (λ i. lent_verdict S (m.laid i) (m.counted i)) ∙ fresh_lent S outer grid culling B m.accepted

-- the check says Fine
pub fresh_is_fine : (S : Scene) (outer grid : List ℕ) (B exit : Lists) (quads : ℕ) → Meshes S outer grid true B (Ok quads) exit
    → Checks S outer grid exit quads Fine
fresh_is_fine S outer grid B exit quads made =
    (fine_is_zero S outer grid exit quads).1
    (subst (λ (o : Outcome). check_mesh S outer grid o.lists o.answer.quads ≡ answered 0 0) (sym made)
    (fresh_accepted S outer grid B (sym (ap (λ (o : Outcome). o.answer.number) made))))

pub a_fresh_mesh_passes : (S : Scene) (outer grid : List ℕ) (B exit : Lists) (quads : ℕ) (r : Verdict)
    → Meshes S outer grid true B (Ok quads) exit → Checks S outer grid exit quads r → r ≡ Fine
a_fresh_mesh_passes S outer grid B exit quads r made checked =
    one_check S outer grid exit quads r Fine checked (fresh_is_fine S outer grid B exit quads made)
