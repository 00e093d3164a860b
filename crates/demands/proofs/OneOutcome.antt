-- Demands 1 and 2 leave "a single possible outcome": two answers, with the lent lists at exit, that meet a call's contract
-- for the same input are the same. Assumes nothing.
use Prim.Native.Nat.{ℕ}
use mathlib.Core.Path.{◌≡◌, sym, ap, ◌∙◌}
use mathlib.Core.Bool.{Bool}
use mathlib.Core.List.{List}
use Rattle.rules.specs.Cube.{Shape}
use Rattle.rules.specs.Mesh.{Lists}
use Rattle.rules.specs.Update.{Tested}
use Rattle.rules.specs.Calls.{CubeOutcome, Outcome, Scene}
use Rattle.demands.specs.Promised.{Cubes, Meshes, Updates, Checks, Verdict, Meshed, Updated}
use Rattle.demands.proofs.Telling.{read_cube, cube_reads, read_mesh, mesh_reads, read_update, update_reads, read_verdict, verdict_reads}

pub one_cube : (shape : Shape) (room : List ℕ) (a b : Verdict) (x y : List ℕ) → Cubes shape room a x → Cubes shape room b y → (a ≡ b) × (x ≡ y)
one_cube shape room a b x y p q =
    let e = p ∙ sym q in (sym (cube_reads a x) ∙ ap read_cube e ∙ cube_reads b y, ap (λ (o : CubeOutcome). o.out) e)

pub one_mesh : (S : Scene) (outer grid : List ℕ) (culling : Bool) (B : Lists) (a b : Meshed) (x y : Lists)
    → Meshes S outer grid culling B a x → Meshes S outer grid culling B b y → (a ≡ b) × (x ≡ y)
one_mesh S outer grid culling B a b x y p q =
    let e = p ∙ sym q in (sym (mesh_reads a x) ∙ ap read_mesh e ∙ mesh_reads b y, ap (λ (o : Outcome). o.lists) e)

pub one_update : (tested : Tested) (S : Scene) (log : List ℕ) (B : Lists) (Q : ℕ) (a b : Updated) (x y : Lists)
    → Updates tested S log B Q a x → Updates tested S log B Q b y → (a ≡ b) × (x ≡ y)
one_update tested S log B Q a b x y p q =
    let e = p ∙ sym q in (sym (update_reads a x) ∙ ap read_update e ∙ update_reads b y, ap (λ (o : Outcome). o.lists) e)

pub one_check : (S : Scene) (outer grid : List ℕ) (B : Lists) (Q : ℕ) (a b : Verdict)
    → Checks S outer grid B Q a → Checks S outer grid B Q b → a ≡ b
one_check S outer grid B Q a b p q = sym (verdict_reads a) ∙ ap read_verdict (p ∙ sym q) ∙ verdict_reads b
