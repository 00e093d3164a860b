-- Demand 3, "an added check accepts a mesh and its index exactly when they are right": they hold each face that culling the grid shows, once, and no
-- other, with the right vertices and triangles, index and quads naming each other. So what passes for one grid shows the same. Assumes nothing.
use Prim.Native.Nat.{ℕ, ◌/◌, ◌%◌}
use mathlib.Core.Path.{◌≡◌, refl, sym, ap, ◌∙◌}
use mathlib.Core.Logic.{◌↔◌}
use mathlib.Core.List.{List}
use native.Mathlib.Omega.{arith}
use lib.ListN.{length}
use Rattle.rules.specs.Cells.{cells, key_of}
use Rattle.rules.specs.Mesh.{Quad, Lists, at, decode}
use Rattle.rules.specs.Answers.{fine}
use Rattle.rules.specs.Check.{Right}
use Rattle.rules.specs.Calls.{Answer, Scene, answered, world, open_verdict, check_verdict, check_by, check_mesh}
use Rattle.rules.proofs.Quads.{same_count}
use Rattle.rules.proofs.Mending.{due, Shows, shows_once}
use Rattle.rules.proofs.Checking.{then_fine, length-decode}
use Rattle.rules.proofs.Refusals.{CHECK, check_numbers, zero_fine}
use Rattle.rules.proofs.Demands.{accepts_exactly, passed}
use Rattle.answers.specs.Verdicts.{verdict_of}
use Rattle.demands.specs.Promised.{Checks, Verdict, Fine}
use Rattle.demands.specs.Chunks.{Chunk}
use Rattle.demands.specs.Crews.{SameFaces}
use Rattle.demands.proofs.OneOutcome.{one_check}

-- the check's contract with Fine is that the rules' answer is 0
pub fine_is_zero : (S : Scene) (outer grid : List ℕ) (B : Lists) (Q : ℕ) → Checks S outer grid B Q Fine ↔ (check_mesh S outer grid B Q ≡ answered 0 0)
fine_is_zero S outer grid B Q = (
  λ f. ap check_by (sym f),
  λ z. sym (zero_fine CHECK refl (check_verdict S outer grid B Q) (check_numbers S outer grid B Q) (ap (λ (a : Answer). a.number) z)),
)

-- scene, grid and room are what 01 asks for (2 to 4 and 6 to 10), and the mesh is right
pub the_check_is_exact : (S : Scene) (outer grid : List ℕ) (B : Lists) (Q : ℕ) (r : Verdict) → Checks S outer grid B Q r
    → (r ≡ Fine) ↔ ((open_verdict S outer grid B Q ≡ fine) × Right (world S) outer grid S.types.coloured B Q)
the_check_is_exact S outer grid B Q r e = (
  λ f. let passed = ap verdict_of (sym f) ∙ e in
      let opened = (then_fine (open_verdict S outer grid B Q) _ (sym passed)).0 in
      (opened, (accepts_exactly S outer grid B Q opened).0 ((fine_is_zero S outer grid B Q).0 passed)),
  λ h. one_check S outer grid B Q r Fine e ((fine_is_zero S outer grid B Q).1 ((accepts_exactly S outer grid B Q h.0).1 h.1)),
)

-- ---- what a mesh shows that passes is decided by scene, types, outer list and grid, however it was made
module _ (S : Scene) (outer : List ℕ) where
  abbrev mesh : Chunk → List Quad
  mesh k = decode S.types.coloured k.quads k.lists

  shows : (k : Chunk) → Checks S outer k.grid k.lists k.quads Fine → Shows (world S) outer k.grid (mesh k)
  shows k p = (passed S outer k.grid k.lists k.quads (sym p)).shows

  counted : (k : Chunk) → length (mesh k) ≡ k.quads
  counted k = length-decode (cells S.size) k.lists k.quads S.types.coloured

  pub one_grid_same_faces : (k l : Chunk) → Checks S outer k.grid k.lists k.quads Fine → Checks S outer l.grid l.lists l.quads Fine → k.grid ≡ l.grid
      → SameFaces S k l × (k.quads ≡ l.quads)
  unfolding Shows
  one_grid_same_faces k l p q ground = (same, sym (counted k) ∙ as_many ∙ counted l)
    where
      same : SameFaces S k l
      same c f hf = shows k p c f hf ∙ (λ i. due (world S) outer (ground i) c f) ∙ sym (shows l q c f hf)

      at_key : (key : ℕ) → at key (mesh k) ≡ at key (mesh l)
      at_key key = let e : key_of (key / 6) (key % 6) ≡ key = omega arith in rw (← e) (same (key / 6) (key % 6) (omega arith))

      as_many : length (mesh k) ≡ length (mesh l)
      as_many = same_count (mesh k) (mesh l) (shows_once (world S) outer k.grid (mesh k) (shows k p)) (shows_once (world S) outer l.grid (mesh l) (shows l q)) at_key
