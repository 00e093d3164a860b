-- A fresh mesh goes by cell, then face: its keys ascend. Assumes nothing.
use mathlib.Core.Bool.{Bool, true, false}
use mathlib.Core.List.{List, [], ◌∷◌, ◌++◌}
use Prim.Native.Nat.{ℕ, zero, suc, ◌+◌, ◌*◌, ◌≤◌, ◌<◌}
use native.Mathlib.Omega.{arith}
use lib.ListN.{length, get_or}
use Rattle.rules.specs.Lists.{each, only}
use Rattle.rules.specs.Cells.{cells, key_of}
use Rattle.rules.specs.Mesh.{Quad, World, quad_at, quads_by, mesh_by}
use Rattle.rules.specs.Update.{blank}
use Rattle.rules.proofs.ListLaws.{All, all_append, all_at, all_each, all_only, all_kept}

-- keys within [low, high)
abbrev Between : ℕ → ℕ → Quad → Type 0
Between low high q = (low ≤ q.key) × (q.key < high)

abbrev Ascends : List Quad → Type 0
Ascends [] = Unit {0}
Ascends (q ∷ m) = All (λ r. q.key < r.key) m × Ascends m

ascends_append : (low mid high : ℕ) (a b : List Quad) → Ascends a → Ascends b → All (Between low mid) a → All (Between mid high) b → Ascends (a ++ b)
ascends_append low mid high [] b x y v w = y
ascends_append low mid high (q ∷ a) b x y v w = (
  all_append (λ r. q.key < r.key) a b x.0 (all_kept (λ r k. let u = v.0.1 in let t = k.0 in omega arith) b w),
  ascends_append low mid high a b x.1 y v.1 w,
)

-- pieces that ascend, each above those before it
module _ (edge : ℕ → ℕ) (rises : (i j : ℕ) → i ≤ j → edge i ≤ edge j) (p : ℕ → List Quad) where
  between_each : (n i : ℕ) → ((k : ℕ) → All (Between (edge k) (edge (suc k))) (p k)) → All (Between (edge i) (edge (i + n))) (each n i p)
  between_each n i v =
      all_each (Between (edge i) (edge (i + n))) n i p
      (λ k a b. all_kept (λ q h. let x = rises i k a in let y = rises (suc k) (i + n) b in (omega (arith, h.0), omega (arith, h.1))) (p k) (v k))

  ascends_each : (n i : ℕ) → ((k : ℕ) → All (Between (edge k) (edge (suc k))) (p k)) → ((k : ℕ) → Ascends (p k)) → Ascends (each n i p)
  unfolding each
  ascends_each zero i v x = tt
  ascends_each (suc n) i v x =
      ascends_append (edge i) (edge (suc i)) (edge (suc i + n)) (p i) (each n (suc i) p) (x i) (ascends_each n (suc i) v x) (v i) (between_each n (suc i) v)

ascends_only : (b : Bool) (q : Quad) → Ascends (only b q)
ascends_only true q = (tt, tt)
ascends_only false q = tt

ascends_at : (m : List Quad) → Ascends m → (p q : ℕ) → p < q → q < length m → (get_or m p blank).key < (get_or m q blank).key
ascends_at [] v p q l h = absurd (omega arith)
ascends_at (x ∷ m) v p zero l h = absurd (omega arith)
ascends_at (x ∷ m) v zero (suc q) l h = all_at (λ r. x.key < r.key) m q blank v.0 (omega arith)
ascends_at (x ∷ m) v (suc p) (suc q) l h = ascends_at m v.1 p q (omega arith) (omega arith)

module _ (W : World) (test : ℕ → ℕ → Bool) (g : List ℕ) where
  side : ℕ → ℕ → List Quad
  side c f = only (test c f) (quad_at W g c f)

  side_between : (c f : ℕ) → All (Between (key_of c f) (key_of c (suc f))) (only (test c f) (quad_at W g c f))
  side_between c f = all_only (Between (key_of c f) (key_of c (suc f))) (test c f) (quad_at W g c f) (omega arith, omega arith)

  cell_between : (c : ℕ) → All (Between (6 * c) (6 * suc c)) (quads_by W test g c)
  cell_between c =
      all_kept (λ q h. (omega (arith, h.0), omega (arith, h.1))) (quads_by W test g c)
      (between_each (key_of c) (λ i j l. omega arith) (λ f. only (test c f) (quad_at W g c f)) 6 0 (side_between c))

  cell_ascends : (c : ℕ) → Ascends (quads_by W test g c)
  cell_ascends c =
      ascends_each (key_of c) (λ i j l. omega arith) (λ f. only (test c f) (quad_at W g c f)) 6 0 (side_between c)
      (λ f. ascends_only (test c f) (quad_at W g c f))

  -- LAW: quads of a fresh mesh stand in the order of their cells, then faces
  pub fresh_order : (p q : ℕ) → p < q → q < length (mesh_by W test g) → (get_or (mesh_by W test g) p blank).key < (get_or (mesh_by W test g) q blank).key
  unfolding mesh_by
  fresh_order = ascends_at (mesh_by W test g) (ascends_each (λ c. 6 * c) (λ i j l. omega arith) (quads_by W test g) (cells W.size) 0 cell_between cell_ascends)
