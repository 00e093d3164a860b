-- The faces that side sets draw: their order, and their quads. Assumes nothing.
use mathlib.Core.Path.{◌≡◌, refl, sym, ap, ◌∙◌, subst}
use mathlib.Core.Bool.{Bool, true, false}
use mathlib.Core.List.{List, map}
use Prim.Native.Nat.{ℕ, zero, suc, ◌+◌, ◌*◌, ◌/◌, ◌%◌, ◌<◌}
use native.Mathlib.Omega.{arith}
use lib.ListN.{length, length-map}
use Rattle.rules.specs.Lists.{each, only}
use Rattle.rules.specs.Cells.{cells, key_of, has}
use Rattle.rules.specs.Mesh.{Quad, World, quad_at, quads_by, mesh_by}
use Rattle.rules.specs.Calls.{Scene, world, fresh_mesh}
use Rattle.rules.proofs.ListLaws.{each_same, map_each}
use Rattle.rules.proofs.Sets.{has-set_of}
use Rattle.drawing.proofs.Laid.{Rising, rising_append}
use Rattle.listing.specs.Fresh.{side_drawn, set_at, asked, cell_keys, keys_of}
use Rattle.listing.proofs.Keys.{length_keys}

-- ---- their order
rising_only : (b : Bool) (k : ℕ) → Rising k (suc k) (only b k)
rising_only true k = (omega arith, omega arith)
rising_only false k = omega arith

rising_each : (edge : ℕ → ℕ) (p : ℕ → List ℕ) → ((k : ℕ) → Rising (edge k) (edge (suc k)) (p k)) → (n i : ℕ) → Rising (edge i) (edge (i + n)) (each n i p)
unfolding each
rising_each edge p v zero i = let e : edge (i + 0) ≡ edge i = ap edge (omega arith) in omega arith
rising_each edge p v (suc n) i =
    let e : suc i + n ≡ i + suc n = omega arith in
    rising_append (edge i) (edge (suc i)) (edge (i + suc n)) (p i) (each n (suc i) p) (v i) (rw (← e) (rising_each edge p v n (suc i)))

rising_cell : (set c : ℕ) → Rising (6 * c) (6 * suc c) (cell_keys set c)
rising_cell set c =
    let a : key_of c 0 ≡ 6 * c = omega arith in
    let b : key_of c (0 + 6) ≡ 6 * suc c = omega arith in
    let r = rising_each (key_of c) (λ f. only (has set f) (key_of c f))
    (λ f. let e : key_of c (suc f) ≡ suc (key_of c f) = omega arith in rw e (rising_only (has set f) (key_of c f))) 6 0 in
    subst (λ (lo : ℕ). Rising lo (6 * suc c) (cell_keys set c)) a (subst (λ (hi : ℕ). Rising (key_of c 0) hi (cell_keys set c)) b r)

-- LAW: keys rise from cell to cell
pub rising_keys : (sets : ℕ → ℕ) (n c : ℕ) → Rising (6 * c) (6 * (c + n)) (keys_of sets c n)
unfolding keys_of
rising_keys sets n c = rising_each (λ k. 6 * k) (λ k. cell_keys (sets k) k) (λ k. rising_cell (sets k) k) n c

pub rising_first : (sets : ℕ → ℕ) (n : ℕ) → Rising 0 (6 * n) (keys_of sets 0 n)
rising_first sets n =
    let a : 6 * 0 ≡ 0 = omega arith in
    let b : 6 * (0 + n) ≡ 6 * n = omega arith in
    subst (λ (lo : ℕ). Rising lo (6 * n) (keys_of sets 0 n)) a (subst (λ (hi : ℕ). Rising (6 * 0) hi (keys_of sets 0 n)) b (rising_keys sets n 0))

-- ---- their quads
abbrev pub quad_on : World → List ℕ → ℕ → Quad
quad_on W g k = quad_at W g (k / 6) (k % 6)

map-only : (f : ℕ → Quad) (b : Bool) (k : ℕ) → map f (only b k) ≡ only b (f k)
map-only f true k = refl
map-only f false k = refl

quad_on_lem : (W : World) (g : List ℕ) (c f : ℕ) → f < 6 → quad_on W g (key_of c f) ≡ quad_at W g c f
quad_on_lem W g c f h =
    let a : key_of c f / 6 ≡ c = omega arith in
    let b : key_of c f % 6 ≡ f = omega arith in
    λ i. quad_at W g (a i) (b i)

-- both algorithms are one test
pub fresh_by : (S : Scene) (outer g : List ℕ) (culling : Bool) → fresh_mesh S outer g culling ≡ mesh_by (world S) (side_drawn culling (world S) outer g) g
fresh_by S outer g true = refl
fresh_by S outer g false = refl

module _ (S : Scene) (outer g : List ℕ) (culling : Bool) where
  abbrev test : ℕ → ℕ → Bool
  test = side_drawn culling (world S) outer g

  cell_quads : (c : ℕ) → map (quad_on (world S) g) (cell_keys (set_at culling (world S) outer g c) c) ≡ quads_by (world S) test g c
  unfolding set_at
  cell_quads c =
      map_each (quad_on (world S) g) 6 0 (λ f. only (has (set_at culling (world S) outer g c) f) (key_of c f))
      ∙ each_same 6 0 (λ f. map (quad_on (world S) g) (only (has (set_at culling (world S) outer g c) f) (key_of c f))) (λ f. only (test c f) (quad_at (world S) g c f))
      (λ f a b. map-only (quad_on (world S) g) (has (set_at culling (world S) outer g c) f) (key_of c f)
      ∙ ap (only (has (set_at culling (world S) outer g c) f)) (quad_on_lem (world S) g c f (omega arith))
      ∙ ap (λ (t : Bool). only t (quad_at (world S) g c f)) (has-set_of (test c) f (omega arith)))

  -- LAW: the faces that the side sets draw are those of the fresh mesh
  pub quads_of_keys : map (quad_on (world S) g) (keys_of (set_at culling (world S) outer g) 0 (cells S.size)) ≡ fresh_mesh S outer g culling
  unfolding keys_of mesh_by
  quads_of_keys =
      map_each (quad_on (world S) g) (cells S.size) 0 (λ k. cell_keys (set_at culling (world S) outer g k) k)
      ∙ each_same (cells S.size) 0 (λ k. map (quad_on (world S) g) (cell_keys (set_at culling (world S) outer g k) k)) (quads_by (world S) test g) (λ k a b. cell_quads k)
      ∙ sym (fresh_by S outer g culling)

  -- LAW: and as many
  pub asked_fresh : asked (set_at culling (world S) outer g) 0 (cells S.size) ≡ length (fresh_mesh S outer g culling)
  asked_fresh =
      sym (length_keys (set_at culling (world S) outer g) (cells S.size) 0)
      ∙ sym (length-map (keys_of (set_at culling (world S) outer g) 0 (cells S.size)) (quad_on (world S) g)) ∙ ap length quads_of_keys
