-- The index of a mesh through deeds: it stays the index of the quads, and the steps are those of the run. Assumes nothing.
use mathlib.Core.Path.{◌≡◌, refl, sym, ap, ◌∙◌, subst}
use mathlib.Core.Bool.{true, false, cond, not}
use mathlib.Core.List.{List, [], ◌∷◌, ◌++◌, append-nil, append_assoc}
use Prim.Native.Nat.{ℕ, suc, ◌+◌, ◌*◌, ◌/◌, ◌≤◌, ◌<◌, max}
use native.Mathlib.Omega.{arith}
use lib.Dec.{eqb}
use lib.ListN.{length, get_or, length-append}
use borrow.Author.Tests.{ne_eqb}
use Rattle.rules.specs.Lists.{table}
use Rattle.rules.specs.Cells.{link_of, first_vertex}
use Rattle.rules.specs.Mesh.{Quad, NONE, there, place_of, laid, slot_of}
use Rattle.rules.specs.Update.{blank, remove_at, remove, moved_by, step, run, moved_in, moves, highest}
use Rattle.rules.proofs.ListLaws.{All, all_at, all_kept, split, not_false, get_d_table}
use Rattle.rules.proofs.Quads.{placed, length-remove_at}
use Rattle.rules.proofs.Laying.{Fits}
use Rattle.rules.proofs.Acting.{acts, Acts}
use Rattle.rules.proofs.Courses.{Sane, Good, sane_one, highest_ge}
use Rattle.vav.proofs.Laid.{remove_laid}
use Rattle.mesh_metadata.proofs.Meshes as meshes
use Rattle.mesh_metadata.proofs.Layouts as layouts
use Rattle.steps.specs.Steps.{Step, gone, came, Deed, show, hide, quad_by, op_of, ops_of, step_of, steps_of}
use Rattle.indexing.specs.Index.{gone_at, came_at, index_one, index_run, book_of, Ground}

module _ (G : Ground) where
  abbrev quad : ℕ → ℕ → Quad
  quad = quad_by G.words

  module _ (m : List Quad) (h : ℕ) (k : Sane G.faces G.span G.room m h) where
    small : first_vertex (length m) < NONE
    small = meshes.small G.faces G.span m G.small k.fits k.once

    pub slot_none : (j : ℕ) → j < G.faces → eqb (get_or (table G.faces (slot_of m)) j NONE) NONE ≡ not (there j m)
    slot_none j l =
        rw (get_d_table (slot_of m) G.faces j NONE l)
        (split (λ t. there j m ≡ t → eqb (cond t (first_vertex (place_of j m)) NONE) NONE ≡ not t) (there j m)
        (λ a e. let w = (placed j m e).within in let z = small in ne_eqb (first_vertex (place_of j m)) NONE (λ y. omega arith)) (λ a e. refl) refl)

    pub slot_place : (j : ℕ) → j < G.faces → there j m ≡ true → get_or (table G.faces (slot_of m)) j NONE ≡ 4 * place_of j m
    slot_place j l e = get_d_table (slot_of m) G.faces j NONE l ∙ rw e

    pub there_inside : (j : ℕ) → there j m ≡ true → j < G.faces
    there_inside j e = let p = placed j m e in subst (λ (i : ℕ). i < G.faces) p.key (all_at (Fits G.faces G.span) m (place_of j m) blank k.fits p.within).0

    gone_booked : (q v : ℕ) (xs : List Step) → q < length m
        → gone_at q (book_of G.faces h m G.old v xs) ≡ book_of G.faces (max h (length (remove_at q m))) (remove_at q m) G.old (v + moved_by (length m) q) (xs ++ (gone q ∷ []))
    unfolding gone_at
    gone_booked q v xs l =
        let c = length-remove_at q m l in
        let r = k.reached in
        let t : h ≡ max h (length (remove_at q m)) = omega arith in
        let a = remove_laid 1 (λ x. link_of x.key ∷ []) h G.old m q (all_kept (λ x f i. refl) m k.fits) l r
        ∙ ap (λ (j : ℕ). laid 1 (λ q x. link_of x.key ∷ []) j (remove_at q m) G.old) t in
        let b = meshes.slots_removed m k.once q l small G.faces in
        λ i. record { links = a i; slots = b i; quads = sym c i; moved = v + moved_by (length m) q; top = t i; steps = xs ++ (gone q ∷ []) }

    came_booked : (j t v : ℕ) (xs : List Step) → j < G.faces → length (G.words j t) ≡ G.span → there j m ≡ false → length m < G.room
        → came_at j t (book_of G.faces h m G.old v xs) ≡ book_of G.faces (max h (length (m ++ (quad j t ∷ [])))) (m ++ (quad j t ∷ [])) G.old v (xs ++ (came j t ∷ []))
    unfolding came_at
    came_booked j t v xs l w new fit =
        let c : length (m ++ (quad j t ∷ [])) ≡ suc (length m) = length-append m (quad j t ∷ []) ∙ omega arith in
        let d : length m + 1 ≡ length (m ++ (quad j t ∷ [])) = omega arith in
        let u = k.within in
        let long = G.long in
        let a = layouts.links_drawn G.faces G.span h m G.old k.fits (quad j t) k.reached (omega arith) (omega arith)
        ∙ ap (λ (y : ℕ). laid 1 (λ q x. link_of x.key ∷ []) (max h y) (m ++ (quad j t ∷ [])) G.old) (sym c) in
        let b = meshes.slots_drawn m k.once (quad j t) new G.faces l in
        λ i. record { links = a i; slots = b i; quads = d i; moved = v; top = max h (d i); steps = xs ++ (came j t ∷ []) }

  -- LAW: a deed that changes something, on the index, is the index of the deed done, and adds its step
  pub one_booked : (d : Deed) (m : List Quad) (h v : ℕ) (xs : List Step) → Good G.faces G.span (op_of quad d) → acts (op_of quad d) m ≡ true → Sane G.faces G.span G.room m h → length (step (op_of quad d) m) ≤ G.room
      → index_one d (book_of G.faces h m G.old v xs)
      ≡ book_of G.faces (max h (length (step (op_of quad d) m))) (step (op_of quad d) m) G.old (v + moved_in (op_of quad d) m) (xs ++ (step_of d m ∷ []))
  unfolding remove
  one_booked (show j t) m h v xs f a k fit =
      let new = not_false (there j m) a in
      let fits : length (m ++ (quad j t ∷ [])) ≤ G.room = (rw new at fit) in
      let z : v ≡ v + 0 = omega arith in
      rw new (came_booked m h k j t v xs f.0 f.1 new (omega (arith, length-append m (quad j t ∷ [])))
      ∙ ap (λ (u : ℕ). book_of G.faces (max h (length (m ++ (quad j t ∷ [])))) (m ++ (quad j t ∷ [])) G.old u (xs ++ (came j t ∷ []))) z)
  one_booked (hide j) m h v xs f a k fit =
      let q : 4 * place_of j m / 4 ≡ place_of j m = omega arith in rw (slot_place m h k j (there_inside m h k j a) a, q, a) (gone_booked m h k (place_of j m) v xs (placed j m a).within)

  pub length-steps : (ds : List Deed) (m : List Quad) → length (steps_of quad ds m) ≡ length ds
  length-steps [] m = refl
  length-steps (d ∷ ds) m = ap suc (length-steps ds (step (op_of quad d) m))

  -- LAW: a run on the index is the index of the run on the quads, with the run's steps
  pub run_booked : (ds : List Deed) (m : List Quad) (h v : ℕ) (xs : List Step) → All (Good G.faces G.span) (ops_of quad ds) → Acts (ops_of quad ds) m → Sane G.faces G.span G.room m h → highest h (ops_of quad ds) m ≤ G.room
      → index_run ds (book_of G.faces h m G.old v xs)
      ≡ book_of G.faces (highest h (ops_of quad ds) m) (run (ops_of quad ds) m) G.old (v + moves (ops_of quad ds) m) (xs ++ steps_of quad ds m)
  run_booked [] m h v xs g a k fit = let z : v ≡ v + 0 = omega arith in let x = sym (append-nil xs) in λ i. book_of G.faces h m G.old (z i) (x i)
  run_booked (d ∷ ds) m h v xs g a k fit =
      let o = op_of quad d in
      let b = highest_ge (ops_of quad ds) (max h (length (step o m))) (step o m) in
      let z : v + moved_in o m + moves (ops_of quad ds) (step o m) ≡ v + (moved_in o m + moves (ops_of quad ds) (step o m)) = omega arith in
      let x = append_assoc xs (step_of d m ∷ []) (steps_of quad ds (step o m)) in
      ap (index_run ds) (one_booked d m h v xs g.0 a.0 k (omega arith))
      ∙ run_booked ds (step o m) (max h (length (step o m))) (v + moved_in o m) (xs ++ (step_of d m ∷ [])) g.1 a.1 (sane_one G.faces G.span G.room o m h g.0 k (omega arith)) fit
      ∙ (λ i. book_of G.faces (highest (max h (length (step o m))) (ops_of quad ds) (step o m)) (run (ops_of quad ds) (step o m)) G.old (z i) (x i))
