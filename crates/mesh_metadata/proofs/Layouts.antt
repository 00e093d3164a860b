-- The links of a mesh and its slots, as they are laid out and as a draw leaves them. Assumes nothing.
use mathlib.Core.Path.{◌≡◌, refl, ◌∙◌}
use mathlib.Core.Logic.{inl, inr}
use mathlib.Core.Bool.{cond}
use mathlib.Core.List.{List, [], ◌∷◌, ◌++◌}
use Prim.Native.Nat.{ℕ, suc, ◌≤◌, ◌<◌, max}
use native.Mathlib.Omega.{arith}
use lib.ListN.{length, set}
use Rattle.rules.specs.Lists.{table}
use Rattle.rules.specs.Cells.{link_of, first_vertex}
use Rattle.rules.specs.Mesh.{Quad, there, place_of, NONE, laid, slot_of}
use Rattle.rules.specs.Update.{blank}
use Rattle.rules.proofs.ListLaws.{All, all_at, split, length-table, get_d_table, all_kept}
use Rattle.rules.proofs.Quads.{Once, placed}
use Rattle.rules.proofs.Laying.{Sized, Fits, key_at, link_inside, links_laid, links_at, keys_at, length-links}
use Rattle.vav.proofs.Laws.{put_one}
use Rattle.vav.proofs.Laid.{draw_laid}
use Rattle.mesh_metadata.specs.Index.{Named, Linked}
use Rattle.mesh_metadata.proofs.Meshes.{small, slot_there}

module _ (n s highest : ℕ) (m : List Quad) (old : List ℕ) (fits : All (Fits n s) m) where
  link_sized : Sized 1 (λ q x. link_of x.key ∷ []) m
  link_sized = all_kept (λ x f i. refl) m fits

  -- LAW: links and slots name each other
  pub linked : n ≤ 1073741823 → Once m → length m ≤ highest → highest ≤ length old
      → Linked (length m) (links_laid n s highest m old fits) (table n (slot_of m))
  linked hn o low room =
      let hk : n ≤ 3221225472 = omega arith in
      let fit : (i : ℕ) → i < length m → key_at m i < n = λ i l. (all_at (Fits n s) m i blank fits l).0 in
      let t : length (table n (slot_of m)) ≡ n = length-table (slot_of m) n in
      let key = keys_at n s highest m old fits hk in
      record {
        small = small n s m hn fits o;
        room = omega (arith, length-links n s highest m old fits low room);
        code = λ i l. rw (links_at n s highest m old fits i l)
            (link_inside (key_at m i) (suc (key_at m i)) (omega (arith, fit i l)) (omega arith)).0;
        slot = λ i l. rw (key i l, t) (fit i l);
        there = λ i l. rw (key i l) (get_d_table (slot_of m) n (key_at m i) 0 (fit i l) ∙ slot_there m i (key_at m i) o l refl);
        back = λ k l. rw (get_d_table (slot_of m) n k 0 (omega arith))
            (split (λ h. there k m ≡ h → Named (length m) (links_laid n s highest m old fits) k (cond h (first_vertex (place_of k m)) NONE)) (there k m)
            (λ h e. let p = placed k m e in inr (place_of k m, p.within, refl, key (place_of k m) p.within ∙ p.key))
            (λ h e. inl refl) refl);
      }

  -- LAW: a quad is drawn, of a face that is not there
  pub links_drawn : (x : Quad) → length m ≤ highest → highest ≤ length old → length m < length old
      → set (links_laid n s highest m old fits) (length m) (link_of x.key) ≡ laid 1 (λ q x. link_of x.key ∷ []) (max highest (suc (length m))) (m ++ (x ∷ [])) old
  links_drawn x low a room =
      put_one (length m) (link_of x.key) (links_laid n s highest m old fits) (omega (arith, length-links n s highest m old fits low a))
      ∙ draw_laid 1 (λ q x. link_of x.key ∷ []) highest old m x link_sized refl low (omega arith)
