-- The steps of deeds, replayed on one list that a mesh is laid out in: the list stays the layout of the quads. Over the words a quad. Assumes nothing.
use mathlib.Core.Path.{◌≡◌, refl, sym, ap, ◌∙◌, subst}
use mathlib.Core.List.{List, [], ◌∷◌, ◌++◌}
use Prim.Native.Nat.{ℕ, suc, ◌+◌, ◌-◌, ◌*◌, ◌≤◌, max}
use native.Mathlib.Nat.{mul-le-mul_left}
use native.Mathlib.Omega.{arith}
use lib.ListN.{length, length-append}
use Rattle.rules.specs.Mesh.{Quad, there, place_of, laid}
use Rattle.rules.specs.Update.{remove_at, remove, step, run, highest}
use Rattle.rules.proofs.ListLaws.{All, all_append, not_false}
use Rattle.rules.proofs.Acting.{Acts}
use Rattle.rules.proofs.Quads.{placed, length-remove_at}
use Rattle.rules.proofs.Laying.{Sized}
use Rattle.rules.proofs.Courses.{highest_ge, all_removed}
use Rattle.vav.proofs.Laid.{draw_laid, remove_laid}
use Rattle.steps.specs.Steps.{Step, gone, came, shelf, replayed, Can, quad_by, Deed, show, hide, op_of, ops_of, steps_of, Able}

-- ---- one list, over the words a quad
module _ (s : ℕ) (e : Quad → List ℕ) (words : ℕ → ℕ → List ℕ) (P : ℕ → ℕ → Type 0) (wide : (k t : ℕ) → P k t → length (e (quad_by words k t)) ≡ s)
    (R : ℕ) (old : List ℕ) (room : s * R ≤ length old) where
  abbrev quad : ℕ → ℕ → Quad
  quad = quad_by words

  abbrev row : ℕ → ℕ → List ℕ
  row k t = e (quad k t)

  -- on the layout of m, if the run on m₁ fits: a step, and those that follow, can be done, and leave the layout of its mesh
  abbrev Goes : List Deed → ℕ → List Quad → Step → List Quad → Type 0
  Goes ds h m x m₁ =
      let h₁ = highest (max h (length m₁)) (ops_of quad ds) m₁ in
      let m' = run (ops_of quad ds) m₁ in
      Acts (ops_of quad ds) m₁ → h₁ ≤ R → Can P R (x ∷ steps_of quad ds m₁) (length m)
      × (replayed s row (x ∷ steps_of quad ds m₁) (shelf (laid s (λ q x. e x) h m old) (length m)) ≡ shelf (laid s (λ q x. e x) h₁ m' old) (length m'))

  -- LAW: the steps of deeds that change something and fit the room, replayed on a list of s words a quad that a mesh is laid out in, leave the list of their mesh
  pub replay_run : (ds : List Deed) (m : List Quad) (h : ℕ) → Sized s (λ q x. e x) m → All (Able P) ds → length m ≤ h → Acts (ops_of (quad_by words) ds) m → highest h (ops_of (quad_by words) ds) m ≤ R
      → Can P R (steps_of (quad_by words) ds m) (length m)
      × (replayed s (λ k t. e (quad_by words k t)) (steps_of (quad_by words) ds m) (shelf (laid s (λ q x. e x) h m old) (length m))
      ≡ shelf (laid s (λ q x. e x) (highest h (ops_of (quad_by words) ds) m) (run (ops_of (quad_by words) ds) m) old) (length (run (ops_of (quad_by words) ds) m)))
  unfolding remove
  replay_run [] m h w a l acts fit = (tt, refl)
  replay_run (show k t ∷ ds) m h w a l acts fit =
      let m₁ : List Quad = m ++ (quad k t ∷ []) in
      let drawn : step (op_of quad (show k t)) m ≡ m₁ = rw (not_false (there k m) acts.0) in
      subst (Goes ds h m (came k t)) (sym drawn)
      (λ c f. let n : length m₁ ≡ length m + 1 = length-append m (quad k t ∷ []) in
      let below : suc (length m) ≤ R = (let g = highest_ge (ops_of quad ds) (max h (length m₁)) m₁ in omega arith) in
      let u : suc (length m) ≡ length m₁ = omega arith in
      let d = draw_laid s (λ q x. e x) h old m (quad k t) w (wide k t a.0) l (omega (arith, mul-le-mul_left s below))
      ∙ ap (λ (j : ℕ). laid s (λ q x. e x) (max h j) m₁ old) u in
      let r = replay_run ds m₁ (max h (length m₁)) (all_append (λ x. (i : ℕ) → length (e x) ≡ s) m (quad k t ∷ []) w (λ i. wide k t a.0, tt)) a.1 (omega arith) c f in
      ((below, a.0, subst (Can P R (steps_of quad ds m₁)) n r.0), (λ i. replayed s row (steps_of quad ds m₁) (shelf (d i) (sym n i))) ∙ r.1))
      acts.1 fit
  replay_run (hide k ∷ ds) m h w a l acts fit =
      let q = place_of k m in
      let m₁ = remove_at q m in
      let gone_now : step (op_of quad (hide k)) m ≡ m₁ = rw acts.0 in
      subst (Goes ds h m (gone q)) (sym gone_now)
      (λ c f. let below = (placed k m acts.0).within in
      let n : length m₁ ≡ length m - 1 = length-remove_at q m below in
      let z : max h (length m₁) ≡ h = omega arith in
      let r = replay_run ds m₁ h (all_removed (λ x. (i : ℕ) → length (e x) ≡ s) q m below w) a.1 (omega arith) c (rw z at f) in
      rw z ((below, subst (Can P R (steps_of quad ds m₁)) n r.0), (λ i. replayed s row (steps_of quad ds m₁) (shelf (remove_laid s e h old m q w below l i) (sym n i))) ∙ r.1))
      acts.1 fit
