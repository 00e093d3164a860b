-- What an entry draws are cubes of the registry, on faces of the grid. Assumes nothing.
use mathlib.Core.Path.{◌≡◌, sym, subst}
use mathlib.Core.Logic.{⊎_elim}
use mathlib.Core.Bool.{true}
use mathlib.Core.List.{List, [], ◌∷◌}
use Prim.Native.Nat.{ℕ, zero, suc, ◌*◌, ◌/◌, ◌%◌, ◌<◌}
use native.Mathlib.Omega.{arith}
use lib.Dec.{T, eqb}
use lib.Ieee.Fits.{and_l}
use lib.ListN.{length, get_or, get_or-eq_default}
use borrow.Author.Tests.{eqb-true}
use Rattle.rules.specs.Lists.{every}
use Rattle.rules.specs.Cells.{has}
use Rattle.rules.specs.Floats.{finite}
use Rattle.rules.specs.Types.{floats, cube_of, is_cube, position_of}
use Rattle.rules.specs.Update.{Entry, given_at}
use Rattle.rules.specs.Calls.{Scene, span, faces}
use Rattle.rules.proofs.ListLaws.{All}
use Rattle.mesh_metadata.proofs.Slots.{order}
use Rattle.types.proofs.Known.{placed}
use Rattle.voxel_mesh.proofs.Shapes.{row_within}
use Rattle.lent.specs.Scenes.{Typed}
use Rattle.steps.specs.Steps.{Deed, show, hide, quad_by, ops_of, Able}
use Rattle.steps.specs.Rows.{words_by, Shaped, Drawn}
use Rattle.works.specs.declared.Work.{Work}
use Rattle.works.specs.Sets.{set_in, packed, key_met, cutting, type_drawn, deed_by, deeds, CubesDrawn}
use Rattle.rules.proofs.Courses.{Good}
use Rattle.works.proofs.Works.{all_deeds}

-- only a type is a cube
cube_listed : (kinds : List ℕ) (t : ℕ) → eqb (get_or kinds t 0) 1 ≡ true → t < length kinds
cube_listed kinds t e =
    ⊎_elim (λ l. l) (λ l. absurd (omega (arith, get_or-eq_default kinds 0 l, eqb-true (get_or kinds t 0) 1 e))) (order t (length kinds))

module _ (S : Scene) (k : Typed S) where
  shaped : (t : ℕ) → eqb (get_or S.types.kinds t 0) 1 ≡ true → Shaped S t
  unfolding is_cube
  shaped t e =
      let l = cube_listed S.types.kinds t e in
      let w = k.counted.whole in
      let r = row_within (24 * floats S.types) t (length S.types.kinds) l in
      record {
        whole = omega arith;
        placed = placed (cube_of S.types t) (floats S.types)
            (and_l (every 72 (λ k. finite (position_of (cube_of S.types t) (floats S.types) (k / 3) (k % 3)))) _
            (subst T (sym (k.cube t l (eqb-true (get_or S.types.kinds t 0) 1 e))) tt));
        finite = k.d;
      }

  -- LAW: deeds that fit, of cubes, can be drawn
  pub deeds_able : (keys : List ℕ) (e : Entry) (v : Work) → ((j : ℕ) → set_in v j < 64) → CubesDrawn S.types.kinds e v → All (Good (faces S) (span S)) (ops_of (quad_by (words_by S)) (deeds keys e (packed v))) → All (Able (Drawn S)) (deeds keys e (packed v))
  deeds_able keys e v few c good = both (deeds keys e (packed v)) good (all_deeds keys e (Able (λ k t. Shaped S t)) v few made)
    where
      made : (j f : ℕ) → j < 4 → f < 6 → has (set_in v j) f ≡ true → Able (λ k t. Shaped S t) (deed_by (cutting j) (type_drawn e j f) (key_met keys j f))
      made zero f _ l on = tt
      made (suc zero) f _ l on = shaped (given_at e f) (c.shown f l on)
      made (suc (suc zero)) f _ l on = shaped e.type (c.drawn f l on)
      made (suc (suc (suc zero))) f _ l on = tt
      made (suc (suc (suc (suc j)))) f b l on = absurd (omega arith)

      both : (ds : List Deed) → All (Good (faces S) (span S)) (ops_of (quad_by (words_by S)) ds) → All (Able (λ k t. Shaped S t)) ds → All (Able (Drawn S)) ds
      both [] g a = tt
      both (show k t ∷ ds) g a = ((omega (arith, g.0.0), a.0), both ds g.1 a.1)
      both (hide k ∷ ds) g a = (tt, both ds g.1 a.1)
