-- `indexing::index_work` meets its contract: what is left to do on what is there is the whole work on what was there. Assumes nothing.
use mathlib.Core.Path.{◌≡◌, refl, sym, ap, ◌∙◌, subst}
use mathlib.Core.Bool.{Bool}
use mathlib.Core.List.{List, [], ◌∷◌}
use Prim.Native.Nat.{ℕ, ◌+◌, ◌-◌, ◌*◌, ◌/◌, ◌%◌, ◌<◌}
use native.Mathlib.Omega.{arith}
use lib.Bits.{and_le_r}
use lib.Count.{count_trailing_zeros}
use lib.ListN.{get_or}
use Rattle.rules.specs.Lists.{only}
use Rattle.face.proofs.Lowest.{Rest, rest_start, rest_none, rest_below, rest_from, rest_at, rest_skip, rest_next}
use Rattle.entries.specs.Log.{entry_in}
use Rattle.steps.specs.Steps.{Deed}
use Rattle.steps.proofs.Turning.{Turning, start, this, skip, turn, done}
use Rattle.rules.specs.Update.{Entry}
use Rattle.works.specs.Sets.{cutting, type_drawn, deed_by, deed_by_side, deed_at}
use Rattle.indexing.specs.Index.{Index, index_of, index_run, Ready}
use Rattle.indexing.proofs.Doing.{piecewise}
use Rattle.indexing.proofs.index_work.Goals as goal

-- what is left of the sides, where some are
module _ (keys : List ℕ) (e : Entry) {space sides : ℕ} {A B : Index} {f rest : ℕ} (t : Turning index_run (Ready space) 24 (deed_at keys e sides) f A B) (r : Rest 32 24 sides f rest) (some : rest ≡ 0 → ⊥) where
  -- the next of the 24
  abbrev low : ℕ
  low = count_trailing_zeros 32 rest

  below : low < 24
  below = rest_below r some refl

  -- one that is not to be done asks for nothing
  turned_to : Turning index_run (Ready space) 24 (deed_at keys e sides) low A B
  turned_to = skip t (rest_from r some refl) (omega (arith, below)) (λ k c d. ap (λ (on : Bool). only on (deed_by_side keys e k)) (rest_skip r some refl k c d))

  -- what is done there
  told : {cuts : Bool} {voxel at : ℕ} → cuts ≡ cutting (low / 6) → voxel ≡ type_drawn e (low / 6) (low % 6) → at ≡ 6 * (low / 6 % 2) + low % 6 → deed_by cuts voxel (get_or keys at 0) ∷ [] ≡ deed_at keys e sides low
  told c v a = (λ j. deed_by (c j) (v j) (get_or keys (a j) 0) ∷ []) ∙ ap (λ (on : Bool). only on (deed_by_side keys e low)) (sym (rest_at r some refl))

pub do_face-left-requires : goal.do_face-left-requires
do_face-left-requires c =
    let a = c.args in
    let l = c.loop-rest in
    let k = a.keys.now in
    let e = entry_in a.entry in
    let some = c.loop-rest-test.true in
    let n = sym l.invariant.5 in
    let d = sym (told k e l.invariant.1 l.invariant.2 some c.does_cut-cuts.ensures c.type_of-voxel.ensures c.key_place-at.ensures.0) in
    subst (λ (x : ℕ × List Deed). Ready x.0 x.1 (index_of l.links l.slots l.steps l.left)) (λ j. (n j, d j)) (this (turned_to k e l.invariant.1 l.invariant.2 some) (piecewise _) (below k e l.invariant.1 l.invariant.2 some))

pub loop-rest-smaller : goal.loop-rest-smaller
loop-rest-smaller c = let r = c.loop-rest.rest in let some = c.loop-rest-test.true in omega (arith, and_le_r r (r - 1))

pub loop-rest-preserved : goal.loop-rest-preserved
loop-rest-preserved c =
    let l = c.loop-rest in
    let k = c.args.keys.now in
    let e = entry_in c.args.entry in
    let some = c.loop-rest-test.true in
    let d = told k e l.invariant.1 l.invariant.2 some c.does_cut-cuts.ensures c.type_of-voxel.ensures c.key_place-at.ensures.0 in (
      low k e l.invariant.1 l.invariant.2 some + 1,
      turn (turned_to k e l.invariant.1 l.invariant.2 some) (piecewise _) (below k e l.invariant.1 l.invariant.2 some) (c.do_face-left.ensures ∙ ap (λ (ds : List Deed). index_run ds (index_of l.links l.slots l.steps l.left)) d),
      rest_next l.invariant.2 some refl,
      c.do_face-left.auto.links ∙ l.invariant.3,
      c.do_face-left.auto.slots ∙ l.invariant.4,
      c.do_face-left.auto.steps ∙ l.invariant.5,
    )

pub returns : goal.returns
returns c =
    let l = c.loop-rest in
    let t = l.invariant.1 in
    done (skip t t.below (omega arith) (λ k u v. ap (λ (on : Bool). only on (deed_by_side c.args.keys.now (entry_in c.args.entry) k)) (rest_none l.invariant.2 c.loop-rest-test.false k u v))) (λ s. refl) (omega arith)

pub loop-rest-init : goal.loop-rest-init
loop-rest-init c = (0, start c.requires.1, rest_start (omega arith) c.requires.0, refl, refl, refl)

pub key_place-at-requires : goal.key_place-at-requires
key_place-at-requires c = rest_below c.loop-rest.invariant.2 c.loop-rest-test.true refl

pub does_cut-cuts-requires : goal.does_cut-cuts-requires
does_cut-cuts-requires c = rest_below c.loop-rest.invariant.2 c.loop-rest-test.true refl
