-- `works::work_of` meets its contract: by whether something goes, and whether something is put. Assumes nothing.
use Rattle.std.proofs.Common.{rules}
use mathlib.Core.Path.{◌≡◌, refl, sym, ap, ◌∙◌}
use mathlib.Core.Bool.{Bool, cond, ◌&&◌, ◌||◌}
use Prim.Native.Nat.{ℕ}
use lib.ListN.{get_or}
use lib.Dec.{eqb}
use Rattle.rules.specs.Cells.{set_of, has}
use Rattle.rules.specs.Mesh.{World, is_normal_cube}
use Rattle.rules.specs.Update.{Change, Broken, Added, Sides, Replaced, Entry, Tested, all, is_open, to_hide, draws}
use Rattle.entries.specs.Log.{entry_in}
use Rattle.terms.specs.Modes.{tested_by}
use Rattle.works.specs.declared.Work.{Work}
use Rattle.works.specs.Sets.{types_by, sets, is_shown, shown_for, open_for, hidden_for, is_breaking, is_adding, meant_by, meant}
use Rattle.works.proofs.work_of.Goals as goal

module _ (tested : Tested) (W : World) (e : Entry) where
  -- the sets of Sides; those of a change by which something goes, or is put
  abbrev sided : Work
  sided = sets (set_of (to_hide e)) 0 (set_of (draws W e)) 0

  abbrev struck : Bool → Bool → Work
  struck goes put =
      let comes = put && is_normal_cube W e.type in
      sets (cond (goes || comes) 63 0) (cond goes (shown_for W e (cond (goes && put) e.former e.type)) 0) (open_for comes W e) (hidden_for comes tested W e)

  abbrev ruled : Bool → Bool → Work
  ruled goes put = cond (goes || put) (struck goes put) sided

  -- LAW: they are the change's
  by_change : (k : Change) → ruled (is_breaking k) (is_adding k) ≡ meant_by tested W e k
  by_change Broken = refl
  by_change Added = refl
  by_change Sides = refl
  by_change Replaced = refl

  -- what the rule says, once it is told whether something goes, or is put
  told : {goes put b : Bool} → goes ≡ is_breaking e.change → put ≡ is_adding e.change → (goes || put) ≡ b → cond b (struck goes put) sided ≡ meant tested W e
  told {goes} {put} g p h = sym (ap (λ (b : Bool). cond b (struck goes put) sided) h) ∙ (λ i. ruled (g i) (p i)) ∙ by_change e.change

pub returns-then-not-goes-put : goal.returns-then-not-goes-put
returns-then-not-goes-put c =
    let a = c.args in
    let e = entry_in a.entry in
    let W = types_by a.kinds.now a.covers.now in
    let hide = c.side_set.ensures (to_hide e) (λ face b h. search rules) in
    let draw = c.side_set-then-not-goes-put.ensures (draws W e) (λ face b h. search rules) in
    (λ i. sets (hide i) 0 (draw i) 0) ∙ told (tested_by a.tested) W e c.breaks-goes.ensures c.adds-put.ensures c.if-not-goes-put.true

pub returns : goal.returns
returns c =
    let a = c.args in
    let e = entry_in a.entry in
    let W = types_by a.kinds.now a.covers.now in
    let goes = c.breaks-goes.result in
    let put = c.adds-put.result in
    let on = ap (λ (n : ℕ). eqb n 1) c.code_of.ensures in
    let own = c.set_if.ensures all (λ face b h. search rules) ∙ (λ i. cond (goes || (put && on i)) 63 0) in
    let was = c.code_of-was.ensures ∙ ap (λ (v : ℕ). get_or a.covers.now v 0) c.gone.ensures in
    let come = c.set_if-2.ensures (is_shown a.kinds.now c.code_of-was.result e) (λ face b h. search rules) ∙ (λ i. cond goes (set_of (is_shown a.kinds.now (was i) e)) 0) in
    let drawn = c.set_if-3.ensures (is_open W e) (λ face b h. search rules) ∙ (λ i. open_for (put && on i) W e) in
    let hidden = c.set_if-4.ensures (λ f. has c.code_of-cover.result (tested_by a.tested f)) (λ face b h. search rules) ∙ (λ i. cond (put && on i) (set_of (λ f. has (c.code_of-cover.ensures i) (tested_by a.tested f))) 0) in
    (λ i. sets (own i) (come i) (drawn i) (hidden i)) ∙ told (tested_by a.tested) W e c.breaks-goes.ensures c.adds-put.ensures c.if-not-goes-put.false
