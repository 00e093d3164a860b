-- `voxel_mesh::Cube::last_naming` meets its contract: no entry from n on names the face. Assumes nothing.
use mathlib.Core.Path.{◌≡◌, refl, sym, ◌∙◌}
use mathlib.Core.Bool.{cond}
use mathlib.Core.List.{List}
use mathlib.Core.Option.{some}
use Prim.Native.Nat.{ℕ, zero, suc, ◌-◌, ◌*◌, ◌<◌}
use native.Mathlib.Omega.{arith}
use lib.Dec.{eqb}
use lib.ListN.{get_or}
use borrow.Author.Tests.{eq-eqb, ne_eqb}
use Rattle.rules.specs.Cube.{last_naming}
use Rattle.voxel_mesh.proofs.Cube.last_naming.Goals as goal

-- entry n - 1 names the face, or one before it does
last : (texture : List ℕ) (face n : ℕ) → 0 < n → last_naming texture face n
    ≡ cond (eqb (get_or texture (3 * (n - 1)) 0) face) (some (n - 1)) (last_naming texture face (n - 1))
unfolding last_naming
last texture face zero h = absurd (omega arith)
last texture face (suc n) h = let e : suc n - 1 ≡ n = omega arith in rw e refl

pub returns-then-self-n-clause-is_last : goal.returns-then-self-n-clause-is_last
returns-then-self-n-clause-is_last c =
    let l = c.loop-n in
    sym (l.invariant ∙ last c.args.self.texture.now c.args.face l.n (omega arith) ∙ rw (eq-eqb _ _ c.if-self-n.true) refl)

pub loop-n-preserved : goal.loop-n-preserved
loop-n-preserved c =
    let l = c.loop-n in
    l.invariant ∙ last c.args.self.texture.now c.args.face l.n (omega arith) ∙ rw (ne_eqb _ _ c.if-self-n.false) refl

pub returns-clause-is_last : goal.returns-clause-is_last
unfolding last_naming
returns-clause-is_last c = let e : c.loop-n.n ≡ 0 = omega arith in sym (c.loop-n.invariant ∙ rw e)
