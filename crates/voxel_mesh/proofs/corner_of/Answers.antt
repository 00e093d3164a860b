-- `voxel_mesh::corner_of` meets its contract. Assumes nothing.
use mathlib.Core.Path.{sym, ap, subst}
use mathlib.Core.List.{List}
use Prim.Native.Nat.{ℕ, ◌+◌, ◌*◌, ◌<◌}
use native.Mathlib.Omega.{arith}
use lib.ListN.{get_or}
use Rattle.voxel_mesh.proofs.Triangles.{word_below}
use Rattle.voxel_mesh.proofs.corner_of.Goals as goal

pub returns : goal.returns
returns c =
    let k = 6 * c.args.face + c.args.i in
    let e = ap (λ (xs : List ℕ). get_or xs k 0) c.requires.2 in
    (e, subst (λ (n : ℕ). n < 24) (sym e) (word_below k (omega (arith, c.requires.0, c.requires.1))))
