-- `voxel_mesh::Cube::uv` meets its contract. Assumes nothing.
use mathlib.Core.Path.{refl, subst}
use Prim.Native.Nat.{ℕ, ◌<◌}
use native.Mathlib.Omega.{arith}
use Rattle.std.specs.Prelude.{Option, IfSome}
use Rattle.rules.specs.Cube.{uv_in}
use Rattle.voxel_mesh.specs.Outcome.{shape_of}
use Rattle.voxel_mesh.proofs.Shapes.{atlas_in, tile_in}
use Rattle.voxel_mesh.proofs.Cube.uv.Goals as goal

pub uv_word-requires : goal.uv_word-requires
uv_word-requires c =
    let q = shape_of c.args.self.shape c.args.self.texture.now in
    let ok = c.args.self.is_accepted in
    let atlas = atlas_in q ok.atlas c.args.axis in
    let along = c.atlas_along-atlas.ensures in
    let below : c.in-Some.n < 6 = subst (λ (o : Option ℕ). IfSome o (λ n. n < 6)) c.in-Some.is c.requires.1 in
    (tile_in q ok.atlas _ c.args.axis (omega (arith, below, ok.six)) c.requires.0, rw along atlas.0, rw along atlas.1, ok.padding)

pub uv_word-requires-in-None : goal.uv_word-requires-in-None
uv_word-requires-in-None c =
    let q = shape_of c.args.self.shape c.args.self.texture.now in
    let ok = c.args.self.is_accepted in
    let atlas = atlas_in q ok.atlas c.args.axis in
    let along = c.atlas_along-atlas.ensures in
    (tt, rw along atlas.0, rw along atlas.1, ok.padding)

pub returns-in-Some : goal.returns-in-Some
unfolding uv_in
returns-in-Some c = rw (c.in-Some.is, c.uv_word.ensures, c.atlas_along-atlas.ensures) refl

pub returns-in-None : goal.returns-in-None
unfolding uv_in
returns-in-None c = rw (c.in-None.is, c.uv_word-in-None.ensures, c.atlas_along-atlas.ensures) refl
