-- `drawing::vertex_row` meets its contract: before face i, the faces before it are written. Assumes nothing.
use mathlib.Core.Path.{◌≡◌}
use native.Mathlib.Omega.{arith}
use lib.ListN.{length}
use Rattle.rules.specs.Mesh.{vertices_of}
use Rattle.terms.specs.Scenes.{scene_of}
use Rattle.drawing.proofs.Lengths.{Alike, alike_long, fewer}
use Rattle.drawing.proofs.Sweeps.{begun, further, swept}
use Rattle.drawing.proofs.vertex_row.Goals as goal

pub loop-i-init : goal.loop-i-init
loop-i-init c = begun (scene_of c.args.scene) c.args.row.first c.args.base c.args.sides.now _

pub write_side-requires : goal.write_side-requires
write_side-requires c =
    let l = c.loop-i in
    let k = l.auto in
    let tint = c.args.scene.types.coloured in
    let alike : Alike (vertices_of l.positions l.normals l.uvs l.colours) (vertices_of c.args.positions.now c.args.normals.now c.args.uvs.now c.args.colours.now) =
    record { positions = k.positions; normals = k.normals; uvs = k.uvs; colours = k.colours } in
    (c.requires.0, c.requires.1, c.requires.2 l.i c.loop-i-test.true, fewer tint _ (omega (arith, c.loop-i-test.true)) (alike_long tint _ _ _ alike c.requires.3))

pub loop-i-preserved : goal.loop-i-preserved
loop-i-preserved c = further (scene_of c.args.scene) _ _ _ _ c.requires.3 c.loop-i-test.true c.loop-i.invariant c.write_side.ensures

pub returns : goal.returns
returns c =
    let all : c.loop-i.i ≡ length c.args.sides.now = omega (arith, c.loop-i.auto, c.loop-i-test.false) in
    swept (scene_of c.args.scene) _ _ _ _ all c.loop-i.invariant
