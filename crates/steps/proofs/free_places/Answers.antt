-- `steps::free_places` meets its contract: a place freed in the list of each attribute. Assumes nothing.
use mathlib.Core.Bool.{Bool}
use mathlib.Core.List.{List}
use Prim.Native.Nat.{ℕ, ◌*◌, ◌≤◌, ◌<◌}
use lib.ListN.{length}
use Rattle.rules.specs.Mesh.{Attribute, position, normal, uv, colour, Vertices, vertices_of, HasList, of_positions, of_normals, of_uvs, of_colours}
use Rattle.drawing.specs.Written.{Long}
use Rattle.steps.proofs.free_places.Goals as goal

-- what is asked of all lists is asked of one
asked : (tint : Bool) (vs : Vertices) (q count : ℕ) → (q < count) × Long tint count vs → (a : Attribute) (xs : List ℕ) → HasList tint vs a xs → (q < count) × (4 * a.width * count ≤ length xs)
asked tint vs q count p a xs l = (p.0, p.1 a xs l)

pub free_row-requires : goal.free_row-requires
free_row-requires c = let a = c.args in asked a.coloured (vertices_of a.positions.now a.normals.now a.uvs.now a.colours.now) a.q a.count c.requires position _ of_positions

pub free_row-requires-2 : goal.free_row-requires-2
free_row-requires-2 c = let a = c.args in asked a.coloured (vertices_of a.positions.now a.normals.now a.uvs.now a.colours.now) a.q a.count c.requires normal _ of_normals

pub free_row-requires-3 : goal.free_row-requires-3
free_row-requires-3 c = let a = c.args in asked a.coloured (vertices_of a.positions.now a.normals.now a.uvs.now a.colours.now) a.q a.count c.requires uv _ of_uvs

pub free_row-requires-then-coloured : goal.free_row-requires-then-coloured
free_row-requires-then-coloured c =
    let a = c.args in asked a.coloured (vertices_of a.positions.now a.normals.now a.uvs.now a.colours.now) a.q a.count c.requires colour _ (of_colours c.if-coloured.true)
