-- `drawing::write_places` meets its contract: each attribute in its own list. Assumes nothing.
use mathlib.Core.Bool.{Bool}
use mathlib.Core.List.{List}
use Prim.Native.Nat.{ℕ, ◌*◌, ◌≤◌}
use lib.ListN.{length}
use Rattle.rules.specs.Cube.{floats_of}
use Rattle.rules.specs.Mesh.{Attribute, position, normal, uv, colour, attribute_in, Vertices, vertices_of, HasList, of_positions, of_normals, of_uvs, of_colours}
use Rattle.rules.proofs.Attributes.{inside_of, lists_are, with_colour, without_colour}
use Rattle.vav.specs.Rows.{put}
use mathlib.Core.Path.{◌≡◌, ap, ◌∙◌}
use Rattle.quads.specs.Quads.{Has}
use Rattle.quads.specs.Words.{words_of}
use Rattle.drawing.specs.Written.{Long}
use Rattle.drawing.proofs.write_places.Goals as goal

-- what is asked of all lists is asked of one
asked : (tint : Bool) (m : ℕ) (vs : Vertices) (n : ℕ) → (m ≡ floats_of tint) × Long tint n vs → (a : Attribute) (xs : List ℕ) → HasList tint vs a xs → Has m a × (4 * a.width * n ≤ length xs)
asked tint m vs n p a xs l = (rw p.0 (inside_of tint vs a xs l), p.1 a xs l)

-- what becomes of each list
abbrev written : ℕ → ℕ → List ℕ → Attribute → List ℕ → List ℕ
written m q ws a xs = put (4 * a.width * q) (attribute_in m a 4 ws) xs

with_floats : {m n : ℕ} → m ≡ n → (q : ℕ) (ws : List ℕ) (a : Attribute) (xs : List ℕ) {ys : List ℕ} → ys ≡ written m q ws a xs → ys ≡ written n q ws a xs
with_floats e q ws a xs h = h ∙ ap (λ (n : ℕ). written n q ws a xs) e

pub write_place-requires : goal.write_place-requires
write_place-requires c = let a = c.args in asked a.coloured a.quad.floats (vertices_of a.positions.now a.normals.now a.uvs.now a.colours.now) _ c.requires position _ of_positions

pub write_place-requires-2 : goal.write_place-requires-2
write_place-requires-2 c = let a = c.args in asked a.coloured a.quad.floats (vertices_of a.positions.now a.normals.now a.uvs.now a.colours.now) _ c.requires normal _ of_normals

pub write_place-requires-3 : goal.write_place-requires-3
write_place-requires-3 c = let a = c.args in asked a.coloured a.quad.floats (vertices_of a.positions.now a.normals.now a.uvs.now a.colours.now) _ c.requires uv _ of_uvs

pub write_place-requires-then-coloured : goal.write_place-requires-then-coloured
write_place-requires-then-coloured c =
    let a = c.args in
    asked a.coloured a.quad.floats (vertices_of a.positions.now a.normals.now a.uvs.now a.colours.now) _ c.requires colour _ (of_colours c.if-coloured.true)

pub returns-then-coloured : goal.returns-then-coloured
returns-then-coloured c =
    let a = c.args in
    let vs = vertices_of a.positions.now a.normals.now a.uvs.now a.colours.now in
    let ws = words_of a.quad in
    let f = written (floats_of a.coloured) a.q ws in
    let e = c.requires.0 in
    lists_are a.coloured vs f (with_floats e a.q ws position a.positions.now c.write_place.ensures) (with_floats e a.q ws normal a.normals.now c.write_place-2.ensures) (with_floats e a.q ws uv a.uvs.now c.write_place-3.ensures) (with_colour a.coloured vs f c.if-coloured.true (with_floats e a.q ws colour a.colours.now c.write_place-then-coloured.ensures))

pub returns-else-coloured : goal.returns-else-coloured
returns-else-coloured c =
    let a = c.args in
    let vs = vertices_of a.positions.now a.normals.now a.uvs.now a.colours.now in
    let ws = words_of a.quad in
    let f = written (floats_of a.coloured) a.q ws in
    let e = c.requires.0 in
    lists_are a.coloured vs f (with_floats e a.q ws position a.positions.now c.write_place.ensures) (with_floats e a.q ws normal a.normals.now c.write_place-2.ensures) (with_floats e a.q ws uv a.uvs.now c.write_place-3.ensures) (without_colour a.coloured vs f c.if-coloured.false)
