-- `comparing::is_quad` meets its contract. Assumes nothing.
use mathlib.Core.Path.{◌≡◌, sym, ap, ◌∙◌}
use mathlib.Core.Bool.{Bool, true, true≢false}
use mathlib.Core.List.{List}
use Prim.Native.Nat.{ℕ, ◌+◌, ◌-◌, ◌*◌}
use native.Mathlib.Omega.{arith}
use lib.ListN.{take, drop}
use Rattle.rules.specs.Lists.{row, same}
use Rattle.rules.specs.Cube.{floats_of}
use Rattle.rules.specs.Mesh.{Attribute, position, normal, uv, colour, attribute_in, of_positions, of_normals, of_uvs, of_colours}
use Rattle.rules.proofs.ListLaws.{same_refl}
use Rattle.quads.specs.declared.Quad.{Quad}
use Rattle.quads.specs.Words.{words_of}
use Rattle.terms.specs.Loans.{vertices_in}
use Rattle.comparing.proofs.Compared.{lent_is, each_list_lem}
use Rattle.comparing.proofs.is_quad.Goals as goal

-- an attribute that is the registry's
abbrev Right : Bool → Quad → ℕ → Attribute → List ℕ → Type 0
Right coloured quad q a xs = same (row (4 * a.width) xs q) (attribute_in (floats_of coloured) a 4 (words_of quad)) ≡ true

right : (coloured : Bool) (quad : Quad) → quad.floats ≡ floats_of coloured → (q : ℕ) (a : Attribute) (xs : List ℕ)
    → take (4 * a.width * q + 4 * a.width - 4 * a.width * q) (drop (4 * a.width * q) xs) ≡ attribute_in quad.floats a 4 (words_of quad) → Right coloured quad q a xs
right coloured quad k q a xs e =
    let wanted = attribute_in (floats_of coloured) a 4 (words_of quad) in
    ap (λ (r : List ℕ). same r wanted) (sym (lent_is (4 * a.width * q) (4 * a.width) xs) ∙ e ∙ ap (λ (n : ℕ). attribute_in n a 4 (words_of quad)) k) ∙ same_refl wanted

pub overflow_mul-start : goal.overflow_mul-start
overflow_mul-start c = omega (arith, c.requires.1 position _ of_positions)

pub overflow_mul-uv_start : goal.overflow_mul-uv_start
overflow_mul-uv_start c = omega (arith, c.requires.1 uv _ of_uvs)

pub overflow_add-start : goal.overflow_add-start
overflow_add-start c = omega (arith, c.requires.1 position _ of_positions)

pub offset_bounds-lists-start : goal.offset_bounds-lists-start
offset_bounds-lists-start c = omega (arith, c.requires.1 position _ of_positions)

pub slice_bounds-is_row-end : goal.slice_bounds-is_row-end
slice_bounds-is_row-end c = c.requires.1 position _ of_positions

pub slice_bounds-is_row-end-2 : goal.slice_bounds-is_row-end-2
slice_bounds-is_row-end-2 c = c.requires.1 normal _ of_normals

pub slice_bounds-is_row-end-3 : goal.slice_bounds-is_row-end-3
slice_bounds-is_row-end-3 c = c.requires.1 uv _ of_uvs

pub slice_bounds-is_row-end-then-coloured : goal.slice_bounds-is_row-end-then-coloured
slice_bounds-is_row-end-then-coloured c = c.requires.1 colour _ (of_colours c.if-coloured.true)

pub returns-then-coloured : goal.returns-then-coloured
returns-then-coloured c r =
    let quad = c.args.quad in
    let q = c.args.q in
    each_list_lem c.args.coloured (vertices_in c.args.lists) (Right c.args.coloured quad q) (right c.args.coloured quad c.requires.0 q position _ (c.is_row.ensures c.if-not-is_row.false))
    (right c.args.coloured quad c.requires.0 q normal _ (c.is_row-2.ensures c.if-not-is_row-2.false)) (right c.args.coloured quad c.requires.0 q uv _ (c.is_row-3.ensures c.if-not-is_row-3.false))
    (λ e. right c.args.coloured quad c.requires.0 q colour _ (c.is_row-then-coloured.ensures r))

pub returns : goal.returns
returns c r =
    let quad = c.args.quad in
    let q = c.args.q in
    each_list_lem c.args.coloured (vertices_in c.args.lists) (Right c.args.coloured quad q) (right c.args.coloured quad c.requires.0 q position _ (c.is_row.ensures c.if-not-is_row.false))
    (right c.args.coloured quad c.requires.0 q normal _ (c.is_row-2.ensures c.if-not-is_row-2.false)) (right c.args.coloured quad c.requires.0 q uv _ (c.is_row-3.ensures c.if-not-is_row-3.false))
    (λ e. absurd (true≢false (sym e ∙ c.if-coloured.false)))
