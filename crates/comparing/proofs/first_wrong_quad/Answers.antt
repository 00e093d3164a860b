-- `comparing::first_wrong_quad` meets its contract: the lowest over the lists. Assumes nothing.
use mathlib.Core.Path.{◌≡◌, sym, ap, ◌∙◌}
use mathlib.Core.Bool.{Bool, true, false, cond, ◌||◌}
use mathlib.Core.List.{List}
use Prim.Native.Nat.{ℕ, ◌*◌, ◌≤◌, ◌<◌}
use native.Mathlib.Nat.{mul-le-mul_left}
use native.Mathlib.Omega.{arith}
use lib.ListN.{length}
use Rattle.rules.specs.Lists.{lowest}
use Rattle.rules.specs.Cube.{floats_of}
use Rattle.rules.specs.Mesh.{Attribute, position, normal, uv, colour, Vertices, HasList, of_positions, of_normals, of_uvs, of_colours}
use Rattle.rules.specs.Calls.{Scene}
use Rattle.rules.proofs.ListLaws.{lowest_le, lowest_either}
use Rattle.rules.proofs.Attributes.{inside_of}
use Rattle.quads.specs.Quads.{Has}
use Rattle.terms.specs.Scenes.{scene_of}
use Rattle.terms.specs.Loans.{vertices_in}
use Rattle.comparing.specs.Quads.{other_row, other_quad, ComparableAll}
use Rattle.comparing.proofs.Compared.{lowest_past, right_rows}
use Rattle.comparing.proofs.first_wrong_quad.Goals as goal

-- the quads below `sure` are right, and the lists are searched one after the other, each up to the lowest so far
module _ (S : Scene) (g : List ℕ) (vs : Vertices) (links : List ℕ) (count : ℕ) (ok : ComparableAll S g vs links count)
    (sure : ℕ) (right : (q : ℕ) → q < sure → other_quad S g vs links q ≡ false) where
  abbrev other : Attribute → List ℕ → ℕ → Bool
  other a xs = other_row S a g xs links

  -- what is asked of a list
  abbrev Asked : ℕ → Attribute → List ℕ → Type 0
  Asked to a xs = (sure ≤ to) × (to ≤ count) × Has (floats_of S.types.coloured) a × (4 * a.width * to ≤ length xs) × ((q : ℕ) → q < sure → other a xs q ≡ false)

  asked : (to : ℕ) (a : Attribute) (xs : List ℕ) → HasList S.types.coloured vs a xs → sure ≤ to → to ≤ count → Asked to a xs
  asked to a xs h l u = (l, u, inside_of S.types.coloured vs a xs h, omega (arith, ok.room a xs h, mul-le-mul_left (4 * a.width) u), λ q k. right_rows S g vs links q (right q k) a xs h)

  -- the lowest of a list is none of the sure ones
  past : {to r : ℕ} (a : Attribute) (xs : List ℕ) → Asked to a xs → r ≡ lowest to (other a xs) → (sure ≤ r) × (r ≤ to)
  past {to} {r} a xs p e = (omega (arith, e, lowest_past to (other a xs) sure p.0 p.4), omega (arith, e, lowest_le to (other a xs)))

  abbrev two : ℕ → Bool
  two q = other position vs.positions q || other normal vs.normals q

  abbrev three : ℕ → Bool
  three q = two q || other uv vs.uvs q

  -- ---- list by list, the lowest so far
  module _ (below : sure ≤ count) {first : ℕ} (e1 : first ≡ lowest count (other position vs.positions)) where
    first_asked : Asked count position vs.positions
    first_asked = asked count position vs.positions of_positions below (omega arith)

    second_asked : Asked first normal vs.normals
    second_asked = let p = past position vs.positions first_asked e1 in asked first normal vs.normals of_normals p.0 p.1

    module _ {second : ℕ} (e2 : second ≡ lowest first (other normal vs.normals)) where
      second_is : second ≡ lowest count two
      second_is = e2 ∙ ap (λ (m : ℕ). lowest m (other normal vs.normals)) e1 ∙ lowest_either count (other position vs.positions) (other normal vs.normals)

      third_asked : Asked second uv vs.uvs
      third_asked = let p = past normal vs.normals second_asked e2 in asked second uv vs.uvs of_uvs p.0 (omega (arith, p.1, second_asked.1))

      module _ {third : ℕ} (e3 : third ≡ lowest second (other uv vs.uvs)) where
        third_is : third ≡ lowest count three
        third_is = e3 ∙ ap (λ (m : ℕ). lowest m (other uv vs.uvs)) second_is ∙ lowest_either count two (other uv vs.uvs)

        fourth_asked : S.types.coloured ≡ true → Asked third colour vs.colours
        fourth_asked tint = let p = past uv vs.uvs third_asked e3 in asked third colour vs.colours (of_colours tint) p.0 (omega (arith, p.1, third_asked.1))

        plain : S.types.coloured ≡ false → third ≡ lowest count (other_quad S g vs links)
        plain tint = third_is ∙ ap (λ (b : Bool). lowest count (λ q. cond b (three q || other colour vs.colours q) (three q))) (sym tint)

        tinted : {r : ℕ} → S.types.coloured ≡ true → r ≡ lowest third (other colour vs.colours) → r ≡ lowest count (other_quad S g vs links)
        tinted tint e =
            e ∙ ap (λ (m : ℕ). lowest m (other colour vs.colours)) third_is ∙ lowest_either count three (other colour vs.colours)
            ∙ ap (λ (b : Bool). lowest count (λ q. cond b (three q || other colour vs.colours q) (three q))) (sym tint)

pub first_wrong_row-first-requires : goal.first_wrong_row-first-requires
first_wrong_row-first-requires c =
    let a = c.args in
    let r = c.sure_quads-sure.ensures in
    asked (scene_of a.scene) a.grid.now (vertices_in a.lists) a.lists.links.now a.count c.requires.0 c.sure_quads-sure.result r.1 a.count position a.lists.positions.now of_positions r.0 (omega arith)

pub first_wrong_row-second-requires : goal.first_wrong_row-second-requires
first_wrong_row-second-requires c =
    let a = c.args in
    let r = c.sure_quads-sure.ensures in
    second_asked (scene_of a.scene) a.grid.now (vertices_in a.lists) a.lists.links.now a.count c.requires.0 c.sure_quads-sure.result r.1 r.0 c.first_wrong_row-first.ensures

pub first_wrong_row-third-requires : goal.first_wrong_row-third-requires
first_wrong_row-third-requires c =
    let a = c.args in
    let r = c.sure_quads-sure.ensures in
    third_asked (scene_of a.scene) a.grid.now (vertices_in a.lists) a.lists.links.now a.count c.requires.0 c.sure_quads-sure.result r.1 r.0 c.first_wrong_row-first.ensures c.first_wrong_row-second.ensures

pub first_wrong_row-requires : goal.first_wrong_row-requires
first_wrong_row-requires c =
    let a = c.args in
    let r = c.sure_quads-sure.ensures in
    fourth_asked (scene_of a.scene) a.grid.now (vertices_in a.lists) a.lists.links.now a.count c.requires.0 c.sure_quads-sure.result r.1 r.0 c.first_wrong_row-first.ensures c.first_wrong_row-second.ensures
    c.first_wrong_row-third.ensures c.if-scene.true

pub returns-then-scene : goal.returns-then-scene
returns-then-scene c =
    let a = c.args in
    let r = c.sure_quads-sure.ensures in
    tinted (scene_of a.scene) a.grid.now (vertices_in a.lists) a.lists.links.now a.count c.requires.0 c.sure_quads-sure.result r.1 r.0 c.first_wrong_row-first.ensures c.first_wrong_row-second.ensures
    c.first_wrong_row-third.ensures c.if-scene.true c.first_wrong_row.ensures

pub returns : goal.returns
returns c =
    let a = c.args in
    let r = c.sure_quads-sure.ensures in
    plain (scene_of a.scene) a.grid.now (vertices_in a.lists) a.lists.links.now a.count c.requires.0 c.sure_quads-sure.result r.1 r.0 c.first_wrong_row-first.ensures c.first_wrong_row-second.ensures
    c.first_wrong_row-third.ensures c.if-scene.false
