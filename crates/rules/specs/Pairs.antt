-- 01's four changes: Broken and Added, which have stayed, CullFaces and AddFaces. Sides is two of them in one (02, Q-6), and so is Replaced (Q-7); kept for their law. Definitions only.
use Rattle.std.specs.Prelude.{ℕ, Bool, cond, not, List, [], ◌∷◌, ◌++◌, map, length, get_or}
use Rattle.rules.specs.Lists.{table}
use Rattle.rules.specs.Mesh.{World, Lists, is_normal_cube, decode}
use Rattle.rules.specs.Update.{Change, Broken, Added, Sides, Replaced, Entry, given_at, outside, to_hide, to_draw, Work, Tested, sides, quads, nothing, work, first_half, second_half, Course, course_from}
use Rattle.rules.specs.Answers.{fine}
use Rattle.rules.specs.Calls.{Scene, Outcome, world, room, update_by}

-- a single change: Broken or Added, or one of the two that have gone, whose `change` is not looked at
pub data Single : Type 0 where
  stayed : Entry → Single
  cull_faces add_faces : Entry → Single

abbrev pub with_given : Entry → ℕ → Bool
with_given e f = not (outside (given_at e f))

-- CullFaces: remove own sides with a neighbour given. AddFaces: a NormalCube draws the sides with one given
abbrev pub single_work : Tested → World → Single → Work
single_work tested W (stayed e) = work tested W e
single_work tested W (cull_faces e) = record { own = sides e.cell (with_given e); new = []; facing = [] }
single_work tested W (add_faces e) =
    cond (is_normal_cube W e.type) (record { own = []; new = quads W e.type e.cell (with_given e); facing = [] }) nothing

-- a neighbour is given where p holds: type 0, which every table has
abbrev pub giving : (ℕ → Bool) → Entry → Entry
giving p e = record { cell = e.cell; change = e.change; type = e.type; given = table 6 (λ f. cond (p f) 0 255); former = e.former }

-- for Sides CullFaces with a neighbour given where it hides, then AddFaces with one given where it draws; for Replaced Broken with the former type, then Added with the new
abbrev pub pair_by : Entry → Change → List Single
pair_by e Broken = stayed e ∷ []
pair_by e Added = stayed e ∷ []
pair_by e Sides = cull_faces (giving (to_hide e) e) ∷ add_faces (giving (to_draw e) e) ∷ []
pair_by e Replaced = stayed (first_half e) ∷ stayed (second_half e) ∷ []

abbrev pub pairs : List Entry → List Single
pairs [] = []
pairs (e ∷ es) = pair_by e e.change ++ pairs es

-- an update by single changes, once what is lent and they are accepted
abbrev pub single_works : Tested → Scene → List Single → List Work
single_works tested S es = map (single_work tested (world S)) es

abbrev pub single_course : Tested → Scene → List Single → Lists → ℕ → Course
single_course tested S es B Q =
    course_from (room S B) (λ k. get_or (single_works tested S es) k nothing) 0 (length es) (decode S.types.coloured Q B) 0 Q

abbrev pub single_update : Tested → Scene → List Single → Lists → ℕ → Outcome
single_update tested S es B Q = update_by fine S (single_course tested S es B Q) B

-- ---- entry for entry: Sides that hides, or draws, where a neighbour was given

abbrev pub sides_of : ℕ → Entry → Entry
sides_of byte e = record { cell = e.cell; change = Sides; type = e.type; given = table 6 (λ f. cond (with_given e f) byte 0); former = 255 }

abbrev pub as_sides : Single → Entry
as_sides (stayed e) = e
as_sides (cull_faces e) = sides_of 1 e
as_sides (add_faces e) = sides_of 2 e
