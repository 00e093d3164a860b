-- What a call is asked and what it answers by number, as the rules see it. Definitions only.
use Rattle.std.specs.Prelude.{ℕ, ◌≡◌, Bool, cond, not, List, eqb}
use Rattle.rules.specs.Cube.{Shape}
use Rattle.rules.specs.Mesh.{Lists}
use Rattle.rules.specs.Update.{Tested, source, itself}
use Rattle.rules.specs.Calls.{Answer, Scene, CubeOutcome, Outcome, generate_voxel_mesh, mesh_grid, update_mesh, check_mesh}
use Rattle.telling.specs.declared.Told.{Told}

-- 0 no, else yes
abbrev pub is_yes : ℕ → Bool
is_yes n = not (eqb n 0)

-- no: the opposite of i, as the source; yes: i itself
abbrev pub tested_if : Bool → Tested
tested_if new = cond new itself source

abbrev pub tested_from : ℕ → Tested
tested_from n = tested_if (is_yes n)

abbrev pub scene_from : ℕ → ℕ → ℕ → List ℕ → List ℕ → List ℕ → ℕ → ℕ → ℕ → ℕ → ℕ → ℕ → ℕ → Scene
scene_from w h l kinds covers cubes coloured dx dy dz cx cy cz =
    record {
      size = record { w = w; h = h; l = l };
      types = record { coloured = is_yes coloured; kinds = kinds; covers = covers; cubes = cubes };
      d = record { x = dx; y = dy; z = dz };
      centre = record { x = cx; y = cy; z = cz };
    }

abbrev pub answer : ℕ → ℕ → ℕ → ℕ → Answer
answer number place quads moved = record { number = number; place = place; quads = quads; moved = moved }

abbrev pub told_of : Told → Answer
told_of t = answer t.number t.place t.quads t.moved

abbrev pub cube_out : Answer → List ℕ → CubeOutcome
cube_out a out = record { answer = a; out = out }

abbrev pub outcome : Answer → Lists → Outcome
outcome a lists = record { answer = a; lists = lists }

-- ---- a call's contract by number: an answer is told, and lists are left; the check tells a number and a place

abbrev pub TellsCube : Shape → List ℕ → Answer → List ℕ → Type 0
TellsCube shape room a exit = cube_out a exit ≡ generate_voxel_mesh shape room

abbrev pub TellsMesh : Scene → List ℕ → List ℕ → Bool → Lists → Answer → Lists → Type 0
TellsMesh S outer grid culling B a exit = outcome a exit ≡ mesh_grid S outer grid culling B

-- the mode by its number: 0 the source's, else the new one
abbrev pub TellsUpdate : ℕ → Scene → List ℕ → Lists → ℕ → Answer → Lists → Type 0
TellsUpdate tested S log B Q a exit = outcome a exit ≡ update_mesh (tested_from tested) S log B Q

abbrev pub TellsCheck : Scene → List ℕ → List ℕ → Lists → ℕ → ℕ → ℕ → Type 0
TellsCheck S outer grid B Q number place = answer number place 0 0 ≡ check_mesh S outer grid B Q
