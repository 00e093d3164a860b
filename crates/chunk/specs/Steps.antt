-- What is printed of the work's steps, as the rules see it. Definitions only.
use Rattle.std.specs.Prelude.{ℕ, zero, suc, ◌≤◌, List, length, take, replicate}
use Rattle.rules.specs.Mesh.{Lists}
use Rattle.rules.specs.Calls.{Answer, answered}
use Rattle.rules.specs.Program.{mesh_lines, refused_line, lines_of}
use Rattle.lines.specs.Written.{Room, OfFaces, quads_of}
use Rattle.working.specs.Steps.{scene_with, worked_on}

-- the lines of the work done in the lists lent
abbrev pub lines_in : List ℕ → List ℕ → List ℕ → List ℕ → List ℕ → Lists → List ℕ
lines_in file outer kinds covers cubes B =
    let S = scene_with file kinds covers cubes in lines_of S (worked_on file S outer B)

-- room that holds nothing yet
unfoldable pub zeros : ℕ → List ℕ
zeros n = replicate n 0

-- what an answer prints, with the links it left
abbrev pub lines_by : ℕ → Answer → List ℕ → List ℕ
lines_by zero a links = mesh_lines a (quads_of (take a.quads links))
lines_by (suc n) a links = refused_line a

abbrev pub lines_with : Answer → List ℕ → List ℕ
lines_with a links = lines_by a.number a links

-- the links of so many quads are of faces, and their lines have room
pub record Shown (quads moved : ℕ) (links out : List ℕ) : Type 0 where
  pub most : quads ≤ length links
  pub faces : OfFaces (take quads links)
  pub room : Room (mesh_lines (answered quads moved) (quads_of (take quads links))) 0 out
