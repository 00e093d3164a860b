-- The work's steps on what is lent to them, as the rules see them. Definitions only.
use Rattle.std.specs.Prelude.{ℕ, zero, suc, List, eqb}
use Rattle.rules.specs.Mesh.{Lists}
use Rattle.rules.specs.Calls as rules
use Rattle.rules.specs.Calls.{Answer, Outcome, mesh_grid}
use Rattle.rules.specs.Program.{word, size_in, triple_in, coloured_in, grid_in, log_in, update_after, Built, stopped, built}
use Rattle.voxel_mesh.specs.declared.Shape.{Shape}
use Rattle.workfile.specs.declared.Work.{Work}

-- what the trailer says of a cube, and of the grid
abbrev pub shape_by : Work → Shape
shape_by w =
    record {
      d = w.d;
      centre = w.centre;
      atlas_width = w.atlas_width;
      atlas_height = w.atlas_height;
      padding = w.padding;
      coloured = w.coloured;
      colour = w.colour;
      alpha = w.alpha;
    }

-- the scene that the trailer tells, with types as they are lent
abbrev pub scene_with : List ℕ → List ℕ → List ℕ → List ℕ → rules.Scene
scene_with file kinds covers cubes =
    record {
      size = size_in file;
      types = record { coloured = coloured_in file; kinds = kinds; covers = covers; cubes = cubes };
      d = triple_in file 10;
      centre = triple_in file 13;
    }

-- the cubes, unless a type was refused
abbrev pub built_by : ℕ → Answer → List ℕ → Built
built_by zero a cubes = built cubes
built_by (suc n) a cubes = stopped a

abbrev pub built_of : Answer → List ℕ → Built
built_of a cubes = built_by a.number a cubes

-- the mesh in the lists lent, then the update
abbrev pub worked_on : List ℕ → rules.Scene → List ℕ → Lists → Outcome
worked_on file S outer B =
    let o = mesh_grid S outer (grid_in file) (eqb (word file 9) 1) B in update_after S (log_in file) o o.answer.number
