-- A log on the index and the vertices, and the triangles after it. Definitions only.
use Rattle.std.specs.Prelude as std
use Rattle.std.specs.Prelude.{Some, None, ℕ, ◌-◌, ◌*◌, ◌/◌, ◌≤◌, ◌<◌, ◌≡◌, List, [], ◌∷◌, length}
use Rattle.std.proofs.Math.Option.{Option, none, some}
use Rattle.rules.specs.Lists.{each, table}
use Rattle.rules.specs.Cells.{cells, link_of}
use Rattle.rules.specs.Mesh.{Quad, Vertices, each_list, pattern, laid, slot_of, lists_of, attribute_laid, decode}
use Rattle.rules.specs.Update.{ENTRY_BYTES, Tested, entry_at, Course}
use Rattle.rules.specs.Calls.{Scene, span, faces, course_in}
use Rattle.rules.proofs.Courses.{Sane}
use Rattle.util.specs.Grid.{Within}
use Rattle.lent.specs.Scenes.{Typed}
use Rattle.vav.specs.Rows.{put, zeros}
use Rattle.drawing.specs.Written.{Long}
use Rattle.update.specs.declared.Ran.{Ran}

-- how a log has ended, and the lists that it went through
pub record Ended : Type 0 where
  pub full : Option ℕ
  pub quads : ℕ
  pub moved : ℕ
  pub highest : ℕ
  pub vertices : Vertices
  pub links : List ℕ
  pub slots : List ℕ

-- the entry that found no room, if one did
abbrev pub full_at : std.Option ℕ → Option ℕ
full_at None = none
full_at (Some k) = some k

abbrev pub ran_of : Ran → Vertices → List ℕ → List ℕ → Ended
ran_of r vs ls ss =
    record { full = full_at r.full; quads = r.count.quads; moved = r.count.moved; highest = r.highest; vertices = vs; links = ls; slots = ss }

-- the rule's course, its mesh laid out over what the lists held
abbrev pub laid_out : Scene → Vertices → List ℕ → Course → Ended
laid_out S vs ls c =
    record {
      full = c.full;
      quads = length c.quads;
      moved = c.moved;
      highest = c.highest;
      vertices = each_list S.types.coloured (attribute_laid S.types.coloured c.highest c.quads) vs;
      links = laid 1 (λ q x. link_of x.key ∷ []) c.highest c.quads ls;
      slots = table (faces S) (slot_of c.quads);
    }

-- the mesh that links and vertices hold
abbrev pub mesh_in : Scene → Vertices → List ℕ → ℕ → List Quad
mesh_in S vs ls Q = decode S.types.coloured Q (lists_of vs [] ls [])

abbrev pub course_on : Tested → Scene → ℕ → List ℕ → Vertices → List ℕ → ℕ → Course
course_on tested S room log vs ls Q = course_in room tested S log (mesh_in S vs ls Q) Q

-- what a log leaves of them
abbrev pub ran_by : Tested → Scene → ℕ → List ℕ → Vertices → List ℕ → ℕ → Ended
ran_by tested S room log vs ls Q = laid_out S vs ls (course_on tested S room log vs ls Q)

-- lists that hold a mesh in its room, whose highest count was h, over what they held
pub record Holds (S : Scene) (room : ℕ) (vs₀ : Vertices) (ls₀ : List ℕ) (m : List Quad) (h : ℕ) (vs : Vertices) (ls ss : List ℕ) (q : ℕ) : Type 0 where
  pub sane : Sane (faces S) (span S) room m h
  pub count : q ≡ length m
  pub vertices : vs ≡ each_list S.types.coloured (attribute_laid S.types.coloured h m) vs₀
  pub links : ls ≡ laid 1 (λ q x. link_of x.key ∷ []) h m ls₀
  pub slots : ss ≡ table (faces S) (slot_of m)

-- a log can be run: the lists hold a mesh, and the entries are within the grid and the limit
pub record Logging (S : Scene) (room : ℕ) (log : List ℕ) (vs : Vertices) (ls ss : List ℕ) (Q : ℕ) : Type 0 where
  pub within : Within S.size
  pub typed : Typed S
  pub inside : (k : ℕ) → k < length log / ENTRY_BYTES → (entry_at log k).cell < cells S.size
  pub few : length log / ENTRY_BYTES ≤ 16777216
  pub rows : Long S.types.coloured room vs
  pub words : room ≤ length ls
  pub holds : Holds S room vs ls (mesh_in S vs ls Q) Q vs ls ss Q

-- patterns up to the last quad, zeros up to the highest count
unfoldable pub patterns_mended : ℕ → ℕ → ℕ → List ℕ → List ℕ
patterns_mended before after highest xs = put (6 * after) (zeros (6 * (highest - after))) (put (6 * before) (each (after - before) before pattern) xs)
