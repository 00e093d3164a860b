-- The layout before 02, Q-8: the vertices of all quads in one list, 8 or 12 floats a vertex; and the calls on it. Definitions only.
use Rattle.std.specs.Prelude.{ℕ, ◌/◌, min, Bool, cond, List, length, get_or}
use Rattle.rules.specs.Lists.{row, table}
use Rattle.rules.specs.Cells.{key_in}
use Rattle.rules.specs.Types.{floats}
use Rattle.rules.specs.Mesh.{Quad, position, normal, uv, colour, attribute_in, no_vertices, Lists, lists_of, laid, layout}
use Rattle.rules.specs.Update.{Tested, Course}
use Rattle.rules.specs.Answers.{Verdict, fine, refuse, ◌then◌}
use Rattle.rules.specs.Calls.{Answer, answered, refused, Scene, span, faces, Outcome, fresh_mesh, mesh_verdict_in, update_verdict_in, course_in, course_answer, open_verdict_in, book_verdict, face_verdict_of, check_by}

pub record Together : Type 0 where
  pub vertices : List ℕ
  pub triangles : List ℕ
  pub links : List ℕ
  pub slots : List ℕ

-- the other lists
abbrev pub others : Together → Lists
others B = lists_of no_vertices B.triangles B.links B.slots

-- Room in quads is the least of vertices/(4·floats), triangles/6, links
unfoldable pub room_together : Scene → Together → ℕ
room_together S B = min (length B.vertices / span S) (min (length B.triangles / 6) (length B.links))

abbrev pub quad_together : Scene → Together → ℕ → Quad
quad_together S B q = record { key = key_in (get_or B.links q 0); words = row (span S) B.vertices q }

abbrev pub layout_together : Scene → ℕ → List Quad → Together → Together
layout_together S highest m B =
    let L = layout (faces S) S.types.coloured highest m (others B) in
    record { vertices = laid (span S) (λ q x. x.words) highest m B.vertices; triangles = L.triangles; links = L.links; slots = L.slots }

-- ---- the calls

pub record OutcomeTogether : Type 0 where
  pub answer : Answer
  pub lists : Together

abbrev pub meshed_together_by : Verdict → Scene → List Quad → Together → OutcomeTogether
meshed_together_by fine S m B = record { answer = answered (length m) 0; lists = layout_together S (length m) m B }
meshed_together_by (refuse n p) S m B = record { answer = refused n p; lists = B }

abbrev pub mesh_together : Scene → List ℕ → List ℕ → Bool → Together → OutcomeTogether
mesh_together S outer g culling B =
    meshed_together_by (mesh_verdict_in (room_together S B) S outer g culling (others B)) S (fresh_mesh S outer g culling) B

abbrev pub course_together : Tested → Scene → List ℕ → Together → ℕ → Course
course_together tested S log B Q = course_in (room_together S B) tested S log (table Q (quad_together S B)) Q

abbrev pub updated_together_by : Verdict → Scene → Course → Together → OutcomeTogether
updated_together_by fine S c B = record { answer = course_answer c c.full; lists = layout_together S c.highest c.quads B }
updated_together_by (refuse n p) S c B = record { answer = refused n p; lists = B }

abbrev pub update_together : Tested → Scene → List ℕ → Together → ℕ → OutcomeTogether
update_together tested S log B Q =
    updated_together_by (update_verdict_in (room_together S B) S log (others B) Q) S (course_together tested S log B Q) B

abbrev pub check_together : Scene → List ℕ → List ℕ → Together → ℕ → Answer
check_together S outer g B Q =
    check_by (open_verdict_in (room_together S B) S outer g (others B) Q then book_verdict S (others B) Q then face_verdict_of (quad_together S B) S outer g Q)

-- ---- the same lists, taken apart

-- the whole vertices of a list, attribute by attribute; without colour there is a colour list that is not looked at
abbrev pub apart : Scene → List ℕ → Together → Lists
apart S spare B =
    let n = floats S.types in
    let v = length B.vertices / n in
    lists_of
    (record {
      positions = attribute_in n position v B.vertices;
      normals = attribute_in n normal v B.vertices;
      uvs = attribute_in n uv v B.vertices;
      colours = cond S.types.coloured (attribute_in n colour v B.vertices) spare;
    })
    B.triangles B.links B.slots

abbrev pub outcome_apart : Scene → List ℕ → OutcomeTogether → Outcome
outcome_apart S spare o = record { answer = o.answer; lists = apart S spare o.lists }
