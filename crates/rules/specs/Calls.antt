-- The four calls: the order of their refusals, and their whole outcome. Definitions only.
use Rattle.std.specs.Prelude.{ℕ, ◌*◌, ◌/◌, Bool, cond, List, ◌++◌, length, drop}
use Rattle.std.proofs.Math.Option.{Option, none, some}
use Rattle.rules.specs.Lists.{table}
use Rattle.rules.specs.Cells.{Size, Triple, cells, coordinates}
use Rattle.rules.specs.Types.{Types, floats, cube_of, quad_words}
use Rattle.rules.specs.Cube.{Shape, floats_of, cube_words}
use Rattle.rules.specs.Mesh.{Quad, World, Lists, culled, naive, layout, decoded, decode}
use Rattle.rules.specs.Update.{ENTRY_BYTES, Entry, entry_at, Tested, work, Course, course_from}
use Rattle.rules.specs.Answers.{Verdict, fine, refuse, ◌then◌, BAD_SIZE, BAD_GRID, BAD_TYPES, BAD_NUMBER, BAD_ATLAS, NOT_A_CUBE, BAD_OUTER, BAD_TEXTURE, BAD_CELL, SHORT_SLOTS, SHORT_CUBE, room_of, BAD_COUNT, BAD_LINKS, BAD_TRIANGLES, BAD_ENTRY, NO_ROOM, WRONG_SET, WRONG_VERTEX}

-- what a call answers: 0, or a refusal's number and place; Q and `moved`
pub record Answer : Type 0 where
  pub number : ℕ
  pub place : ℕ
  pub quads : ℕ
  pub moved : ℕ

abbrev pub answered : ℕ → ℕ → Answer
answered Q v = record { number = 0; place = 0; quads = Q; moved = v }

-- A refusal returns number and place only
abbrev pub refused : ℕ → ℕ → Answer
refused n p = record { number = n; place = p; quads = 0; moved = 0 }

-- ---- Cube: 4, 5, 7, 9

pub record CubeOutcome : Type 0 where
  pub answer : Answer
  pub out : List ℕ

abbrev pub cube_verdict : Shape → List ℕ → Verdict
cube_verdict q out = BAD_NUMBER q.d q.centre q.padding then BAD_ATLAS q then BAD_TEXTURE q.texture then SHORT_CUBE q.coloured out

abbrev pub cube_by : Verdict → Shape → List ℕ → CubeOutcome
cube_by fine q out = record { answer = answered 0 0; out = cube_words q ++ drop (24 * floats_of q.coloured) out }
cube_by (refuse n p) q out = record { answer = refused n p; out = out }

abbrev pub generate_voxel_mesh : Shape → List ℕ → CubeOutcome
generate_voxel_mesh q out = cube_by (cube_verdict q out) q out

-- ---- what the other three share

pub record Scene : Type 0 where
  pub size : Size
  pub types : Types
  pub d : Triple
  pub centre : Triple

abbrev pub words_in : Scene → ℕ → ℕ → ℕ → List ℕ
words_in S t f c = quad_words (cube_of S.types t) (floats S.types) S.d f (coordinates S.size c)

abbrev pub world : Scene → World
world S = record { size = S.size; kinds = S.types.kinds; covers = S.types.covers; words_of = words_in S }

-- the words of a quad
abbrev pub span : Scene → ℕ
span S = 4 * floats S.types

abbrev pub faces : Scene → ℕ
faces S = 6 * cells S.size

abbrev pub room : Scene → Lists → ℕ
room S B = room_of S.types.coloured B

-- 3, 4 (no padding is given) and 6
abbrev pub registry_verdict : Types → Triple → Triple → Verdict
registry_verdict T d centre = BAD_TYPES T then BAD_NUMBER d centre 0 then NOT_A_CUBE T centre

abbrev pub types_verdict : Scene → Verdict
types_verdict S = registry_verdict S.types S.d S.centre

pub record Outcome : Type 0 where
  pub answer : Answer
  pub lists : Lists

-- ---- Mesh: 2, 3, 4, 6, 7, 8, 9, 14

abbrev pub fresh_mesh : Scene → List ℕ → List ℕ → Bool → List Quad
fresh_mesh S outer g culling = cond culling (culled (world S) outer g) (naive (world S) g)

-- 2, 3, 4, 6 to 9: what mesh and check ask first
abbrev pub input_verdict : Scene → List ℕ → List ℕ → Lists → Verdict
input_verdict S outer g B =
    BAD_SIZE S.size then BAD_GRID S.size g then types_verdict S then BAD_OUTER outer then BAD_CELL S.types g
    then SHORT_SLOTS S.size B

abbrev pub mesh_verdict_in : ℕ → Scene → List ℕ → List ℕ → Bool → Lists → Verdict
mesh_verdict_in room S outer g culling B = input_verdict S outer g B then NO_ROOM room (length (fresh_mesh S outer g culling))

abbrev pub mesh_verdict : Scene → List ℕ → List ℕ → Bool → Lists → Verdict
mesh_verdict S outer g culling B = mesh_verdict_in (room S B) S outer g culling B

abbrev pub meshed_by : Verdict → Scene → List Quad → Lists → Outcome
meshed_by fine S m B = record { answer = answered (length m) 0; lists = layout (faces S) S.types.coloured (length m) m B }
meshed_by (refuse n p) S m B = record { answer = refused n p; lists = B }

abbrev pub mesh_grid : Scene → List ℕ → List ℕ → Bool → Lists → Outcome
mesh_grid S outer g culling B = meshed_by (mesh_verdict S outer g culling B) S (fresh_mesh S outer g culling) B

-- ---- Update: 2, 3, 4, 6, 9 to 14

-- 9 to 12: what is asked of a lent mesh
abbrev pub lent_verdict_in : ℕ → Scene → Lists → ℕ → Verdict
lent_verdict_in room S B Q = SHORT_SLOTS S.size B then BAD_COUNT room Q then BAD_LINKS (cells S.size) B Q then BAD_TRIANGLES B Q

abbrev pub lent_verdict : Scene → Lists → ℕ → Verdict
lent_verdict S B Q = lent_verdict_in (room S B) S B Q

abbrev pub update_verdict_in : ℕ → Scene → List ℕ → Lists → ℕ → Verdict
update_verdict_in room S log B Q =
    BAD_SIZE S.size then types_verdict S then lent_verdict_in room S B Q then BAD_ENTRY (cells S.size) (length S.types.kinds) log

abbrev pub update_verdict : Scene → List ℕ → Lists → ℕ → Verdict
update_verdict S log B Q = update_verdict_in (room S B) S log B Q

abbrev pub entries_of : List ℕ → List Entry
entries_of log = table (length log / ENTRY_BYTES) (entry_at log)

abbrev pub course_in : ℕ → Tested → Scene → List ℕ → List Quad → ℕ → Course
course_in room tested S log m Q = course_from room (λ k. work tested (world S) (entry_at log k)) 0 (length log / ENTRY_BYTES) m 0 Q

abbrev pub course : Tested → Scene → List ℕ → Lists → ℕ → Course
course tested S log B Q = course_in (room S B) tested S log (decode S.types.coloured Q B) Q

-- NO_ROOM alone also returns Q and `moved` and keeps the earlier entries
abbrev pub course_answer : Course → Option ℕ → Answer
course_answer c none = answered (length c.quads) c.moved
course_answer c (some k) = record { number = 14; place = k; quads = length c.quads; moved = c.moved }

abbrev pub update_by : Verdict → Scene → Course → Lists → Outcome
update_by fine S c B = record { answer = course_answer c c.full; lists = layout (faces S) S.types.coloured c.highest c.quads B }
update_by (refuse n p) S c B = record { answer = refused n p; lists = B }

abbrev pub update_mesh : Tested → Scene → List ℕ → Lists → ℕ → Outcome
update_mesh tested S log B Q = update_by (update_verdict S log B Q) S (course tested S log B Q) B

-- ---- Check: 2, 3, 4, 6 to 12, 15, 16

-- 2, 3, 4, 6 to 10: what is asked before the mesh is looked at
abbrev pub open_verdict_in : ℕ → Scene → List ℕ → List ℕ → Lists → ℕ → Verdict
open_verdict_in room S outer g B Q = input_verdict S outer g B then BAD_COUNT room Q

abbrev pub open_verdict : Scene → List ℕ → List ℕ → Lists → ℕ → Verdict
open_verdict S outer g B Q = open_verdict_in (room S B) S outer g B Q

abbrev pub book_verdict : Scene → Lists → ℕ → Verdict
book_verdict S B Q = BAD_LINKS (cells S.size) B Q then BAD_TRIANGLES B Q

abbrev pub face_verdict_of : (ℕ → Quad) → Scene → List ℕ → List ℕ → ℕ → Verdict
face_verdict_of quad S outer g Q = WRONG_SET (world S) outer g (table Q quad) then WRONG_VERTEX (world S) g quad Q

abbrev pub face_verdict : Scene → List ℕ → List ℕ → Lists → ℕ → Verdict
face_verdict S outer g B Q = face_verdict_of (decoded S.types.coloured B) S outer g Q

abbrev pub check_verdict : Scene → List ℕ → List ℕ → Lists → ℕ → Verdict
check_verdict S outer g B Q = open_verdict S outer g B Q then book_verdict S B Q then face_verdict S outer g B Q

abbrev pub check_by : Verdict → Answer
check_by fine = answered 0 0
check_by (refuse n p) = refused n p

abbrev pub check_mesh : Scene → List ℕ → List ℕ → Lists → ℕ → Answer
check_mesh S outer g B Q = check_by (check_verdict S outer g B Q)
