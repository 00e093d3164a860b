-- 01, "The program and its file"; 02, Q-7, by whose entries the log is read. Definitions only.
use Rattle.std.specs.Prelude.{ℕ, zero, suc, ◌+◌, ◌-◌, ◌*◌, ◌/◌, ◌%◌, Bool, cond, not, ◌&&◌, ◌||◌, List, [], ◌∷◌, ◌++◌, length, get_or, replicate, eqb, ltb}
use Rattle.rules.specs.Lists.{each, table, only, part}
use Rattle.rules.specs.Cells.{Size, Triple, cells, has}
use Rattle.rules.specs.Cube.{Shape, floats_of}
use Rattle.rules.specs.Mesh.{Lists, Quad, decode}
use Rattle.rules.specs.Update.{ENTRY_BYTES, u32_at, source}
use Rattle.rules.specs.Calls.{Answer, refused, CubeOutcome, generate_voxel_mesh, Scene, Outcome, mesh_grid, update_mesh}

-- ---- the file: types, grid, log, then a 92-byte trailer of 23 u32 pointing back

abbrev pub body : List ℕ → ℕ
body file = length file - 92

abbrev pub word : List ℕ → ℕ → ℕ
word file i = u32_at file (body file + 4 * i)

abbrev pub type_count : List ℕ → ℕ
type_count file = word file 3

abbrev pub size_in : List ℕ → Size
size_in file = record { w = word file 5; h = word file 6; l = word file 7 }

abbrev pub triple_in : List ℕ → ℕ → Triple
triple_in file i = record { x = word file i; y = word file (i + 1); z = word file (i + 2) }

abbrev pub grid_start : List ℕ → ℕ
grid_start file = 74 * type_count file

abbrev pub log_start : List ℕ → ℕ
log_start file = grid_start file + cells (size_in file)

-- Parts are adjoining and fill the file: each distance back is that of the part's own place
abbrev pub adjoining : List ℕ → Bool
adjoining file =
    eqb (word file 0) (body file) && eqb (word file 1 + grid_start file) (body file) && eqb (word file 2 + log_start file) (body file)
    && eqb (ENTRY_BYTES * word file 4 + log_start file) (body file)

unfoldable pub bad_file : List ℕ → Bool
bad_file file =
    ltb (length file) 92 || ltb 8192 (length file) || not (eqb (word file 22) 92) || not (adjoining file)
    || ltb 1 (word file 19) || ltb 1 (word file 9) || ltb 63 (word file 8)
    || ltb 8 (type_count file) || ltb 512 (cells (size_in file)) || eqb (type_count file) 0 || eqb (cells (size_in file)) 0

-- ---- types (74 bytes: kind, set, six entries of face, a, b as u32)

abbrev pub type_byte : List ℕ → ℕ → ℕ → ℕ
type_byte file t i = get_or file (74 * t + i) 0

abbrev pub coloured_in : List ℕ → Bool
coloured_in file = eqb (word file 19) 1

abbrev pub shape_in : List ℕ → ℕ → Shape
shape_in file t =
    record {
      d = triple_in file 10;
      centre = triple_in file 13;
      atlas_width = word file 16;
      atlas_height = word file 17;
      texture = table 18 (λ i. u32_at file (74 * t + 2 + 4 * i));
      padding = word file 18;
      coloured = coloured_in file;
      colour = word file 20;
      alpha = word file 21;
    }

-- ---- Cubes are built for all types in order, then the mesh, then the update

abbrev pub cube_room : List ℕ → List ℕ
cube_room file = replicate (24 * floats_of (coloured_in file)) 0

abbrev pub cube_in : List ℕ → ℕ → CubeOutcome
cube_in file t = generate_voxel_mesh (shape_in file t) (cube_room file)

pub data Built : Type 0 where
  stopped : Answer → Built
  built : List ℕ → Built

-- a cube that is refused stops it
abbrev pub build_one : CubeOutcome → ℕ → Built → Built
build_one o zero next = next
build_one o (suc n) next = stopped o.answer

-- types t, t + 1, .., n of them, after the cubes before them
unfoldable pub build_from : List ℕ → ℕ → ℕ → List ℕ → Built
build_from file t zero before = built before
build_from file t (suc n) before =
    build_one (cube_in file t) (cube_in file t).answer.number (build_from file (suc t) n (before ++ (cube_in file t).out))

abbrev pub scene_in : List ℕ → List ℕ → Scene
scene_in file cubes =
    record {
      size = size_in file;
      types =
          record {
            coloured = coloured_in file;
            kinds = table (type_count file) (λ t. type_byte file t 0);
            covers = table (type_count file) (λ t. type_byte file t 1);
            cubes = cubes;
          };
      d = triple_in file 10;
      centre = triple_in file 13;
    }

abbrev pub grid_in : List ℕ → List ℕ
grid_in file = part (grid_start file) (cells (size_in file)) file

abbrev pub log_in : List ℕ → List ℕ
log_in file = part (log_start file) (ENTRY_BYTES * word file 4) file

abbrev pub outer_in : List ℕ → List ℕ
outer_in file = each 6 0 (λ f. only (has (word file 8) f) f)

-- Room is 128 quads
abbrev pub room_in : List ℕ → Lists
room_in file =
    record {
      vertices = record { positions = replicate (128 * 12) 0; normals = replicate (128 * 12) 0; uvs = replicate (128 * 8) 0; colours = replicate (128 * 16) 0 };
      triangles = replicate (128 * 6) 0;
      links = replicate 128 0;
      slots = replicate (6 * cells (size_in file)) 0;
    }

-- the mesh, then the update, unless the mesh refuses; the file has no place for the mode, which is the source's
abbrev pub update_after : Scene → List ℕ → Outcome → ℕ → Outcome
update_after S log o zero = update_mesh source S log o.lists o.answer.quads
update_after S log o (suc n) = o

abbrev pub worked : List ℕ → Scene → Outcome
worked file S =
    let o = mesh_grid S (outer_in file) (grid_in file) (eqb (word file 9) 1) (room_in file) in
    update_after S (log_in file) o o.answer.number

-- ---- what it prints

abbrev pub digit : ℕ → ℕ
digit n = 48 + n % 10

-- a number in decimal: at most n digits
unfoldable pub digits : ℕ → ℕ → List ℕ
digits zero k = []
digits (suc n) k = cond (ltb k 10) (digit k ∷ []) (digits n (k / 10) ++ (digit k ∷ []))

abbrev pub decimal : ℕ → List ℕ
decimal k = digits 20 k

abbrev SPACE : ℕ
SPACE = 32

abbrev LINE : ℕ
LINE = 10

-- "quads ", " moved ", "refused ", " at "
abbrev pub QUADS : List ℕ
QUADS = 113 ∷ 117 ∷ 97 ∷ 100 ∷ 115 ∷ 32 ∷ []

abbrev pub MOVED : List ℕ
MOVED = 32 ∷ 109 ∷ 111 ∷ 118 ∷ 101 ∷ 100 ∷ 32 ∷ []

abbrev pub REFUSED : List ℕ
REFUSED = 114 ∷ 101 ∷ 102 ∷ 117 ∷ 115 ∷ 101 ∷ 100 ∷ 32 ∷ []

abbrev pub AT : List ℕ
AT = 32 ∷ 97 ∷ 116 ∷ 32 ∷ []

-- `quads Q moved M`, then per quad its number, cell, face number
abbrev pub quad_lines : ℕ → List Quad → List ℕ
quad_lines i [] = []
quad_lines i (q ∷ m) = decimal i ++ (SPACE ∷ decimal (q.key / 6)) ++ (SPACE ∷ decimal (q.key % 6)) ++ (LINE ∷ quad_lines (suc i) m)

abbrev pub mesh_lines : Answer → List Quad → List ℕ
mesh_lines a m = QUADS ++ decimal a.quads ++ MOVED ++ decimal a.moved ++ (LINE ∷ quad_lines 0 m)

-- or `refused N at P` alone
abbrev pub refused_line : Answer → List ℕ
refused_line a = REFUSED ++ decimal a.number ++ AT ++ decimal a.place ++ (LINE ∷ [])

abbrev pub lines_by : Scene → Outcome → ℕ → List ℕ
lines_by S o zero = mesh_lines o.answer (decode S.types.coloured o.answer.quads o.lists)
lines_by S o (suc n) = refused_line o.answer

abbrev pub lines_of : Scene → Outcome → List ℕ
lines_of S o = lines_by S o o.answer.number

abbrev pub built_lines : List ℕ → Built → List ℕ
built_lines file (stopped a) = refused_line a
built_lines file (built cubes) = lines_of (scene_in file cubes) (worked file (scene_in file cubes))

-- the whole of what `meshchunk` writes for a file
unfoldable pub printed : List ℕ → List ℕ
printed file = cond (bad_file file) (refused_line (refused 1 0)) (built_lines file (build_from file 0 (type_count file) []))
