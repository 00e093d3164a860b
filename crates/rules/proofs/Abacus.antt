-- 01, "Meshes worked by hand": the ten cases as one table, the two of them that the new mode of 02, Q-2, puts right as another, Sides of Q-6, Replaced of Q-7, rooms that are short, and the
-- program's example. Proved by computing. By its name it is the first file to be checked, so that a wrong rule is refused at a wrong number. Assumes nothing.
use mathlib.Core.Path.{◌≡◌, refl}
use mathlib.Core.Bool.{Bool, true, false}
use mathlib.Core.List.{List, [], ◌∷◌, ◌++◌}
use Prim.Native.Nat.{ℕ, zero, suc, ◌+◌, ◌*◌, ◌<◌}
use native.Mathlib.Omega.{arith}
use lib.ListN.{replicate}
use lib.Ieee as ieee
use Rattle.rules.specs.Lists.{each, table, every, count, lowest_from, same}
use Rattle.rules.specs.Cells.{Triple, neighbour, link_word}
use Rattle.rules.specs.Types as types
use Rattle.rules.specs.Cube as cube
use Rattle.rules.specs.Cube.{Shape, cube_words}
use Rattle.rules.specs.Mesh.{Quad, World, attribute_in, Lists, mesh_by, culled, laid, slotted}
use Rattle.rules.specs.Update.{Entry, Broken, Sides, Replaced, remove_at, remove, entry_at, Tested, source, itself, work, nothing, ops, run, moves, needed, course_from}
use Rattle.rules.specs.Answers as answers
use Rattle.rules.specs.Answers.{fine}
use Rattle.rules.specs.Calls.{Scene, Outcome, Answer, answered, refused, world, words_in, mesh_grid, update_verdict, entries_of, update_mesh}
use Rattle.rules.specs.Pairs.{pairs}
use Rattle.rules.specs.Program.{printed, bad_file, digits, build_from}

-- 0.0, 1.0, and three of one
abbrev pub ZERO : ℕ
ZERO = 0

abbrev pub ONE : ℕ
ONE = 0x3f80_0000

abbrev pub all : ℕ → Triple
all v = record { x = v; y = v; z = v }

-- a unit cube about the origin, each face with tile 0,0 of an atlas of one
abbrev unit : Shape
unit =
    record {
      d = all ONE;
      centre = all ZERO;
      atlas_width = 1;
      atlas_height = 1;
      texture = 0 ∷ 0 ∷ 0 ∷ 1 ∷ 0 ∷ 0 ∷ 2 ∷ 0 ∷ 0 ∷ 3 ∷ 0 ∷ 0 ∷ 4 ∷ 0 ∷ 0 ∷ 5 ∷ 0 ∷ 0 ∷ [];
      padding = ZERO;
      coloured = false;
      colour = ZERO;
      alpha = ZERO;
    }

-- its words, worked out once
abbrev pub UNIT_WORDS : List ℕ
UNIT_WORDS =
    0xbf000000 ∷ 0x3f000000 ∷ 0x3f000000 ∷ 0 ∷ 0x3f800000 ∷ 0 ∷ 0 ∷ 0 ∷
    0x3f000000 ∷ 0x3f000000 ∷ 0x3f000000 ∷ 0 ∷ 0x3f800000 ∷ 0 ∷ 0x3f800000 ∷ 0 ∷
    0x3f000000 ∷ 0x3f000000 ∷ 0xbf000000 ∷ 0 ∷ 0x3f800000 ∷ 0 ∷ 0x3f800000 ∷ 0x3f800000 ∷
    0xbf000000 ∷ 0x3f000000 ∷ 0xbf000000 ∷ 0 ∷ 0x3f800000 ∷ 0 ∷ 0 ∷ 0x3f800000 ∷
    0xbf000000 ∷ 0xbf000000 ∷ 0xbf000000 ∷ 0 ∷ 0xbf800000 ∷ 0 ∷ 0x3f800000 ∷ 0x3f800000 ∷
    0x3f000000 ∷ 0xbf000000 ∷ 0xbf000000 ∷ 0 ∷ 0xbf800000 ∷ 0 ∷ 0 ∷ 0x3f800000 ∷
    0x3f000000 ∷ 0xbf000000 ∷ 0x3f000000 ∷ 0 ∷ 0xbf800000 ∷ 0 ∷ 0 ∷ 0 ∷
    0xbf000000 ∷ 0xbf000000 ∷ 0x3f000000 ∷ 0 ∷ 0xbf800000 ∷ 0 ∷ 0x3f800000 ∷ 0 ∷
    0x3f000000 ∷ 0x3f000000 ∷ 0xbf000000 ∷ 0x3f800000 ∷ 0 ∷ 0 ∷ 0 ∷ 0 ∷
    0x3f000000 ∷ 0x3f000000 ∷ 0x3f000000 ∷ 0x3f800000 ∷ 0 ∷ 0 ∷ 0x3f800000 ∷ 0 ∷
    0x3f000000 ∷ 0xbf000000 ∷ 0x3f000000 ∷ 0x3f800000 ∷ 0 ∷ 0 ∷ 0x3f800000 ∷ 0x3f800000 ∷
    0x3f000000 ∷ 0xbf000000 ∷ 0xbf000000 ∷ 0x3f800000 ∷ 0 ∷ 0 ∷ 0 ∷ 0x3f800000 ∷
    0xbf000000 ∷ 0xbf000000 ∷ 0xbf000000 ∷ 0xbf800000 ∷ 0 ∷ 0 ∷ 0x3f800000 ∷ 0x3f800000 ∷
    0xbf000000 ∷ 0xbf000000 ∷ 0x3f000000 ∷ 0xbf800000 ∷ 0 ∷ 0 ∷ 0 ∷ 0x3f800000 ∷
    0xbf000000 ∷ 0x3f000000 ∷ 0x3f000000 ∷ 0xbf800000 ∷ 0 ∷ 0 ∷ 0 ∷ 0 ∷
    0xbf000000 ∷ 0x3f000000 ∷ 0xbf000000 ∷ 0xbf800000 ∷ 0 ∷ 0 ∷ 0x3f800000 ∷ 0 ∷
    0x3f000000 ∷ 0x3f000000 ∷ 0x3f000000 ∷ 0 ∷ 0 ∷ 0x3f800000 ∷ 0 ∷ 0 ∷
    0xbf000000 ∷ 0x3f000000 ∷ 0x3f000000 ∷ 0 ∷ 0 ∷ 0x3f800000 ∷ 0x3f800000 ∷ 0 ∷
    0xbf000000 ∷ 0xbf000000 ∷ 0x3f000000 ∷ 0 ∷ 0 ∷ 0x3f800000 ∷ 0x3f800000 ∷ 0x3f800000 ∷
    0x3f000000 ∷ 0xbf000000 ∷ 0x3f000000 ∷ 0 ∷ 0 ∷ 0x3f800000 ∷ 0 ∷ 0x3f800000 ∷
    0x3f000000 ∷ 0xbf000000 ∷ 0xbf000000 ∷ 0 ∷ 0 ∷ 0xbf800000 ∷ 0x3f800000 ∷ 0x3f800000 ∷
    0xbf000000 ∷ 0xbf000000 ∷ 0xbf000000 ∷ 0 ∷ 0 ∷ 0xbf800000 ∷ 0 ∷ 0x3f800000 ∷
    0xbf000000 ∷ 0x3f000000 ∷ 0xbf000000 ∷ 0 ∷ 0 ∷ 0xbf800000 ∷ 0 ∷ 0 ∷
    0x3f000000 ∷ 0x3f000000 ∷ 0xbf000000 ∷ 0 ∷ 0 ∷ 0xbf800000 ∷ 0x3f800000 ∷ 0 ∷
    []

unit_words : cube_words unit ≡ UNIT_WORDS
unfolding cube_words each cube.cube_word cube.corner_word cube.uv_word cube.uv_of cube.uv_in cube.last_naming cube.corners cube.uv_ends cube.axes ieee.to_bits ieee.sub ieee.div ieee.of_bits ieee.mul ieee.of_int
unit_words = refl

-- types: 0 Null covering nothing, 1 a cube covering all, 2 Null covering all, 3 a cube covering only Bottom, 4 only Top
abbrev pub scene : ℕ → ℕ → ℕ → Scene
scene w h l =
    record {
      size = record { w = w; h = h; l = l };
      types =
          record {
            coloured = false;
            kinds = 0 ∷ 1 ∷ 0 ∷ 1 ∷ 1 ∷ [];
            covers = 0 ∷ 63 ∷ 63 ∷ 2 ∷ 1 ∷ [];
            cubes = UNIT_WORDS ++ UNIT_WORDS ++ UNIT_WORDS ++ UNIT_WORDS ++ UNIT_WORDS;
          };
      d = all ONE;
      centre = all ZERO;
    }

-- room for n quads and c cells, filled with sevens
abbrev pub lent : ℕ → ℕ → Lists
lent n c =
    record {
      vertices = record { positions = replicate (12 * n) 7; normals = replicate (12 * n) 7; uvs = replicate (8 * n) 7; colours = [] };
      triangles = replicate (6 * n) 7;
      links = replicate n 7;
      slots = replicate (6 * c) 7;
    }

-- a mesh's quads, and after a log of one entry
abbrev fresh : ℕ → ℕ → ℕ → List ℕ → List ℕ → Bool → Outcome
fresh w h l outer g culling = mesh_grid (scene w h l) outer g culling (lent 54 27)

abbrev pub quads_in : Outcome → ℕ
quads_in o = o.answer.quads

-- Added above a cube, h = 2: cell 1, a type, beside a voxel of type 1 below
abbrev pub above : ℕ → List ℕ
above t = 1 ∷ 0 ∷ 0 ∷ 0 ∷ 1 ∷ t ∷ 255 ∷ 1 ∷ 255 ∷ 255 ∷ 255 ∷ 255 ∷ 255 ∷ 0 ∷ 0 ∷ 0 ∷ []

abbrev pub below : Outcome
below = mesh_grid (scene 1 2 1) [] (1 ∷ 0 ∷ []) true (lent 12 2)

abbrev pub with_above : Tested → ℕ → Outcome
with_above tested t = update_mesh tested (scene 1 2 1) (above t) below.lists (quads_in below)

abbrev keys : List Quad → List ℕ
keys [] = []
keys (q ∷ m) = q.key ∷ keys m

abbrev ten : List Quad
ten = table 10 (λ k. record { key = k; words = [] })

-- 1 to 5
unfoldable pub fresh_cases : List (List ℕ)
fresh_cases =
    -- 1. One cube
    (quads_in (fresh 1 1 1 [] (1 ∷ []) true) ∷ [])
    -- 2. Grid 1,1; Naive
    ∷ (quads_in (fresh 2 1 1 [] (1 ∷ 1 ∷ []) true) ∷ quads_in (fresh 2 1 1 [] (1 ∷ 1 ∷ []) false) ∷ [])
    -- 3. Grid 1,1 with Top outer
    ∷ (quads_in (fresh 2 1 1 (0 ∷ []) (1 ∷ 1 ∷ []) true) ∷ [])
    -- 4. 3×3×3 cubes
    ∷ (quads_in (fresh 3 3 3 [] (replicate 27 1) true) ∷ [])
    -- 5. Cube beside a Null covering all
    ∷ (quads_in (fresh 2 1 1 [] (1 ∷ 2 ∷ []) true) ∷ [])
    ∷ []

-- 6. Q = 10: removing quad 4 shifts, quad 3 swaps
unfoldable pub removal_cases : List (List ℕ)
removal_cases = keys (remove_at 4 ten) ∷ keys (remove_at 3 ten) ∷ []

-- 7. h=2, cube below, a cube type covering only Bottom Added above; fresh. 8. Covering only Top
unfoldable pub mended : Tested → ℕ → List ℕ
mended tested t = quads_in (with_above tested t) ∷ quads_in (fresh 1 2 1 [] (1 ∷ t ∷ []) true) ∷ []

-- 9. Added Null: as many quads as before (that nothing changes: `null_changes_nothing`, Idle)
unfoldable pub added : ℕ → List ℕ
added t = quads_in (with_above source t) ∷ []

-- what the cases work out
unfoldable pub cases : List (List ℕ)
cases = fresh_cases ++ (removal_cases ++ (mended source 3 ∷ mended source 4 ∷ added 0 ∷ (link_word 5 0 ∷ []) ∷ []))

-- the seventh and the eighth in the new mode (02, Q-2): as many quads as fresh
pub slab_cases : mended itself 3 ∷ mended itself 4 ∷ []
    ≡ (10 ∷ 10 ∷ [])
    ∷ (11 ∷ 11 ∷ [])
    ∷ []
unfolding mended answers.◌then◌ answers.refuse_if answers.bad_limits answers.BAD_TYPES answers.bad_counts lowest_from answers.bad_type answers.BAD_NUMBER answers.not_a_cube types.is_cube every types.classed types.class_of types.class_at types.class_on ieee.eq ieee.of_bits ieee.lt answers.room_of mesh_by each neighbour count laid attribute_in slotted answers.bad_link answers.BAD_LINKS same answers.bad_neighbours answers.bad_sides answers.bad_bytes answers.bad_former answers.bad_spare answers.bad_entry answers.BAD_ENTRY course_from entry_at needed ops remove remove_at types.quad_words
slab_cases = refl

fresh_are : fresh_cases ≡ (6 ∷ []) ∷ (10 ∷ 12 ∷ []) ∷ (8 ∷ []) ∷ (54 ∷ []) ∷ (5 ∷ []) ∷ []
unfolding fresh_cases answers.◌then◌ answers.refuse_if answers.bad_limits answers.BAD_TYPES answers.bad_counts lowest_from answers.bad_type answers.BAD_NUMBER answers.not_a_cube types.is_cube every types.classed types.class_of types.class_at types.class_on ieee.eq ieee.of_bits ieee.lt answers.room_of mesh_by each neighbour
fresh_are = refl

removals_are : removal_cases ≡ (0 ∷ 1 ∷ 2 ∷ 3 ∷ 5 ∷ 6 ∷ 7 ∷ 8 ∷ 9 ∷ []) ∷ (0 ∷ 1 ∷ 2 ∷ 9 ∷ 4 ∷ 5 ∷ 6 ∷ 7 ∷ 8 ∷ []) ∷ []
unfolding removal_cases remove_at each
removals_are = refl

mended_bottom : mended source 3 ≡ 11 ∷ 10 ∷ []
unfolding mended answers.◌then◌ answers.refuse_if answers.bad_limits answers.BAD_TYPES answers.bad_counts lowest_from answers.bad_type answers.BAD_NUMBER answers.not_a_cube types.is_cube every types.classed types.class_of types.class_at types.class_on ieee.eq ieee.of_bits ieee.lt answers.room_of mesh_by each neighbour count laid attribute_in slotted answers.bad_link answers.BAD_LINKS same answers.bad_neighbours answers.bad_sides answers.bad_bytes answers.bad_former answers.bad_spare answers.bad_entry answers.BAD_ENTRY course_from entry_at needed ops remove remove_at types.quad_words
mended_bottom = refl

mended_top : mended source 4 ≡ 10 ∷ 11 ∷ []
unfolding mended answers.◌then◌ answers.refuse_if answers.bad_limits answers.BAD_TYPES answers.bad_counts lowest_from answers.bad_type answers.BAD_NUMBER answers.not_a_cube types.is_cube every types.classed types.class_of types.class_at types.class_on ieee.eq ieee.of_bits ieee.lt answers.room_of mesh_by each neighbour count laid attribute_in slotted answers.bad_link answers.BAD_LINKS same answers.bad_neighbours answers.bad_sides answers.bad_bytes answers.bad_former answers.bad_spare answers.bad_entry answers.BAD_ENTRY course_from entry_at needed ops remove remove_at types.quad_words
mended_top = refl

null_is : added 0 ≡ 6 ∷ []
unfolding added answers.◌then◌ answers.refuse_if answers.bad_limits answers.BAD_TYPES answers.bad_counts lowest_from answers.bad_type answers.BAD_NUMBER answers.not_a_cube types.is_cube every types.classed types.class_of types.class_at types.class_on ieee.eq ieee.of_bits ieee.lt answers.room_of mesh_by each neighbour count laid attribute_in slotted answers.bad_link answers.BAD_LINKS same answers.bad_neighbours answers.bad_sides answers.bad_bytes answers.bad_former answers.bad_spare answers.bad_entry answers.BAD_ENTRY course_from entry_at needed ops remove remove_at types.quad_words
null_is = refl

-- the ninth is not refused, and its entry does nothing
pub null_unrefused : update_verdict (scene 1 2 1) (above 0) below.lists (quads_in below) ≡ fine
unfolding answers.◌then◌ answers.refuse_if answers.bad_limits answers.BAD_TYPES answers.bad_counts lowest_from answers.bad_type answers.BAD_NUMBER answers.not_a_cube types.is_cube every types.classed types.class_of types.class_at types.class_on ieee.eq ieee.of_bits ieee.lt answers.room_of mesh_by each neighbour count laid attribute_in slotted answers.bad_link answers.BAD_LINKS same answers.bad_neighbours answers.bad_sides answers.bad_bytes answers.bad_former answers.bad_spare answers.bad_entry answers.BAD_ENTRY course_from entry_at needed ops remove remove_at types.quad_words
null_unrefused = refl

pub null_idle : (k : ℕ) → k < 1 → work source (world (scene 1 2 1)) (entry_at (above 0) k) ≡ nothing
unfolding entry_at
null_idle zero h = refl
null_idle (suc k) h = absurd (omega arith)

-- the ten cases of 01, one after the other; the sixth has two rows
pub ten_cases : cases
    ≡ (6 ∷ [])
    ∷ (10 ∷ 12 ∷ [])
    ∷ (8 ∷ [])
    ∷ (54 ∷ [])
    ∷ (5 ∷ [])
    ∷ (0 ∷ 1 ∷ 2 ∷ 3 ∷ 5 ∷ 6 ∷ 7 ∷ 8 ∷ 9 ∷ []) ∷ (0 ∷ 1 ∷ 2 ∷ 9 ∷ 4 ∷ 5 ∷ 6 ∷ 7 ∷ 8 ∷ [])
    ∷ (11 ∷ 10 ∷ [])
    ∷ (10 ∷ 11 ∷ [])
    ∷ (6 ∷ [])
    ∷ (2684354565 ∷ [])
    ∷ []
unfolding cases
ten_cases = rw (fresh_are, removals_are, mended_bottom, mended_top, null_is)

-- ---- a quad's words: the cube's vertices 0, 1, 3, 2 of Top, one cell along x

abbrev HALF : ℕ
HALF = 0x3f00_0000

abbrev MINUS_HALF : ℕ
MINUS_HALF = 0xbf00_0000

abbrev ONE_AND_HALF : ℕ
ONE_AND_HALF = 0x3fc0_0000

pub quad_example : words_in (scene 2 1 1) 1 0 1
    ≡ HALF ∷ HALF ∷ HALF ∷ ZERO ∷ ONE ∷ ZERO ∷ ZERO ∷ ZERO
    ∷ ONE_AND_HALF ∷ HALF ∷ HALF ∷ ZERO ∷ ONE ∷ ZERO ∷ ONE ∷ ZERO
    ∷ HALF ∷ HALF ∷ MINUS_HALF ∷ ZERO ∷ ONE ∷ ZERO ∷ ZERO ∷ ONE
    ∷ ONE_AND_HALF ∷ HALF ∷ MINUS_HALF ∷ ZERO ∷ ONE ∷ ZERO ∷ ONE ∷ ONE
    ∷ []
unfolding types.quad_words types.quad_word types.order types.moved_word each ieee.to_bits ieee.add ieee.mul ieee.of_int ieee.of_bits
quad_example = refl

-- ---- Broken draws from the neighbour's type as given: type 1 goes from cell 0, and cell 1 shows its Left side as type 3's

abbrev told : World
told =
    record {
      size = record { w = 2; h = 1; l = 1 };
      kinds = 0 ∷ 1 ∷ 0 ∷ 1 ∷ [];
      covers = 0 ∷ 63 ∷ 0 ∷ 63 ∷ [];
      words_of = λ t f c. t ∷ f ∷ c ∷ [];
    }

abbrev dug : Entry
dug = record { cell = 0; change = Broken; type = 1; given = 255 ∷ 255 ∷ 3 ∷ 255 ∷ 255 ∷ 255 ∷ []; former = 1 }

abbrev word_lists : List Quad → List (List ℕ)
word_lists [] = []
word_lists (q ∷ m) = q.words ∷ word_lists m

pub broken_example : word_lists (run (ops (work source told dug)) []) ≡ (3 ∷ 3 ∷ 1 ∷ []) ∷ []
unfolding ops remove each neighbour
broken_example = refl

-- ---- Sides (02, Q-6) on quads of the faces 0, 2, .., 18. Of cell 1 Top, 6, goes, and the last quad takes its place; Bottom, 7, comes; Right, 8, is there; Left, 9, and
-- Back, 10, are kept; Forward, 11, is not there. A Null hides, and draws nothing

abbrev hide_and_draw : ℕ → Entry
hide_and_draw t = record { cell = 1; change = Sides; type = t; given = 1 ∷ 2 ∷ 2 ∷ 0 ∷ 0 ∷ 1 ∷ []; former = 255 }

abbrev even : List Quad
even = table 10 (λ k. record { key = 2 * k; words = [] })

-- the faces after it, how many have moved, and the room that it asks for
abbrev sides_case : ℕ → List (List ℕ)
sides_case t = let w = work source told (hide_and_draw t) in keys (run (ops w) even) ∷ (moves (ops w) even ∷ needed w even ∷ []) ∷ []

pub sides_cases : sides_case 1 ++ sides_case 0
    ≡ (0 ∷ 2 ∷ 4 ∷ 18 ∷ 8 ∷ 10 ∷ 12 ∷ 14 ∷ 16 ∷ 7 ∷ []) ∷ (1 ∷ 10 ∷ [])
    ∷ (0 ∷ 2 ∷ 4 ∷ 18 ∷ 8 ∷ 10 ∷ 12 ∷ 14 ∷ 16 ∷ []) ∷ (1 ∷ 9 ∷ [])
    ∷ []
unfolding ops needed remove remove_at each
sides_cases = refl

-- ---- Replaced (02, Q-7) on the fresh quads of grid 0,1, where type 0 is a cube that covers Right, 1 a cube that covers Left, 2 a Null that covers all. Cell 0 becomes a 1: its
-- five quads go; Left of cell 1, which 0 covered, comes; five are drawn of type 1; the source, which tests Left, takes that of cell 1 again, the new mode, which tests Right, does not.
-- If cell 0 becomes a 2, the second half does nothing

abbrev swap : World
swap =
    record {
      size = record { w = 2; h = 1; l = 1 };
      kinds = 1 ∷ 1 ∷ 0 ∷ [];
      covers = 4 ∷ 8 ∷ 63 ∷ [];
      words_of = λ t f c. t ∷ f ∷ c ∷ [];
    }

abbrev swapped : ℕ → Entry
swapped t = record { cell = 0; change = Replaced; type = t; given = 255 ∷ 255 ∷ 1 ∷ 255 ∷ 255 ∷ 255 ∷ []; former = 0 }

-- the words after it, how many have moved, and the room that it asks for
abbrev replaced_case : Tested → ℕ → List (List ℕ) × List ℕ
replaced_case tested t =
    let w = work tested swap (swapped t) in
    let before = culled swap [] (0 ∷ 1 ∷ []) in
    (word_lists (run (ops w) before), moves (ops w) before ∷ needed w before ∷ [])

pub replaced_cases : replaced_case source 1 ∷ replaced_case itself 1 ∷ replaced_case source 2 ∷ []
    ≡ ((1 ∷ 5 ∷ 1 ∷ []) ∷ (1 ∷ 4 ∷ 1 ∷ []) ∷ (1 ∷ 0 ∷ 1 ∷ []) ∷ (1 ∷ 1 ∷ 1 ∷ []) ∷ (1 ∷ 2 ∷ 1 ∷ []) ∷ (1 ∷ 0 ∷ 0 ∷ []) ∷ (1 ∷ 1 ∷ 0 ∷ []) ∷ (1 ∷ 3 ∷ 0 ∷ []) ∷ (1 ∷ 4 ∷ 0 ∷ []) ∷ (1 ∷ 5 ∷ 0 ∷ []) ∷ [], 19 ∷ 11 ∷ [])
    ∷ ((1 ∷ 5 ∷ 1 ∷ []) ∷ (1 ∷ 4 ∷ 1 ∷ []) ∷ (1 ∷ 0 ∷ 1 ∷ []) ∷ (1 ∷ 1 ∷ 1 ∷ []) ∷ (1 ∷ 2 ∷ 1 ∷ []) ∷ (1 ∷ 3 ∷ 1 ∷ []) ∷ (1 ∷ 0 ∷ 0 ∷ []) ∷ (1 ∷ 1 ∷ 0 ∷ []) ∷ (1 ∷ 3 ∷ 0 ∷ []) ∷ (1 ∷ 4 ∷ 0 ∷ []) ∷ (1 ∷ 5 ∷ 0 ∷ []) ∷ [], 14 ∷ 11 ∷ [])
    ∷ ((1 ∷ 5 ∷ 1 ∷ []) ∷ (1 ∷ 4 ∷ 1 ∷ []) ∷ (1 ∷ 0 ∷ 1 ∷ []) ∷ (1 ∷ 1 ∷ 1 ∷ []) ∷ (1 ∷ 2 ∷ 1 ∷ []) ∷ (1 ∷ 3 ∷ 1 ∷ []) ∷ [], 14 ∷ 6 ∷ [])
    ∷ []
unfolding ops needed remove remove_at each neighbour mesh_by
replaced_cases = refl

-- ---- out of room: grid 1,1, cell 0 is dug, then filled again. Where there is room for ten quads the second entry, which asks for eleven before the facing quad goes, finds none

abbrev tight : Outcome
tight = mesh_grid (scene 2 1 1) [] (1 ∷ 1 ∷ []) true (lent 10 2)

abbrev tightly : List ℕ → Answer
tightly log = (update_mesh source (scene 2 1 1) log tight.lists tight.answer.quads).answer

abbrev pub dig_and_fill : List ℕ
dig_and_fill =
    0 ∷ 0 ∷ 0 ∷ 0 ∷ 0 ∷ 1 ∷ 255 ∷ 255 ∷ 1 ∷ 255 ∷ 255 ∷ 255 ∷ 1 ∷ 0 ∷ 0 ∷ 0
    ∷ 0 ∷ 0 ∷ 0 ∷ 0 ∷ 1 ∷ 1 ∷ 255 ∷ 255 ∷ 1 ∷ 255 ∷ 255 ∷ 255 ∷ 255 ∷ 0 ∷ 0 ∷ 0 ∷ []

pub no_room_case : tightly dig_and_fill ≡ record { number = 14; place = 1; quads = 6; moved = 14 }
unfolding answers.◌then◌ answers.refuse_if answers.bad_limits answers.BAD_TYPES answers.bad_counts lowest_from answers.bad_type answers.BAD_NUMBER answers.not_a_cube types.is_cube every types.classed types.class_of types.class_at types.class_on ieee.eq ieee.of_bits ieee.lt answers.room_of mesh_by each neighbour count laid attribute_in slotted answers.bad_link answers.BAD_LINKS same answers.bad_neighbours answers.bad_sides answers.bad_bytes answers.bad_former answers.bad_spare answers.bad_entry answers.BAD_ENTRY course_from entry_at needed ops remove remove_at types.quad_words
no_room_case = refl

-- ---- Sides of cell 0 in the same room: Top goes and Right comes; Right alone finds no room; a byte of 3 and a former type are refused

abbrev top_and_right : ℕ → ℕ → ℕ → List ℕ
top_and_right top right former = 0 ∷ 0 ∷ 0 ∷ 0 ∷ 2 ∷ 1 ∷ top ∷ 0 ∷ right ∷ 0 ∷ 0 ∷ 0 ∷ former ∷ 0 ∷ 0 ∷ 0 ∷ []

pub sides_answers : tightly (top_and_right 1 2 255) ∷ tightly (top_and_right 0 2 255) ∷ tightly (top_and_right 0 3 255) ∷ tightly (top_and_right 1 2 1) ∷ []
    ≡ answered 10 1 ∷ record { number = 14; place = 0; quads = 10; moved = 0 } ∷ refused 13 0 ∷ refused 13 0 ∷ []
unfolding answers.◌then◌ answers.refuse_if answers.bad_limits answers.BAD_TYPES answers.bad_counts lowest_from answers.bad_type answers.BAD_NUMBER answers.not_a_cube types.is_cube every types.classed types.class_of types.class_at types.class_on ieee.eq ieee.of_bits ieee.lt answers.room_of mesh_by each neighbour count laid attribute_in slotted answers.bad_link answers.BAD_LINKS same answers.bad_neighbours answers.bad_sides answers.bad_bytes answers.bad_former answers.bad_spare answers.bad_entry answers.BAD_ENTRY course_from entry_at needed ops remove remove_at types.quad_words
sides_answers = refl

-- ---- Replaced in the same room: the first half leaves six quads, the second asks for eleven, and nothing is done; for a Null it asks for none

abbrev beside : ℕ → ℕ → ℕ → ℕ → List ℕ
beside change type former spare = 0 ∷ 0 ∷ 0 ∷ 0 ∷ change ∷ type ∷ 255 ∷ 255 ∷ 1 ∷ 255 ∷ 255 ∷ 255 ∷ former ∷ 0 ∷ spare ∷ 0 ∷ []

pub replaced_answers : tightly (beside 3 1 1 0) ∷ tightly (beside 3 0 1 0) ∷ []
    ≡ record { number = 14; place = 0; quads = 10; moved = 0 } ∷ answered 6 14 ∷ []
unfolding answers.◌then◌ answers.refuse_if answers.bad_limits answers.BAD_TYPES answers.bad_counts lowest_from answers.bad_type answers.BAD_NUMBER answers.not_a_cube types.is_cube every types.classed types.class_of types.class_at types.class_on ieee.eq ieee.of_bits ieee.lt answers.room_of mesh_by each neighbour count laid attribute_in slotted answers.bad_link answers.BAD_LINKS same answers.bad_neighbours answers.bad_sides answers.bad_bytes answers.bad_former answers.bad_spare answers.bad_entry answers.BAD_ENTRY course_from entry_at needed ops remove remove_at types.quad_words
replaced_answers = refl

-- in bytes: the first of these, and cell 0 dug and filled, are the same single changes
pub same_changes : pairs (entries_of (beside 3 1 1 0)) ≡ pairs (entries_of dig_and_fill)
unfolding each entry_at
same_changes = refl

-- a former type that is none, one that Broken does not repeat, one in Added, a spare byte, a code 4
pub former_refused : tightly (beside 3 0 5 0) ∷ tightly (beside 3 0 255 0) ∷ tightly (beside 0 1 3 0) ∷ tightly (beside 1 1 1 0) ∷ tightly (beside 0 1 1 1) ∷ tightly (beside 4 0 1 0) ∷ []
    ≡ refused 13 0 ∷ refused 13 0 ∷ refused 13 0 ∷ refused 13 0 ∷ refused 13 0 ∷ refused 13 0 ∷ []
unfolding answers.◌then◌ answers.refuse_if answers.bad_limits answers.BAD_TYPES answers.bad_counts lowest_from answers.bad_type answers.BAD_NUMBER answers.not_a_cube types.is_cube every types.classed types.class_of types.class_at types.class_on ieee.eq ieee.of_bits ieee.lt answers.room_of mesh_by each neighbour count laid attribute_in slotted answers.bad_link answers.BAD_LINKS same answers.bad_neighbours answers.bad_sides answers.bad_bytes answers.bad_former answers.bad_spare answers.bad_entry answers.BAD_ENTRY course_from entry_at needed ops remove remove_at types.quad_words
former_refused = refl

-- ---- the program's example

abbrev u32 : ℕ → List ℕ
u32 n = n ∷ 0 ∷ 0 ∷ 0 ∷ []

abbrev ONE_BYTES : List ℕ
ONE_BYTES = 0 ∷ 0 ∷ 128 ∷ 63 ∷ []

-- faces 0 to 5 with tile 0,0
abbrev texture : List ℕ
texture = each 6 0 (λ f. u32 f ++ u32 0 ++ u32 0)

-- types, grid, log, trailer
unfoldable pub file : List ℕ
file =
    ((0 ∷ 0 ∷ texture) ++ (1 ∷ 63 ∷ texture)) ++ (1 ∷ 1 ∷ []) ++ (0 ∷ 0 ∷ 0 ∷ 0 ∷ 0 ∷ 1 ∷ 255 ∷ 255 ∷ 1 ∷ 255 ∷ 255 ∷ 255 ∷ 1 ∷ 0 ∷ 0 ∷ 0 ∷ [])
    ++ u32 166 ++ u32 18 ++ u32 16 ++ u32 2 ++ u32 1 ++ u32 2 ++ u32 1 ++ u32 1 ++ u32 0 ++ u32 1
    ++ ONE_BYTES ++ ONE_BYTES ++ ONE_BYTES ++ u32 0 ++ u32 0 ++ u32 0 ++ u32 1 ++ u32 1 ++ u32 0 ++ u32 0 ++ u32 0 ++ u32 0 ++ u32 92

abbrev line : ℕ → ℕ → ℕ → List ℕ
line q c f = (48 + q) ∷ 32 ∷ (48 + c) ∷ 32 ∷ (48 + f) ∷ 10 ∷ []

-- quads 6 moved 14
abbrev output : List ℕ
output =
    (113 ∷ 117 ∷ 97 ∷ 100 ∷ 115 ∷ 32 ∷ 54 ∷ 32 ∷ 109 ∷ 111 ∷ 118 ∷ 101 ∷ 100 ∷ 32 ∷ 49 ∷ 52 ∷ 10 ∷ [])
    ++ line 0 1 5 ++ line 1 1 4 ++ line 2 1 0 ++ line 3 1 1 ++ line 4 1 2 ++ line 5 1 3

pub program_example : printed file ≡ output
unfolding file answers.◌then◌ answers.refuse_if printed bad_file digits build_from cube_words cube.cube_word cube.corner_word cube.uv_word cube.uv_of cube.uv_in cube.last_naming cube.corners cube.uv_ends cube.axes ieee.to_bits ieee.sub ieee.div ieee.mul ieee.of_int answers.bad_atlas answers.BAD_TEXTURE types.quad_words types.quad_word types.order types.moved_word answers.bad_limits answers.BAD_TYPES answers.bad_counts lowest_from answers.bad_type answers.BAD_NUMBER answers.not_a_cube types.is_cube every count types.classed types.class_of types.class_at types.class_on ieee.eq ieee.of_bits ieee.lt answers.room_of mesh_by each neighbour laid attribute_in slotted answers.bad_link answers.BAD_LINKS same answers.bad_neighbours answers.bad_sides answers.bad_bytes answers.bad_former answers.bad_spare answers.bad_entry answers.BAD_ENTRY course_from entry_at needed ops remove remove_at
program_example = refl
