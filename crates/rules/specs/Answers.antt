-- 01, "Limits and answers"; 02, Q-6, Q-7 and Q-8: the refusals, each with its condition and its place. Definitions only.
use Rattle.std.specs.Prelude.{ℕ, ◌+◌, ◌*◌, ◌/◌, ◌%◌, min, Bool, cond, not, ◌&&◌, ◌||◌, List, length, get_or, eqb, leb, ltb}
use Rattle.rules.specs.Lists.{every, count, lowest, row, same}
use Rattle.rules.specs.Cells.{Size, Triple, cells, cell_in, code_in, key_in, first_vertex}
use Rattle.rules.specs.Floats.{finite, finite3}
use Rattle.rules.specs.Types.{Types, floats, cube_of, is_cube}
use Rattle.rules.specs.Cube.{Shape, floats_of}
use Rattle.rules.specs.Mesh.{Quad, World, Lists, NONE, drawn, there, pattern, type_at}
use Rattle.rules.specs.Update.{Change, Broken, Added, Sides, Replaced, change_of, ENTRY_BYTES, u32_at}

-- nothing to refuse, or a refusal with its number and its place
pub data Verdict : Type 0 where
  fine : Verdict
  refuse : ℕ → ℕ → Verdict

-- those that apply are tried in order: the first one stands
infixr 20 ◌then◌
unfoldable pub ◌then◌ : Verdict → Verdict → Verdict
fine then v = v
refuse n p then v = refuse n p

unfoldable pub refuse_if : Bool → ℕ → ℕ → Verdict
refuse_if b n p = cond b (refuse n p) fine

-- the lowest of n that is bad, where there is one
abbrev pub refuse_lowest : ℕ → ℕ → (ℕ → Bool) → Verdict
refuse_lowest number n bad = refuse_if (ltb (lowest n bad) n) number (lowest n bad)

abbrev pub out_of : ℕ → ℕ → ℕ → Bool
out_of n low high = ltb n low || ltb high n

-- ---- 2: each size 1 to 1,024; at most 1,048,576 cells; grid length

unfoldable pub bad_limits : Size → Bool
bad_limits s = out_of s.w 1 1024 || out_of s.h 1 1024 || out_of s.l 1 1024 || ltb 1048576 (cells s)

abbrev pub BAD_SIZE : Size → Verdict
BAD_SIZE s = refuse_if (bad_limits s) 2 0

abbrev pub BAD_GRID : Size → List ℕ → Verdict
BAD_GRID s g = refuse_if (not (eqb (length g) (cells s))) 2 0

-- ---- 3: count and list lengths, place 255, tried first; kind > 2 or set > 63, the lowest type

unfoldable pub bad_counts : Types → Bool
bad_counts T =
    out_of (length T.kinds) 1 255 || not (eqb (length T.covers) (length T.kinds))
    || not (eqb (length T.cubes) (24 * floats T * length T.kinds))

unfoldable pub bad_type : Types → ℕ → Bool
bad_type T t = ltb 2 (get_or T.kinds t 0) || ltb 63 (get_or T.covers t 0)

unfoldable pub BAD_TYPES : Types → Verdict
BAD_TYPES T = refuse_if (bad_counts T) 3 255 then refuse_lowest 3 (length T.kinds) (bad_type T)

-- ---- 4: d, centre or padding not finite

unfoldable pub BAD_NUMBER : Triple → Triple → ℕ → Verdict
BAD_NUMBER d centre padding = refuse_if (not (finite3 d && finite3 centre && finite padding)) 4 0

-- ---- 5: atlas 1 to 4,096, tiles 0 to 4,095

abbrev pub entries : List ℕ → ℕ
entries texture = length texture / 3

abbrev pub bad_tile : List ℕ → ℕ → Bool
bad_tile texture i = ltb 4095 (get_or texture (3 * i + 1) 0) || ltb 4095 (get_or texture (3 * i + 2) 0)

unfoldable pub bad_atlas : Shape → Bool
bad_atlas q =
    out_of q.atlas_width 1 4096 || out_of q.atlas_height 1 4096 || not (every (entries q.texture) (λ i. not (bad_tile q.texture i)))

abbrev pub BAD_ATLAS : Shape → Verdict
BAD_ATLAS q = refuse_if (bad_atlas q) 5 0

-- ---- 6: a NormalCube that is no cube, the lowest type

unfoldable pub not_a_cube : Types → Triple → ℕ → Bool
not_a_cube T centre t = eqb (get_or T.kinds t 0) 1 && not (is_cube (cube_of T t) (floats T) centre)

abbrev pub NOT_A_CUBE : Types → Triple → Verdict
NOT_A_CUBE T centre = refuse_lowest 6 (length T.kinds) (not_a_cube T centre)

-- ---- 7: outer or texture face > 5, the lowest position; a texture list not six, place 6

abbrev pub BAD_OUTER : List ℕ → Verdict
BAD_OUTER outer = refuse_lowest 7 (length outer) (λ i. ltb 5 (get_or outer i 0))

unfoldable pub BAD_TEXTURE : List ℕ → Verdict
BAD_TEXTURE texture = refuse_lowest 7 (entries texture) (λ i. ltb 5 (get_or texture (3 * i) 0)) then refuse_if (not (eqb (length texture) 18)) 7 6

-- ---- 8: a grid code that is not a type, the lowest cell

abbrev pub BAD_CELL : Types → List ℕ → Verdict
BAD_CELL T g = refuse_lowest 8 (length g) (λ c. leb (length T.kinds) (get_or g c 0))

-- ---- 9: slots under 6 a cell; cube room under 24 vertices

abbrev pub SHORT_SLOTS : Size → Lists → Verdict
SHORT_SLOTS s B = refuse_if (ltb (length B.slots) (6 * cells s)) 9 0

abbrev pub SHORT_CUBE : Bool → List ℕ → Verdict
SHORT_CUBE coloured out = refuse_if (ltb (length out) (24 * floats_of coloured)) 9 0

-- ---- room in quads: the least over all lists, the colour list counted only with colour (02, Q-8)

unfoldable pub room_of : Bool → Lists → ℕ
room_of coloured B =
    let vs = B.vertices in
    let others = min (length vs.positions / 12) (min (length vs.normals / 12) (min (length vs.uvs / 8) (min (length B.triangles / 6) (length B.links)))) in
    cond coloured (min (length vs.colours / 16) others) others

-- ---- 10: Q over the room

abbrev pub BAD_COUNT : ℕ → ℕ → Verdict
BAD_COUNT room Q = refuse_if (ltb room Q) 10 0

-- ---- 11: a link's code > 5, cell outside, or slot not 4q, the lowest quad; more filled slots than Q, place Q

abbrev pub slot_at : Lists → ℕ → ℕ
slot_at B k = get_or B.slots k NONE

unfoldable pub bad_link : ℕ → Lists → ℕ → Bool
bad_link cells B q =
    let word = get_or B.links q 0 in
    ltb 5 (code_in word) || leb cells (cell_in word) || not (eqb (slot_at B (key_in word)) (first_vertex q))

abbrev pub is_filled : List ℕ → ℕ → Bool
is_filled slots k = not (eqb (get_or slots k NONE) NONE)

abbrev pub slots_filled : ℕ → Lists → ℕ
slots_filled n B = count n (is_filled B.slots)

unfoldable pub BAD_LINKS : ℕ → Lists → ℕ → Verdict
BAD_LINKS cells B Q = refuse_lowest 11 Q (bad_link cells B) then refuse_if (ltb Q (slots_filled (6 * cells) B)) 11 Q

-- ---- 12: pattern, the lowest quad

abbrev pub BAD_TRIANGLES : Lists → ℕ → Verdict
BAD_TRIANGLES B Q = refuse_lowest 12 Q (λ q. not (same (row 6 B.triangles q) (pattern q)))

-- ---- 13: cell, change, type, neighbour, a side byte over 2 in Sides (02, Q-6), a wrong former type or a nonzero spare byte (02, Q-7); an entry past the limit; the lowest
-- entry. A ragged end is tried last

abbrev pub bad_neighbour : ℕ → ℕ → Bool
bad_neighbour types t = leb types t && not (eqb t 255)

-- of the six bytes of the entry that starts at `at` one is bad: as neighbours, or in Sides as side bytes
unfoldable pub bad_neighbours : ℕ → List ℕ → ℕ → Bool
bad_neighbours types log at = not (every 6 (λ f. not (bad_neighbour types (get_or log (at + (6 + f)) 0))))

unfoldable pub bad_sides : List ℕ → ℕ → Bool
bad_sides log at = not (every 6 (λ f. not (ltb 2 (get_or log (at + (6 + f)) 0))))

unfoldable pub bad_bytes : ℕ → List ℕ → ℕ → Bool
bad_bytes types log at = cond (eqb (get_or log (at + 4) 0) 2) (bad_sides log at) (bad_neighbours types log at)

-- for Broken the former type must repeat the type, for Added and Sides it is 255, for Replaced it is a type
abbrev pub bad_former_by : ℕ → ℕ → ℕ → Change → Bool
bad_former_by types type former Broken = not (eqb former type)
bad_former_by types type former Added = not (eqb former 255)
bad_former_by types type former Sides = not (eqb former 255)
bad_former_by types type former Replaced = leb types former

unfoldable pub bad_former : ℕ → List ℕ → ℕ → Bool
bad_former types log at = bad_former_by types (get_or log (at + 5) 0) (get_or log (at + 12) 0) (change_of (get_or log (at + 4) 0))

-- the three spare bytes are zero
unfoldable pub bad_spare : List ℕ → ℕ → Bool
bad_spare log at = not (eqb (get_or log (at + 13) 0) 0 && eqb (get_or log (at + 14) 0) 0 && eqb (get_or log (at + 15) 0) 0)

unfoldable pub bad_entry : ℕ → ℕ → List ℕ → ℕ → Bool
bad_entry cells types log k =
    let at = ENTRY_BYTES * k in
    leb 16777216 k || leb cells (u32_at log at) || ltb 3 (get_or log (at + 4) 0) || leb types (get_or log (at + 5) 0) || bad_bytes types log at
    || bad_former types log at || bad_spare log at

unfoldable pub BAD_ENTRY : ℕ → ℕ → List ℕ → Verdict
BAD_ENTRY cells types log =
    refuse_lowest 13 (length log / ENTRY_BYTES) (bad_entry cells types log) then refuse_if (not (eqb (length log % ENTRY_BYTES) 0)) 13 (length log / ENTRY_BYTES)

-- ---- 14: the quads needed exceed the room

abbrev pub NO_ROOM : ℕ → ℕ → Verdict
NO_ROOM room quads = refuse_if (ltb room quads) 14 0

-- ---- 15: a face missing or extra, the lowest 6·cell + face

abbrev pub unlike : Bool → Bool → Bool
unlike a b = cond a (not b) b

unfoldable pub wrong_face : World → List ℕ → List ℕ → List Quad → ℕ → Bool
wrong_face W outer g m k = unlike (drawn W outer g (k / 6) (k % 6)) (there k m)

abbrev pub WRONG_SET : World → List ℕ → List ℕ → List Quad → Verdict
WRONG_SET W outer g m = refuse_lowest 15 (6 * cells W.size) (wrong_face W outer g m)

-- ---- 16: the first quad that differs in any of its floats, compared as bits

unfoldable pub wrong_vertex : World → List ℕ → Quad → Bool
wrong_vertex W g x = not (same x.words (W.words_of (type_at g (x.key / 6)) (x.key % 6) (x.key / 6)))

abbrev pub WRONG_VERTEX : World → List ℕ → (ℕ → Quad) → ℕ → Verdict
WRONG_VERTEX W g quad Q = refuse_lowest 16 Q (λ q. wrong_vertex W g (quad q))
