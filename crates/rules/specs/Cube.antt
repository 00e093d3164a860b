-- 01, "The types": the words of a cube's 24 vertices. Definitions only.
use Rattle.std.specs.Prelude.{ℕ, zero, suc, ◌+◌, ◌-◌, ◌*◌, ◌/◌, ◌%◌, Bool, true, false, cond, List, [], ◌∷◌, get_or, eqb, ltb, Float}
use Rattle.std.proofs.Math.Option.{Option, none, some}
use Rattle.std.specs.Float.{binary32}
use Rattle.std.specs.Float.Ieee.{add, sub, mul, div, to_bits}
use Rattle.rules.specs.Lists.{each, table}
use Rattle.rules.specs.Floats.{f32, whole, one, two}
use Rattle.rules.specs.Cells.{Triple, along}

-- what a cube is made from; the texture is six entries of three words: face, a, b
pub record Shape : Type 0 where
  pub d : Triple
  pub centre : Triple
  pub atlas_width : ℕ
  pub atlas_height : ℕ
  pub texture : List ℕ
  pub padding : ℕ
  pub coloured : Bool
  pub colour : ℕ
  pub alpha : ℕ

-- Every vertex has 8 floats (position 3, normal 3, uv 2), or 12 with colour
abbrev pub floats_of : Bool → ℕ
floats_of coloured = cond coloured 12 8

-- Cube corners, by sign per axis, four a face
abbrev m : ℕ
m = 0

abbrev p : ℕ
p = 1

unfoldable pub corners : List ℕ
corners =
    m ∷ p ∷ p ∷ p ∷ p ∷ p ∷ p ∷ p ∷ m ∷ m ∷ p ∷ m ∷
    m ∷ m ∷ m ∷ p ∷ m ∷ m ∷ p ∷ m ∷ p ∷ m ∷ m ∷ p ∷
    p ∷ p ∷ m ∷ p ∷ p ∷ p ∷ p ∷ m ∷ p ∷ p ∷ m ∷ m ∷
    m ∷ m ∷ m ∷ m ∷ m ∷ p ∷ m ∷ p ∷ p ∷ m ∷ p ∷ m ∷
    p ∷ p ∷ p ∷ m ∷ p ∷ p ∷ m ∷ m ∷ p ∷ p ∷ m ∷ p ∷
    p ∷ m ∷ m ∷ m ∷ m ∷ m ∷ m ∷ p ∷ m ∷ p ∷ p ∷ m ∷
    []

abbrev pub is_high : ℕ → ℕ → Bool
is_high vertex axis = eqb (get_or corners (3 * vertex + axis) 0) 1

-- High is d/2 + c; low is high - d
abbrev pub high_of : ℕ → ℕ → Float
high_of d c = add binary32 (div binary32 (f32 d) two) (f32 c)

abbrev pub low_of : ℕ → ℕ → Float
low_of d c = sub binary32 (high_of d c) (f32 d)

unfoldable pub corner_word : Bool → ℕ → ℕ → ℕ
corner_word high d c = to_bits binary32 (cond high (high_of d c) (low_of d c))

-- u = 1/atlas width and p = padding/atlas width. A tile a gives uv start a·u + p and end (start + u) - p·2; an unnamed face has
-- start 0, without padding
abbrev pub unit_of : ℕ → Float
unit_of atlas = div binary32 one (whole atlas)

abbrev pub pad_of : ℕ → ℕ → Float
pad_of padding atlas = div binary32 (f32 padding) (whole atlas)

abbrev pub start_of : Bool → ℕ → ℕ → ℕ → Float
start_of named tile atlas padding = cond named (add binary32 (mul binary32 (whole tile) (unit_of atlas)) (pad_of padding atlas)) (f32 0)

abbrev pub end_of : Bool → ℕ → ℕ → ℕ → Float
end_of named tile atlas padding =
    sub binary32 (add binary32 (start_of named tile atlas padding) (unit_of atlas)) (mul binary32 (pad_of padding atlas) two)

unfoldable pub uv_word : Bool → Bool → ℕ → ℕ → ℕ → ℕ
uv_word end named tile atlas padding = to_bits binary32 (cond end (end_of named tile atlas padding) (start_of named tile atlas padding))

-- Top, Right, Back take (s,s) (e,s) (e,e) (s,e); Bottom, Left, Forward take (e,e) (s,e) (s,s) (e,s)
abbrev s : ℕ
s = 0

abbrev e : ℕ
e = 1

unfoldable pub uv_ends : List ℕ
uv_ends =
    s ∷ s ∷ e ∷ s ∷ e ∷ e ∷ s ∷ e ∷
    e ∷ e ∷ s ∷ e ∷ s ∷ s ∷ e ∷ s ∷
    []

abbrev pub is_end : ℕ → ℕ → Bool
is_end vertex axis = eqb (get_or uv_ends (8 * (vertex / 4 % 2) + 2 * (vertex % 4) + axis) 0) 1

-- Six (face, tile) entries are given; the last for a face wins: its number
unfoldable pub last_naming : List ℕ → ℕ → ℕ → Option ℕ
last_naming texture face zero = none
last_naming texture face (suc n) = cond (eqb (get_or texture (3 * n) 0) face) (some n) (last_naming texture face n)

abbrev pub atlas_along : Shape → ℕ → ℕ
atlas_along q axis = cond (eqb axis 0) q.atlas_width q.atlas_height

-- where the tile of an entry starts or ends, and that of an unnamed face
unfoldable pub uv_in : Shape → Option ℕ → Bool → ℕ → ℕ
uv_in q none end axis = uv_word end false 0 (atlas_along q axis) q.padding
uv_in q (some n) end axis = uv_word end true (get_or q.texture (3 * n + 1 + axis) 0) (atlas_along q axis) q.padding

unfoldable pub uv_of : Shape → ℕ → ℕ → ℕ
uv_of q vertex axis = uv_in q (last_naming q.texture (vertex / 4) 6) (is_end vertex axis) axis

-- The normal is the face's unit axis with +0.0 elsewhere
unfoldable pub axes : List ℕ
axes = 1 ∷ 1 ∷ 0 ∷ 0 ∷ 2 ∷ 2 ∷ []

abbrev pub normal_of : ℕ → ℕ → ℕ
normal_of face axis = cond (eqb (get_or axes face 0) axis) (cond (eqb (face % 2) 0) 0x3f80_0000 0xbf80_0000) 0

-- word k of a vertex: 0 to 2 position, 3 to 5 normal, 6 and 7 uv, then the colour (c,c,c,alpha)
unfoldable pub cube_word : Shape → ℕ → ℕ → ℕ
cube_word q vertex k =
    cond (ltb k 3) (corner_word (is_high vertex k) (along q.d k) (along q.centre k))
    (cond (ltb k 6) (normal_of (vertex / 4) (k - 3))
    (cond (ltb k 8) (uv_of q vertex (k - 6))
    (cond (ltb k 11) q.colour q.alpha)))

-- the 24 vertices, one after the other
unfoldable pub cube_words : Shape → List ℕ
cube_words q = each 24 0 (λ vertex. table (floats_of q.coloured) (cube_word q vertex))

-- Triangles of face f: 4f + 0,1,3 and 2,3,1
abbrev pub face_triangles : ℕ → List ℕ
face_triangles f = (4 * f) ∷ (4 * f + 1) ∷ (4 * f + 3) ∷ (4 * f + 2) ∷ (4 * f + 3) ∷ (4 * f + 1) ∷ []

-- these 36 words are a constant
abbrev pub cube_triangles : List ℕ
cube_triangles = each 6 0 face_triangles
