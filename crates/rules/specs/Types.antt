-- 01, "The types": kinds, covering sets and the registry's floats; which cubes are cubes. Definitions only.
use Rattle.std.specs.Prelude.{ℕ, ◌+◌, ◌*◌, ◌/◌, ◌%◌, Bool, false, cond, ◌&&◌, List, [], ◌∷◌, get_or, eqb, ltb}
use Rattle.std.proofs.Math.Option.{Option, none, some}
use Rattle.std.specs.Float.Ieee.{eq, lt, add, mul, to_bits}
use Rattle.std.specs.Float.{binary32}
use Rattle.rules.specs.Lists.{each, table, part, every}
use Rattle.rules.specs.Cells.{Triple, along, only_if}
use Rattle.rules.specs.Floats.{f32, whole, finite}
use Rattle.rules.specs.Cube.{floats_of}

-- Each has a kind (0 Null, 1 NormalCube, 2 CustomMesh) and a covering side set; the registry's floats are 24 vertices a type
pub record Types : Type 0 where
  pub coloured : Bool
  pub kinds : List ℕ
  pub covers : List ℕ
  pub cubes : List ℕ

abbrev pub floats : Types → ℕ
floats T = floats_of T.coloured

-- the stretch of 24 vertices that belongs to one type
abbrev pub cube_of : Types → ℕ → List ℕ
cube_of T t = part (24 * floats T * t) (24 * floats T) T.cubes

-- ---- a triangle's class

-- on one axis, where the three corners' coordinates are equal: the low face if centre > that one, else the high one
unfoldable pub class_on : ℕ → ℕ → ℕ → ℕ → ℕ → ℕ → Option ℕ
class_on low high centre a b c =
    only_if (eq (f32 a) (f32 b) && eq (f32 b) (f32 c) && eq (f32 a) (f32 c)) (cond (lt (f32 a) (f32 centre)) low high)

-- the coordinate of vertex i of a cube
abbrev pub position_of : List ℕ → ℕ → ℕ → ℕ → ℕ
position_of cube n i axis = get_or cube (n * i + axis) 0

unfoldable pub class_at : List ℕ → ℕ → Triple → ℕ → ℕ → ℕ → ℕ → ℕ → ℕ → Option ℕ
class_at cube n centre axis low high i j k =
    class_on low high (along centre axis) (position_of cube n i axis) (position_of cube n j axis) (position_of cube n k axis)

abbrev pub or_else : Option ℕ → Option ℕ → Option ℕ
or_else none y = y
or_else (some x) y = some x

-- the first axis on which its three corners are equal
unfoldable pub class_of : List ℕ → ℕ → Triple → ℕ → ℕ → ℕ → Option ℕ
class_of cube n centre i j k =
    or_else (class_at cube n centre 0 3 2 i j k) (or_else (class_at cube n centre 1 1 0 i j k) (class_at cube n centre 2 5 4 i j k))

abbrev pub is_of : Option ℕ → ℕ → Bool
is_of none f = false
is_of (some k) f = eqb k f

-- both triangles of face f, 4f + 0,1,3 and 2,3,1, are classed to it
unfoldable pub classed : List ℕ → ℕ → Triple → ℕ → Bool
classed cube n centre f =
    is_of (class_of cube n centre (4 * f) (4 * f + 1) (4 * f + 3)) f && is_of (class_of cube n centre (4 * f + 2) (4 * f + 3) (4 * f + 1)) f

-- every position is finite, and every triangle is classed to its own face
unfoldable pub is_cube : List ℕ → ℕ → Triple → Bool
is_cube cube n centre = every 72 (λ k. finite (position_of cube n (k / 3) (k % 3))) && every 6 (classed cube n centre)

-- ---- the words of a quad: the cube's vertices 4f, 4f+1, 4f+3, 4f+2, each position plus (coordinate as f32 · d)

unfoldable pub moved_word : ℕ → ℕ → ℕ → ℕ
moved_word word at d = to_bits binary32 (add binary32 (f32 word) (mul binary32 (whole at) (f32 d)))

unfoldable pub order : List ℕ
order = 0 ∷ 1 ∷ 3 ∷ 2 ∷ []

-- word k of the i-th vertex of a quad
unfoldable pub quad_word : List ℕ → ℕ → Triple → ℕ → Triple → ℕ → ℕ → ℕ
quad_word cube n d f a i k =
    let word = get_or cube (n * (4 * f + get_or order i 0) + k) 0 in
    cond (ltb k 3) (moved_word word (along a k) (along d k)) word

unfoldable pub quad_words : List ℕ → ℕ → Triple → ℕ → Triple → List ℕ
quad_words cube n d f a = each 4 0 (λ i. table n (quad_word cube n d f a i))
