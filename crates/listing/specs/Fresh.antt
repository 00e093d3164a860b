-- The side sets of a fresh mesh, by both algorithms, and the faces they draw. Definitions only.
use Rattle.std.specs.Prelude.{ℕ, zero, suc, ◌+◌, ◌-◌, ◌*◌, ◌≤◌, ◌<◌, ◌≡◌, Bool, cond, List, ◌++◌, map, length, get_or, take}
use Rattle.rules.specs.Lists.{each, only}
use Rattle.rules.specs.Cells.{key_of, has, set_of, quads_of}
use Rattle.rules.specs.Mesh.{World, type_at, is_normal_cube, drawn}
use Rattle.vav.specs.Rows.{put}
use Rattle.drawing.specs.Written.{rows_of, link_row, named}

-- Culling draws what is shown, Naive all six of a NormalCube
abbrev pub side_drawn : Bool → World → List ℕ → List ℕ → ℕ → ℕ → Bool
side_drawn culling W outer g c f = cond culling (drawn W outer g c f) (is_normal_cube W (type_at g c))

unfoldable pub set_at : Bool → World → List ℕ → List ℕ → ℕ → ℕ
set_at culling W outer g c = set_of (side_drawn culling W outer g c)

-- the faces of a side set
abbrev pub faces_of : ℕ → List ℕ
faces_of set = each 6 0 (λ f. only (has set f) f)

-- a list holds what is asked of n cells from c on
abbrev pub RowOf : (ℕ → ℕ) → ℕ → ℕ → List ℕ → Type 0
RowOf sets c n list = (x : ℕ) → x < n → get_or list x 0 ≡ sets (c + x)

-- the side sets of the cells from c on, by a list
abbrev pub sets_from : ℕ → List ℕ → ℕ → ℕ
sets_from c list k = get_or list (k - c) 0

-- how many quads the side sets of cells c, c + 1, .., n of them, ask for
unfoldable pub asked : (ℕ → ℕ) → ℕ → ℕ → ℕ
asked sets c zero = 0
asked sets c (suc n) = quads_of (sets c) + asked sets (suc c) n

-- the keys of the faces of a cell that are in its side set
abbrev pub cell_keys : ℕ → ℕ → List ℕ
cell_keys set c = each 6 0 (λ f. only (has set f) (key_of c f))

-- those of cells c, c + 1, .., n of them
unfoldable pub keys_of : (ℕ → ℕ) → ℕ → ℕ → List ℕ
keys_of sets c n = each n c (λ k. cell_keys (sets k) k)

-- L links, K slots and a list of N words have room for what the sets of a row ask for, whose quads start at `base`
pub record Roomy (c base : ℕ) (sets : List ℕ) (L K N : ℕ) : Type 0 where
  pub cells : c + length sets ≤ 1048576
  pub width : length sets ≤ 1024
  pub set : (x : ℕ) → x < length sets → get_or sets x 0 < 64
  pub links : base + asked (sets_from c sets) c (length sets) ≤ L
  pub few : base + asked (sets_from c sets) c (length sets) ≤ 6291456
  pub slots : 6 * (c + length sets) ≤ K
  pub sides : 6 * length sets ≤ N

-- faces are entered after the first m of a row, whose quads start at `base`: into the links, into the slots, and as words into the list of the row's faces
pub record Entered (base : ℕ) (word : ℕ → ℕ) (keys ls₀ ss₀ ts₀ ls ss ts : List ℕ) (m n : ℕ) : Type 0 where
  pub links : ls ≡ put (1 * (base + m)) (rows_of link_row keys) ls₀
  pub slots : ss ≡ named (base + m) keys ss₀
  pub sides : take n ts ≡ take m ts₀ ++ map word keys
  pub kept : length ts ≡ length ts₀
