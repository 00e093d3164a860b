-- The steps of an update, and what each does to one list. Definitions only.
use Rattle.std.specs.Prelude.{ℕ, ◌+◌, ◌-◌, ◌*◌, ◌<◌, cond, List, [], ◌∷◌, map, get_or, ltb}
use Rattle.rules.specs.Lists.{table}
use Rattle.rules.specs.Mesh.{Quad, place_of}
use Rattle.rules.specs.Update.{Op, put, cut, step}
use Rattle.vav.specs.Rows as rows
use Rattle.vav.specs.Rows.{freed}

-- the quad at a place goes, or the face of a key is drawn for a type, after the last
pub data Step : Type 0 where
  gone : ℕ → Step
  came : ℕ → ℕ → Step

-- two words a step: a key and a type's code, or a place and CUT
abbrev pub CUT : ℕ
CUT = 256

abbrev pub step_in : ℕ → ℕ → Step
step_in a b = cond (ltb b CUT) (came a b) (gone a)

abbrev pub step_at : List ℕ → ℕ → Step
step_at xs i = step_in (get_or xs (2 * i) 0) (get_or xs (2 * i + 1) 0)

-- the first n steps
abbrev pub steps_in : ℕ → List ℕ → List Step
steps_in n xs = table n (step_at xs)

-- ---- on a list of s words a quad

pub record Shelf : Type 0 where
  pub words : List ℕ
  pub quads : ℕ

abbrev pub shelf : List ℕ → ℕ → Shelf
shelf xs Q = record { words = xs; quads = Q }

-- with the row of a key and a type
abbrev pub replayed : ℕ → (ℕ → ℕ → List ℕ) → List Step → Shelf → Shelf
replayed s row [] S = S
replayed s row (gone q ∷ xs) S = replayed s row xs (shelf (freed s q S.quads S.words) (S.quads - 1))
replayed s row (came k t ∷ xs) S = replayed s row xs (shelf (rows.put (s * S.quads) (row k t) S.words) (S.quads + 1))

-- the quads that are left
abbrev pub left : List Step → ℕ → ℕ
left [] Q = Q
left (gone q ∷ xs) Q = left xs (Q - 1)
left (came k t ∷ xs) Q = left xs (Q + 1)

-- ---- what steps ask for: a place that is there, room, and a key and a type that can be drawn
abbrev pub Can : (ℕ → ℕ → Type 0) → ℕ → List Step → ℕ → Type 0
Can P R [] Q = Unit {0}
Can P R (gone q ∷ xs) Q = (q < Q) × Can P R xs (Q - 1)
Can P R (came k t ∷ xs) Q = (Q < R) × P k t × Can P R xs (Q + 1)

-- ---- on the quads

-- the quad of a key, for a type whose words are told
abbrev pub quad_by : (ℕ → ℕ → List ℕ) → ℕ → ℕ → Quad
quad_by words k t = record { key = k; words = words k t }

-- ---- what is to be done to faces, and the steps that it takes

pub data Deed : Type 0 where
  show : ℕ → ℕ → Deed
  hide : ℕ → Deed

abbrev pub op_of : (ℕ → ℕ → Quad) → Deed → Op
op_of quad (show k t) = put (quad k t)
op_of quad (hide k) = cut k

abbrev pub ops_of : (ℕ → ℕ → Quad) → List Deed → List Op
ops_of quad ds = map (op_of quad) ds

-- each on a mesh on which it changes something
abbrev pub step_of : Deed → List Quad → Step
step_of (show k t) m = came k t
step_of (hide k) m = gone (place_of k m)

abbrev pub steps_of : (ℕ → ℕ → Quad) → List Deed → List Quad → List Step
steps_of quad [] m = []
steps_of quad (d ∷ ds) m = step_of d m ∷ steps_of quad ds (step (op_of quad d) m)

-- a face that is drawn can be
abbrev pub Able : (ℕ → ℕ → Type 0) → Deed → Type 0
Able P (show k t) = P k t
Able P (hide k) = Unit {0}
