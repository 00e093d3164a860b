-- 01, "An update"; 02, Q-2, Q-6 and Q-7. Definitions only.
use Rattle.std.specs.Prelude.{ℕ, zero, suc, ◌+◌, ◌-◌, ◌*◌, ◌<◌, max, ◌≡◌, Bool, true, cond, not, ◌&&◌, ◌||◌, List, [], ◌∷◌, ◌++◌, map, length, get_or, set, take, drop, eqb, leb, ltb}
use Rattle.std.proofs.Math.Option.{Option, none, some}
use Rattle.rules.specs.Lists.{each, only, part, count, lowest}
use Rattle.rules.specs.Cells.{opposite, neighbour, key_of}
use Rattle.rules.specs.Mesh.{Quad, World, type_at, is_normal_cube, covering, there, place_of, quad_of}

-- ---- a log entry, 16 bytes: after the neighbours comes the former type, then three zero bytes (02, Q-7)

pub data Change : Type 0 where
  Broken Added Sides Replaced : Change

pub record Entry : Type 0 where
  pub cell : ℕ
  pub change : Change
  pub type : ℕ
  pub given : List ℕ
  pub former : ℕ

abbrev pub change_of : ℕ → Change
change_of zero = Broken
change_of (suc zero) = Added
change_of (suc (suc zero)) = Sides
change_of (suc (suc (suc n))) = Replaced

-- u32, little-endian
abbrev pub u32_at : List ℕ → ℕ → ℕ
u32_at xs i = get_or xs i 0 + 256 * get_or xs (i + 1) 0 + 65536 * get_or xs (i + 2) 0 + 16777216 * get_or xs (i + 3) 0

-- the bytes of an entry
abbrev pub ENTRY_BYTES : ℕ
ENTRY_BYTES = 16

unfoldable pub entry_at : List ℕ → ℕ → Entry
entry_at log k =
    record {
      cell = u32_at log (ENTRY_BYTES * k);
      change = change_of (get_or log (ENTRY_BYTES * k + 4) 0);
      type = get_or log (ENTRY_BYTES * k + 5) 0;
      given = part (ENTRY_BYTES * k + 6) 6 log;
      former = get_or log (ENTRY_BYTES * k + 12) 0;
    }

-- a neighbour is either outside (255) or a voxel of a type; in Sides the six bytes are none (02, Q-6)
abbrev pub given_at : Entry → ℕ → ℕ
given_at e f = get_or e.given f 255

abbrev pub outside : ℕ → Bool
outside t = eqb t 255

-- the six neighbour bytes of Sides say 0 keep, 1 hide, 2 draw
abbrev pub to_hide : Entry → ℕ → Bool
to_hide e f = eqb (given_at e f) 1

abbrev pub to_draw : Entry → ℕ → Bool
to_draw e f = eqb (given_at e f) 2

-- ---- drawing and removal

-- drawing appends, and skips a face already there
abbrev pub draw : Quad → List Quad → List Quad
draw q m = cond (there q.key m) m (m ++ (q ∷ []))

-- With Q quads, removing q: if Q - q ≤ 6 later quads shift down one
abbrev pub shifts : ℕ → ℕ → Bool
shifts Q q = leb (Q - q) 6

abbrev pub blank : Quad
blank = record { key = 0; words = [] }

-- else the last takes its place
unfoldable pub remove_at : ℕ → List Quad → List Quad
remove_at q m =
    cond (shifts (length m) q)
    (take q m ++ drop (suc q) m)
    (take (length m - 1) (set m q (get_or m (length m - 1) blank)))

unfoldable pub remove : ℕ → List Quad → List Quad
remove k m = cond (there k m) (remove_at (place_of k m) m) m

-- the number of quads whose place changed
abbrev pub moved_by : ℕ → ℕ → ℕ
moved_by Q q = cond (shifts Q q) (Q - 1 - q) 1

abbrev pub moved : ℕ → List Quad → ℕ
moved k m = cond (there k m) (moved_by (length m) (place_of k m)) 0

-- what is done to a mesh, one after the other
pub data Op : Type 0 where
  put : Quad → Op
  cut : ℕ → Op

abbrev pub step : Op → List Quad → List Quad
step (put q) m = draw q m
step (cut k) m = remove k m

abbrev pub run : List Op → List Quad → List Quad
run [] m = m
run (o ∷ os) m = run os (step o m)

-- `moved`, summed over removals
abbrev pub moved_in : Op → List Quad → ℕ
moved_in (put q) m = 0
moved_in (cut k) m = moved k m

abbrev pub moves : List Op → List Quad → ℕ
moves [] m = 0
moves (o ∷ os) m = moved_in o m + moves os (step o m)

-- the highest count reached, from p on
abbrev pub highest : ℕ → List Op → List Quad → ℕ
highest p [] m = p
highest p (o ∷ os) m = highest (max p (length (step o m))) os (step o m)

-- ---- what an entry does: its own quads go, new ones are drawn, facing ones go, each in face order; of Replaced first the neighbours' new quads, then its own

pub record Work : Type 0 where
  pub own : List ℕ
  pub new : List Quad
  pub facing : List ℕ

-- the side of a voxel that comes, by Added or Replaced, which decides whether the neighbour at face i loses its facing quad
abbrev pub Tested : Type 0
Tested = ℕ → ℕ

-- the opposite of i (source)
abbrev pub source : Tested
source = opposite

-- i itself (02, Q-2)
abbrev pub itself : Tested
itself i = i

-- the sides of a cell of which p holds: their keys, or their quads for a type
abbrev pub sides : ℕ → (ℕ → Bool) → List ℕ
sides c p = each 6 0 (λ f. only (p f) (key_of c f))

abbrev pub quads : World → ℕ → ℕ → (ℕ → Bool) → List Quad
quads W t c p = each 6 0 (λ f. only (p f) (quad_of W t c f))

abbrev pub conceal : Tested → World → ℕ → ℕ → Option ℕ → List ℕ
conceal tested W t i none = []
conceal tested W t i (some n) = only (covering W t (tested i)) (key_of n (opposite i))

abbrev pub reveal : World → ℕ → ℕ → ℕ → Option ℕ → List Quad
reveal W t given i none = []
reveal W t given i (some n) = only (covering W t i && is_normal_cube W given) (quad_of W given n (opposite i))

abbrev pub all : ℕ → Bool
all f = true

-- a side whose neighbour is outside or does not cover the opposite
abbrev pub is_open : World → Entry → ℕ → Bool
is_open W e f = outside (given_at e f) || not (covering W (given_at e f) (opposite f))

abbrev pub nothing : Work
nothing = record { own = []; new = []; facing = [] }

abbrev pub added : Tested → World → Entry → Work
added tested W e =
    record {
      own = sides e.cell all;
      new = quads W e.type e.cell (is_open W e);
      facing = each 6 0 (λ i. conceal tested W e.type i (neighbour W.size e.cell i));
    }

abbrev pub broken : World → Entry → Work
broken W e =
    record {
      own = sides e.cell all;
      new = each 6 0 (λ i. reveal W e.type (given_at e i) i (neighbour W.size e.cell i));
      facing = [];
    }

-- a NormalCube draws the sides that are to be drawn, another type none
abbrev pub draws : World → Entry → ℕ → Bool
draws W e f = is_normal_cube W e.type && to_draw e f

-- hiding comes first, then drawing, both in face order (02, Q-6)
abbrev pub sided : World → Entry → Work
sided W e = record { own = sides e.cell (to_hide e); new = quads W e.type e.cell (draws W e); facing = [] }

-- a type that is no NormalCube adds nothing
abbrev pub added_if_cube : Tested → World → Entry → Work
added_if_cube tested W e = cond (is_normal_cube W e.type) (added tested W e) nothing

-- Broken with the former type, then Added with the new, amid the same neighbours (02, Q-7)
abbrev pub first_half : Entry → Entry
first_half e = record { cell = e.cell; change = Broken; type = e.former; given = e.given; former = e.former }

abbrev pub second_half : Entry → Entry
second_half e = record { cell = e.cell; change = Added; type = e.type; given = e.given; former = 255 }

-- two works in one stroke, where the second has no own quads left to remove, and the first removes no facing ones
abbrev pub in_one : Work → Work → Work
in_one gone come = record { own = gone.own; new = gone.new ++ come.new; facing = come.facing }

abbrev pub replaced : Tested → World → Entry → Work
replaced tested W e = in_one (broken W (first_half e)) (added_if_cube tested W (second_half e))

abbrev pub work_by : Tested → World → Entry → Change → Work
work_by tested W e Broken = broken W e
work_by tested W e Added = added_if_cube tested W e
work_by tested W e Sides = sided W e
work_by tested W e Replaced = replaced tested W e

abbrev pub work : Tested → World → Entry → Work
work tested W e = work_by tested W e e.change

abbrev pub cuts : List ℕ → List Op
cuts ks = map cut ks

abbrev pub puts : List Quad → List Op
puts qs = map put qs

unfoldable pub ops : Work → List Op
ops w = cuts w.own ++ (puts w.new ++ cuts w.facing)

-- Q, less its own removed quads, plus the new ones it draws (before Added removes facing quads)
unfoldable pub needed : Work → List Quad → ℕ
needed w m = length (run (puts w.new) (run (cuts w.own) m))

-- of Sides: the hidden sides that have a quad, and the drawn ones that have none (02, Q-6)
abbrev pub hidden_there : Entry → List Quad → ℕ
hidden_there e m = count 6 (λ f. to_hide e f && there (key_of e.cell f) m)

abbrev pub drawn_missing : World → Entry → List Quad → ℕ
drawn_missing W e m = count 6 (λ f. draws W e f && not (there (key_of e.cell f) m))

-- ---- a log, in order, until an entry finds no room

pub record Course : Type 0 where
  pub full : Option ℕ
  pub quads : List Quad
  pub moved : ℕ
  pub highest : ℕ

-- entries i, i + 1, .., n of them, on a mesh of which `v` quads have moved and `p` was the highest count
unfoldable pub course_from : ℕ → (ℕ → Work) → ℕ → ℕ → List Quad → ℕ → ℕ → Course
course_from room work i zero m v p = record { full = none; quads = m; moved = v; highest = p }
course_from room work i (suc n) m v p =
    cond (leb (needed (work i) m) room)
    (course_from room work (suc i) n (run (ops (work i)) m) (v + moves (ops (work i)) m) (highest p (ops (work i)) m))
    (record { full = some i; quads = m; moved = v; highest = p })

-- the mesh that entries i, i + 1, .., n of them, leave where each finds its room
abbrev pub mesh_after : (ℕ → Work) → ℕ → ℕ → List Quad → List Quad
mesh_after work i zero m = m
mesh_after work i (suc n) m = mesh_after work (suc i) n (run (ops (work i)) m)

-- ---- honest logs

-- a Null type covering nothing
abbrev pub is_empty : World → ℕ → Bool
is_empty W t = ltb t (length W.kinds) && eqb (get_or W.kinds t 0) 0 && eqb (get_or W.covers t 0) 0

-- the lowest Null type covering nothing
unfoldable pub empty_type : World → ℕ
empty_type W = lowest (length W.kinds) (is_empty W)

abbrev pub grid_by : World → List ℕ → Entry → Change → List ℕ
grid_by W g e Broken = set g e.cell (empty_type W)
grid_by W g e Added = set g e.cell e.type
grid_by W g e Sides = g
grid_by W g e Replaced = set g e.cell e.type

abbrev pub grid_after : World → List ℕ → Entry → List ℕ
grid_after W g e = grid_by W g e e.change

abbrev pub grid_log : World → List Entry → List ℕ → List ℕ
grid_log W [] g = g
grid_log W (e ∷ es) g = grid_log W es (grid_after W g e)

-- what stands beside a cell: a type's code, or 255 beyond the edge
abbrev pub standing : List ℕ → Option ℕ → ℕ
standing g none = 255
standing g (some n) = type_at g n

-- an entry gives what stands beside its cell. That the grid has the cell, and the table the type, BAD_ENTRY asks
abbrev pub Told : World → List ℕ → Entry → Type 0
Told W g e = (f : ℕ) → f < 6 → given_at e f ≡ standing g (neighbour W.size e.cell f)

-- Broken names the type in its cell, and there is an empty type to leave; Replaced names it as the former one (02, Q-7); Sides is never honest
abbrev pub TrueBy : World → List ℕ → Entry → Change → Type 0
TrueBy W g e Broken = (e.type ≡ type_at g e.cell) × (empty_type W < length W.kinds)
TrueBy W g e Added = Unit {0}
TrueBy W g e Sides = ⊥
TrueBy W g e Replaced = e.former ≡ type_at g e.cell

-- only Added, Broken and Replaced entries, each true of the grid as the entries before it left it
abbrev pub Honest : World → List ℕ → List Entry → Type 0
Honest W g [] = Unit {0}
Honest W g (e ∷ es) = Told W g e × TrueBy W g e e.change × Honest W (grid_after W g e) es

-- demand 3's logs: an Added entry puts a cube into an empty cell
pub record Fills (W : World) (g : List ℕ) (e : Entry) : Type 0 where
  pub cube : is_normal_cube W e.type ≡ true
  pub was_empty : is_empty W (type_at g e.cell) ≡ true

-- and a Replaced one a cube in the place of what was there (02, Q-7)
abbrev pub MendsBy : World → List ℕ → Entry → Change → Type 0
MendsBy W g e Broken = Unit {0}
MendsBy W g e Added = Fills W g e
MendsBy W g e Sides = ⊥
MendsBy W g e Replaced = is_normal_cube W e.type ≡ true

abbrev pub Mends : World → List ℕ → List Entry → Type 0
Mends W g [] = Unit {0}
Mends W g (e ∷ es) = MendsBy W g e e.change × Mends W (grid_after W g e) es

-- a type covers the side that is tested as the side itself
abbrev pub Alike : Tested → World → ℕ → Type 0
Alike tested W t = (f : ℕ) → f < 6 → covering W t (tested f) ≡ covering W t f

abbrev pub AlikeBy : Tested → World → Entry → Change → Type 0
AlikeBy tested W e Broken = Unit {0}
AlikeBy tested W e Added = is_normal_cube W e.type ≡ true → Alike tested W e.type
AlikeBy tested W e Sides = Unit {0}
AlikeBy tested W e Replaced = is_normal_cube W e.type ≡ true → Alike tested W e.type

-- what the source's mode asks besides: each cube that is Added does, or that is put by Replaced
abbrev pub AddsAlike : Tested → World → List Entry → Type 0
AddsAlike tested W [] = Unit {0}
AddsAlike tested W (e ∷ es) = AlikeBy tested W e e.change × AddsAlike tested W es
