-- Demand 3's second half says something: in each mode a log of two entries meets all that it asks, and so does Replaced, in a table without an empty type. Assumes nothing.
use mathlib.Core.Path.{◌≡◌, refl, ap}
use mathlib.Core.Bool.{true, false}
use mathlib.Core.List.{List, [], ◌∷◌, ◌++◌}
use Prim.Native.Nat.{ℕ}
use lib.ListN.{length, get_or}
use lib.Dec.{lit<}
use lib.Ieee as ieee
use Rattle.rules.specs.Lists.{each, every, count, lowest_from, same}
use Rattle.rules.specs.Cells.{neighbour}
use Rattle.rules.specs.Types as types
use Rattle.rules.specs.Mesh.{is_normal_cube, attribute_in, mesh_by, laid, slotted}
use Rattle.rules.specs.Update.{entry_at, remove_at, remove, ops, needed, course_from, empty_type, Tested, source, itself, grid_log, Honest, Mends, AddsAlike}
use Rattle.rules.specs.Answers as answers
use Rattle.rules.specs.Calls.{Scene, Outcome, Answer, answered, world, entries_of, mesh_grid, update_mesh, check_mesh}
use Rattle.rules.proofs.Abacus.{ZERO, ONE, all, UNIT_WORDS, scene, lent, dig_and_fill}
use Rattle.rules.proofs.ListLaws.{six}
use Rattle.rules.proofs.Modes.{itself_alike}
use Rattle.rules.proofs.Demands.{fresh_accepted, mended_accepted}

-- grid 1,1: cell 0 is dug, then filled again
abbrev grid : List ℕ
grid = 1 ∷ 1 ∷ []

abbrev S : Scene
S = scene 2 1 1

abbrev log : List ℕ
log = dig_and_fill

abbrev fresh : Outcome
fresh = mesh_grid S [] grid true (lent 12 2)

abbrev after : Outcome
after = update_mesh source S log fresh.lists fresh.answer.quads

honest : Honest (world S) grid (entries_of log)
unfolding each entry_at neighbour empty_type lowest_from
honest = (
  six _ refl refl refl refl refl refl,
  (refl, lit< tt),
  (six _ refl refl refl refl refl refl, tt, tt),
)

mends : Mends (world S) grid (entries_of log)
unfolding each entry_at empty_type lowest_from
mends = (
  tt,
  (record { cube = refl; was_empty = refl }, tt),
)

alike : AddsAlike source (world S) (entries_of log)
unfolding each entry_at
alike = (tt, (λ c. six _ refl refl refl refl refl refl, tt))

meshed : fresh.answer.number ≡ 0
unfolding answers.◌then◌ answers.refuse_if answers.bad_limits answers.BAD_TYPES answers.bad_counts lowest_from answers.bad_type answers.BAD_NUMBER answers.not_a_cube types.is_cube every types.classed types.class_of types.class_at types.class_on ieee.eq ieee.of_bits ieee.lt answers.room_of mesh_by each neighbour
meshed = refl

unrefused : after.answer.number ≡ 0
unfolding answers.◌then◌ answers.refuse_if answers.bad_limits answers.BAD_TYPES answers.bad_counts lowest_from answers.bad_type answers.BAD_NUMBER answers.not_a_cube types.is_cube every types.classed types.class_of types.class_at types.class_on ieee.eq ieee.of_bits ieee.lt answers.room_of mesh_by each neighbour count laid attribute_in slotted answers.bad_link answers.BAD_LINKS same answers.bad_neighbours answers.bad_sides answers.bad_bytes answers.bad_former answers.bad_spare answers.bad_entry answers.BAD_ENTRY course_from entry_at needed ops remove remove_at types.quad_words
unrefused = refl

-- the fresh mesh passes, the log is honest and not refused, and so the mended mesh passes
pub witness : check_mesh S [] (grid_log (world S) (entries_of log) grid) after.lists after.answer.quads ≡ answered 0 0
witness = mended_accepted source S grid log fresh.lists fresh.answer.quads (rw (fresh_accepted S [] grid (lent 12 2) meshed)) honest mends alike unrefused

-- ---- the new mode: a slab that covers only Bottom is laid on a cube, then the cube under it is dug

abbrev ground : List ℕ
ground = 1 ∷ 0 ∷ []

abbrev G : Scene
G = scene 1 2 1

abbrev slab_log : List ℕ
slab_log =
    1 ∷ 0 ∷ 0 ∷ 0 ∷ 1 ∷ 3 ∷ 255 ∷ 1 ∷ 255 ∷ 255 ∷ 255 ∷ 255 ∷ 255 ∷ 0 ∷ 0 ∷ 0
    ∷ 0 ∷ 0 ∷ 0 ∷ 0 ∷ 0 ∷ 1 ∷ 3 ∷ 255 ∷ 255 ∷ 255 ∷ 255 ∷ 255 ∷ 1 ∷ 0 ∷ 0 ∷ 0 ∷ []

abbrev bare : Outcome
bare = mesh_grid G [] ground true (lent 12 2)

abbrev laid_on : Outcome
laid_on = update_mesh itself G slab_log bare.lists bare.answer.quads

slab_honest : Honest (world G) ground (entries_of slab_log)
unfolding each entry_at neighbour empty_type lowest_from
slab_honest = (
  six _ refl refl refl refl refl refl,
  tt,
  (six _ refl refl refl refl refl refl, (refl, lit< tt), tt),
)

slab_mends : Mends (world G) ground (entries_of slab_log)
unfolding each entry_at
slab_mends = (record { cube = refl; was_empty = refl }, (tt, tt))

bare_meshed : bare.answer.number ≡ 0
unfolding answers.◌then◌ answers.refuse_if answers.bad_limits answers.BAD_TYPES answers.bad_counts lowest_from answers.bad_type answers.BAD_NUMBER answers.not_a_cube types.is_cube every types.classed types.class_of types.class_at types.class_on ieee.eq ieee.of_bits ieee.lt answers.room_of mesh_by each neighbour
bare_meshed = refl

slab_unrefused : laid_on.answer.number ≡ 0
unfolding answers.◌then◌ answers.refuse_if answers.bad_limits answers.BAD_TYPES answers.bad_counts lowest_from answers.bad_type answers.BAD_NUMBER answers.not_a_cube types.is_cube every types.classed types.class_of types.class_at types.class_on ieee.eq ieee.of_bits ieee.lt answers.room_of mesh_by each neighbour count laid attribute_in slotted answers.bad_link answers.BAD_LINKS same answers.bad_neighbours answers.bad_sides answers.bad_bytes answers.bad_former answers.bad_spare answers.bad_entry answers.BAD_ENTRY course_from entry_at needed ops remove remove_at types.quad_words
slab_unrefused = refl

pub slab_witness : check_mesh G [] (grid_log (world G) (entries_of slab_log) ground) laid_on.lists laid_on.answer.quads ≡ answered 0 0
slab_witness =
    mended_accepted itself G ground slab_log bare.lists bare.answer.quads (rw (fresh_accepted G [] ground (lent 12 2) bare_meshed))
    slab_honest slab_mends (itself_alike (world G) (entries_of slab_log)) slab_unrefused

-- ---- Replaced (02, Q-7) in each mode: two cubes that cover all, one on the other; the upper one becomes a cube that covers Top and Bottom, or in the new mode Bottom alone. No
-- type is empty, and no cell

abbrev F : Scene
F =
    record {
      size = record { w = 1; h = 2; l = 1 };
      types = record { coloured = false; kinds = 1 ∷ 1 ∷ 1 ∷ []; covers = 63 ∷ 3 ∷ 2 ∷ []; cubes = UNIT_WORDS ++ UNIT_WORDS ++ UNIT_WORDS };
      d = all ONE;
      centre = all ZERO;
    }

pub none_empty : empty_type (world F) ≡ length F.types.kinds
unfolding empty_type lowest_from
none_empty = refl

abbrev full : List ℕ
full = 0 ∷ 0 ∷ []

abbrev swap_log : ℕ → List ℕ
swap_log t = 1 ∷ 0 ∷ 0 ∷ 0 ∷ 3 ∷ t ∷ 255 ∷ 0 ∷ 255 ∷ 255 ∷ 255 ∷ 255 ∷ 0 ∷ 0 ∷ 0 ∷ 0 ∷ []

abbrev piled : Outcome
piled = mesh_grid F [] full true (lent 12 2)

abbrev swapped : Tested → ℕ → Outcome
swapped tested t = update_mesh tested F (swap_log t) piled.lists piled.answer.quads

swap_honest : (t : ℕ) → Honest (world F) full (entries_of (swap_log t))
unfolding each entry_at neighbour
swap_honest t = (six _ refl refl refl refl refl refl, refl, tt)

swap_mends : (t : ℕ) → is_normal_cube (world F) t ≡ true → Mends (world F) full (entries_of (swap_log t))
unfolding each entry_at
swap_mends t cube = (cube, tt)

swap_alike : AddsAlike source (world F) (entries_of (swap_log 1))
unfolding each entry_at
swap_alike = (λ c. six _ refl refl refl refl refl refl, tt)

piled_meshed : piled.answer.number ≡ 0
unfolding answers.◌then◌ answers.refuse_if answers.bad_limits answers.BAD_TYPES answers.bad_counts lowest_from answers.bad_type answers.BAD_NUMBER answers.not_a_cube types.is_cube every types.classed types.class_of types.class_at types.class_on ieee.eq ieee.of_bits ieee.lt answers.room_of mesh_by each neighbour
piled_meshed = refl

swap_unrefused : (swapped source 1).answer.number ∷ (swapped itself 2).answer.number ∷ [] ≡ 0 ∷ 0 ∷ []
unfolding answers.◌then◌ answers.refuse_if answers.bad_limits answers.BAD_TYPES answers.bad_counts lowest_from answers.bad_type answers.BAD_NUMBER answers.not_a_cube types.is_cube every types.classed types.class_of types.class_at types.class_on ieee.eq ieee.of_bits ieee.lt answers.room_of mesh_by each neighbour count laid attribute_in slotted answers.bad_link answers.BAD_LINKS same answers.bad_neighbours answers.bad_sides answers.bad_bytes answers.bad_former answers.bad_spare answers.bad_entry answers.BAD_ENTRY course_from entry_at needed ops remove remove_at types.quad_words
swap_unrefused = refl

-- the mesh for the grid after it
abbrev checked : Tested → ℕ → Answer
checked tested t = check_mesh F [] (grid_log (world F) (entries_of (swap_log t)) full) (swapped tested t).lists (swapped tested t).answer.quads

module _ (tested : Tested) (t : ℕ) (cube : is_normal_cube (world F) t ≡ true) (alike : AddsAlike tested (world F) (entries_of (swap_log t))) (done : (swapped tested t).answer.number ≡ 0) where
  swap_passes : checked tested t ≡ answered 0 0
  swap_passes =
      mended_accepted tested F full (swap_log t) piled.lists piled.answer.quads (rw (fresh_accepted F [] full (lent 12 2) piled_meshed)) (swap_honest t) (swap_mends t cube) alike done

pub swap_witness : checked source 1 ≡ answered 0 0
swap_witness = swap_passes source 1 refl swap_alike (ap (λ (l : List ℕ). get_or l 0 0) swap_unrefused)

pub swap_witness_itself : checked itself 2 ≡ answered 0 0
swap_witness_itself = swap_passes itself 2 refl (itself_alike (world F) (entries_of (swap_log 2))) (ap (λ (l : List ℕ). get_or l 1 0) swap_unrefused)
