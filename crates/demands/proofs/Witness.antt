-- Q-14 is not vacuous: a column of three cells is changed at the top by one crew and at the bottom by the other, in each mode. Places and `moved` differ. In little room one order alone is
-- done. And the condition on neighbours is needed: of two cubes side by side, both dug, each order leaves another face, and neither mesh passes. Assumes nothing.
use Rattle.std.specs.Prelude.{Ok}
use mathlib.Core.Path.{◌≡◌, refl, sym, ap, ◌∙◌}
use mathlib.Core.Logic.{◌≢◌}
use mathlib.Core.Bool.{Bool, true, false, false≢true}
use mathlib.Core.List.{List, [], ◌∷◌, ◌++◌}
use mathlib.Core.Option.{Option, none, some}
use Prim.Native.Nat.{ℕ, zero, suc}
use native.Mathlib.Omega.{arith}
use lib.Dec.{eqb, lit<}
use lib.ListN.{length, get_or}
use lib.Ieee as ieee
use Rattle.rules.specs.Lists.{each, every, count, lowest_from, same}
use Rattle.rules.specs.Cells.{neighbour, key_of}
use Rattle.rules.specs.Types as types
use Rattle.rules.specs.Mesh.{Lists, attribute_in, vertex_in, quad_in, mesh_by, laid, slotted}
use Rattle.rules.specs.Update.{ENTRY_BYTES, entry_at, remove_at, remove, ops, needed, course_from, empty_type}
use Rattle.rules.specs.Answers as answers
use Rattle.rules.specs.Calls.{Outcome, Scene, mesh_grid, update_mesh, check_mesh}
use Rattle.rules.specs.Crews.{Clear}
use Rattle.rules.proofs.ListLaws.{six}
use Rattle.rules.proofs.Abacus.{scene, lent}
use Rattle.rules.proofs.Demands.{fresh_accepted}
use Rattle.terms.specs.declared.Tested.{Tested}
use Rattle.terms.specs.declared.Tested.TheVariants.{Opposite, Itself}
use Rattle.terms.specs.Modes.{tested_by}
use Rattle.terms.specs.declared.Count.{Count}
use Rattle.demands.specs.Promised.{Updates}
use Rattle.demands.specs.Chunks.{Chunk, Passes, FillingLog, LogFor, mended_to}
use Rattle.demands.specs.Crews.{shown_at, SameFaces, Agree}
use Rattle.demands.proofs.Exact.{fine_is_zero}
use Rattle.demands.proofs.Crews.{zero_is_done, two_entries}

-- ---- a column, in room for some quads: three cubes; in the new mode two, and nothing on top
abbrev S : Scene
S = scene 1 3 1

abbrev ground : Tested → List ℕ
ground Opposite = 1 ∷ 1 ∷ 1 ∷ []
ground Itself = 1 ∷ 1 ∷ 0 ∷ []

abbrev fresh : Tested → ℕ → Outcome
fresh mode room = mesh_grid S [] (ground mode) true (lent room 3)

abbrev column : Tested → ℕ → Chunk
column mode room = record { grid = ground mode; lists = (fresh mode room).lists; quads = (fresh mode room).answer.quads }

-- one crew: Broken 2; in the new mode Added 2, a slab that covers only Bottom
abbrev top : Tested → List ℕ
top Opposite = 2 ∷ 0 ∷ 0 ∷ 0 ∷ 0 ∷ 1 ∷ 255 ∷ 1 ∷ 255 ∷ 255 ∷ 255 ∷ 255 ∷ 1 ∷ 0 ∷ 0 ∷ 0 ∷ []
top Itself = 2 ∷ 0 ∷ 0 ∷ 0 ∷ 1 ∷ 3 ∷ 255 ∷ 1 ∷ 255 ∷ 255 ∷ 255 ∷ 255 ∷ 255 ∷ 0 ∷ 0 ∷ 0 ∷ []

-- the other: Replaced 0, by a cube that covers all; in the new mode by the slab
abbrev bottom : Tested → List ℕ
bottom Opposite = 0 ∷ 0 ∷ 0 ∷ 0 ∷ 3 ∷ 1 ∷ 1 ∷ 255 ∷ 255 ∷ 255 ∷ 255 ∷ 255 ∷ 1 ∷ 0 ∷ 0 ∷ 0 ∷ []
bottom Itself = 0 ∷ 0 ∷ 0 ∷ 0 ∷ 3 ∷ 3 ∷ 1 ∷ 255 ∷ 255 ∷ 255 ∷ 255 ∷ 255 ∷ 1 ∷ 0 ∷ 0 ∷ 0 ∷ []

abbrev top_first : Tested → List ℕ
top_first mode = top mode ++ bottom mode

abbrev bottom_first : Tested → List ℕ
bottom_first mode = bottom mode ++ top mode

abbrev ran : Tested → ℕ → List ℕ → Outcome
ran mode room log = update_mesh (tested_by mode) S log (column mode room).lists (column mode room).quads

-- what an update leads to
abbrev count_of : Outcome → Count
count_of o = record { quads = o.answer.quads; moved = o.answer.moved }

abbrev reached : Scene → List ℕ → Chunk → Outcome → Chunk
reached S log k o = mended_to S log k (count_of o) o.lists

top_honest : (mode : Tested) → LogFor mode S (ground mode) (top mode)
unfolding each entry_at neighbour empty_type lowest_from
top_honest Opposite =
    record { filling = record { honest = (six _ refl refl refl refl refl refl, (refl, lit< tt), tt); mends = (tt, tt) }; alike = (tt, tt) }
top_honest Itself = record { honest = (six _ refl refl refl refl refl refl, tt, tt); mends = (record { cube = refl; was_empty = refl }, tt) }

bottom_honest : (mode : Tested) → LogFor mode S (ground mode) (bottom mode)
unfolding each entry_at neighbour
bottom_honest Opposite =
    record {
      filling = record { honest = (six _ refl refl refl refl refl refl, refl, tt); mends = (refl, tt) };
      alike = (λ c. six _ refl refl refl refl refl refl, tt);
    }
bottom_honest Itself = record { honest = (six _ refl refl refl refl refl refl, refl, tt); mends = (refl, tt) }

-- cell 2 is not beside cell 0
abbrev is_zero : Option ℕ → Bool
is_zero none = false
is_zero (some n) = eqb n 0

not_beside_lem : (f : ℕ) → is_zero (neighbour S.size 2 f) ≡ false
unfolding neighbour
not_beside_lem zero = refl
not_beside_lem (suc zero) = refl
not_beside_lem (suc (suc zero)) = refl
not_beside_lem (suc (suc (suc zero))) = refl
not_beside_lem (suc (suc (suc (suc zero)))) = refl
not_beside_lem (suc (suc (suc (suc (suc zero))))) = refl
not_beside_lem (suc (suc (suc (suc (suc (suc f)))))) = refl

two_clear_of_zero : Clear S.size 2 0
two_clear_of_zero = record { different = λ e. absurd (omega arith); not_beside = λ f e. false≢true (sym (not_beside_lem f) ∙ ap is_zero e) }

clear : (mode : Tested) → Clear S.size (entry_at (top mode) 0).cell (entry_at (bottom mode) 0).cell
unfolding entry_at
clear Opposite = two_clear_of_zero
clear Itself = two_clear_of_zero

-- ---- two cubes side by side, each dug by a crew that saw the other one
abbrev T : Scene
T = scene 2 1 1

abbrev two : List ℕ
two = 1 ∷ 1 ∷ []

abbrev pair_meshed : Outcome
pair_meshed = mesh_grid T [] two true (lent 10 2)

abbrev pair : Chunk
pair = record { grid = two; lists = pair_meshed.lists; quads = pair_meshed.answer.quads }

abbrev dig_left : List ℕ
dig_left = 0 ∷ 0 ∷ 0 ∷ 0 ∷ 0 ∷ 1 ∷ 255 ∷ 255 ∷ 1 ∷ 255 ∷ 255 ∷ 255 ∷ 1 ∷ 0 ∷ 0 ∷ 0 ∷ []

abbrev dig_right : List ℕ
dig_right = 1 ∷ 0 ∷ 0 ∷ 0 ∷ 0 ∷ 1 ∷ 255 ∷ 255 ∷ 255 ∷ 1 ∷ 255 ∷ 255 ∷ 1 ∷ 0 ∷ 0 ∷ 0 ∷ []

left_honest : FillingLog T two dig_left
unfolding each entry_at neighbour empty_type lowest_from
left_honest = record { honest = (six _ refl refl refl refl refl refl, (refl, lit< tt), tt); mends = (tt, tt) }

right_honest : FillingLog T two dig_right
unfolding each entry_at neighbour empty_type lowest_from
right_honest = record { honest = (six _ refl refl refl refl refl refl, (refl, lit< tt), tt); mends = (tt, tt) }

abbrev left_first : List ℕ
left_first = dig_left ++ dig_right

abbrev right_first : List ℕ
right_first = dig_right ++ dig_left

abbrev dug : List ℕ → Outcome
dug log = update_mesh (tested_by Itself) T log pair.lists pair.quads

-- ---- worked out

-- number, place, quads, `moved`, and where the quad of cell 0's Bottom starts
abbrev told : Outcome → List ℕ
told o = o.answer.number ∷ o.answer.place ∷ o.answer.quads ∷ o.answer.moved ∷ get_or o.lists.slots 1 0 ∷ []

abbrev orders : Tested → ℕ → List (List ℕ)
orders mode room = told (ran mode room (top_first mode)) ∷ told (ran mode room (bottom_first mode)) ∷ []

-- of the pair: number and quads, the check's number and place, and how many quads there are at cell 0's Right
abbrev told_pair : List ℕ → List ℕ
told_pair log =
    let k = reached T log pair (dug log) in
    let a = check_mesh T [] k.grid k.lists k.quads in
    (dug log).answer.number ∷ k.quads ∷ a.number ∷ a.place ∷ length (shown_at T k 0 2) ∷ []

worked : told (fresh Opposite 16) ∷ told (fresh Itself 16) ∷ told (fresh Opposite 14) ∷ told pair_meshed ∷ (orders Opposite 16 ++ (orders Itself 16 ++ (orders Opposite 14 ++ (told_pair left_first ∷ told_pair right_first ∷ []))))
    ≡ (0 ∷ 0 ∷ 14 ∷ 0 ∷ 0 ∷ []) ∷ (0 ∷ 0 ∷ 10 ∷ 0 ∷ 0 ∷ []) ∷ (0 ∷ 0 ∷ 14 ∷ 0 ∷ 0 ∷ []) ∷ (0 ∷ 0 ∷ 10 ∷ 0 ∷ 4 ∷ [])
    ∷ (0 ∷ 0 ∷ 10 ∷ 29 ∷ 20 ∷ []) ∷ (0 ∷ 0 ∷ 10 ∷ 23 ∷ 32 ∷ [])
    ∷ (0 ∷ 0 ∷ 15 ∷ 10 ∷ 40 ∷ []) ∷ (0 ∷ 0 ∷ 15 ∷ 15 ∷ 24 ∷ [])
    ∷ (0 ∷ 0 ∷ 10 ∷ 29 ∷ 20 ∷ []) ∷ (14 ∷ 0 ∷ 14 ∷ 0 ∷ 0 ∷ [])
    ∷ (0 ∷ 1 ∷ 15 ∷ 2 ∷ 1 ∷ []) ∷ (0 ∷ 1 ∷ 15 ∷ 9 ∷ 0 ∷ []) ∷ []
unfolding answers.◌then◌ answers.refuse_if answers.bad_limits answers.BAD_TYPES answers.bad_counts lowest_from answers.bad_type answers.BAD_NUMBER answers.not_a_cube types.is_cube every types.classed types.class_of types.class_at types.class_on ieee.eq ieee.of_bits ieee.lt answers.room_of mesh_by each neighbour count laid attribute_in slotted answers.bad_link answers.BAD_LINKS same answers.bad_neighbours answers.bad_sides answers.bad_bytes answers.bad_former answers.bad_spare answers.bad_entry answers.BAD_ENTRY course_from entry_at needed ops remove remove_at types.quad_words vertex_in quad_in empty_type answers.wrong_face answers.wrong_vertex
worked = refl

abbrev worked_at : ℕ → ℕ → List (List ℕ) → ℕ
worked_at row n rows = get_or (get_or rows row []) n 0

-- ---- the promise for the column
passes : (mode : Tested) (room : ℕ) → (fresh mode room).answer.number ≡ 0 → Passes S (column mode room)
passes mode room made =
    (fine_is_zero S [] (ground mode) (column mode room).lists (column mode room).quads).1 (fresh_accepted S [] (ground mode) (lent room 3) made)

pub column_passes : (mode : Tested) → Passes S (column mode 16)
column_passes Opposite = passes Opposite 16 (ap (worked_at 0 0) worked)
column_passes Itself = passes Itself 16 (ap (worked_at 1 0) worked)

done : (mode : Tested) → ((ran mode 16 (top_first mode)).answer.number ≡ 0) × ((ran mode 16 (bottom_first mode)).answer.number ≡ 0)
done Opposite = (ap (worked_at 4 0) worked, ap (worked_at 5 0) worked)
done Itself = (ap (worked_at 6 0) worked, ap (worked_at 7 0) worked)

an_entry : (mode : Tested) → (length (top mode) ≡ ENTRY_BYTES) × (length (bottom mode) ≡ ENTRY_BYTES)
an_entry Opposite = (refl, refl)
an_entry Itself = (refl, refl)

pub witness : (mode : Tested)
    → Agree S (reached S (top_first mode) (column mode 16) (ran mode 16 (top_first mode))) (reached S (bottom_first mode) (column mode 16) (ran mode 16 (bottom_first mode)))
witness mode =
    let k = column mode 16 in
    let x = ran mode 16 (top_first mode) in
    let y = ran mode 16 (bottom_first mode) in
    two_entries mode S k (top mode) (bottom mode) (count_of x) (count_of y) x.lists y.lists (column_passes mode) (top_honest mode) (bottom_honest mode) (an_entry mode).0 (an_entry mode).1 (clear mode)
    (zero_is_done (tested_by mode) S (top_first mode) k.lists k.quads x.answer x.lists refl (done mode).0)
    (zero_is_done (tested_by mode) S (bottom_first mode) k.lists k.quads y.answer y.lists refl (done mode).1)

apart : {m n : ℕ} (a b : ℕ) → m ≡ a → n ≡ b → (a ≡ b → ⊥) → m ≢ n
apart a b p q d e = d (sym p ∙ e ∙ q)

-- the quad of cell 0's Bottom has another place, and `moved` is another
pub another_place : (mode : Tested) → get_or (ran mode 16 (top_first mode)).lists.slots 1 0 ≢ get_or (ran mode 16 (bottom_first mode)).lists.slots 1 0
another_place Opposite = apart 20 32 (ap (worked_at 4 4) worked) (ap (worked_at 5 4) worked) (λ e. omega arith)
another_place Itself = apart 40 24 (ap (worked_at 6 4) worked) (ap (worked_at 7 4) worked) (λ e. omega arith)

pub another_moved : (mode : Tested) → (ran mode 16 (top_first mode)).answer.moved ≢ (ran mode 16 (bottom_first mode)).answer.moved
another_moved Opposite = apart 29 23 (ap (worked_at 4 3) worked) (ap (worked_at 5 3) worked) (λ e. omega arith)
another_moved Itself = apart 10 15 (ap (worked_at 6 3) worked) (ap (worked_at 7 3) worked) (λ e. omega arith)

-- in room for 14 quads, reading 51's: the one order is done, the other is NO_ROOM
pub one_order_alone : Passes S (column Opposite 14) × ((ran Opposite 14 (top_first Opposite)).answer.number ≡ 0) × ((ran Opposite 14 (bottom_first Opposite)).answer.number ≡ 14)
one_order_alone = (passes Opposite 14 (ap (worked_at 2 0) worked), ap (worked_at 8 0) worked, ap (worked_at 9 0) worked)

-- ---- neighbours
pub pair_passes : Passes T pair
pair_passes = (fine_is_zero T [] two pair.lists pair.quads).1 (fresh_accepted T [] two (lent 10 2) (ap (worked_at 3 0) worked))

pub are_neighbours : neighbour T.size 0 2 ≡ some 1
unfolding neighbour
are_neighbours = refl

-- done, and refused by the check, with WRONG_SET at a face
abbrev WrongAt : List ℕ → ℕ → Type 0
WrongAt log key =
    let k = reached T log pair (dug log) in
    let a = check_mesh T [] k.grid k.lists k.quads in
    ((dug log).answer.number ≡ 0) × (a.number ≡ 15) × (a.place ≡ key)

-- at cell 0's Right, and at cell 1's Left
pub neither_passes : WrongAt left_first (key_of 0 2) × WrongAt right_first (key_of 1 3)
neither_passes = (
  (ap (worked_at 10 0) worked, ap (worked_at 10 2) worked, ap (worked_at 10 3) worked),
  (ap (worked_at 11 0) worked, ap (worked_at 11 2) worked, ap (worked_at 11 3) worked),
)

-- `two_entries`, asked of different cells alone, is false
pub false_of_different_cells_alone : ((S : Scene) (from : Chunk) (one other : List ℕ) (m n : Count) (x y : Lists) → Passes S from → LogFor Itself S from.grid one → LogFor Itself S from.grid other
    → length one ≡ ENTRY_BYTES → length other ≡ ENTRY_BYTES → (entry_at one 0).cell ≢ (entry_at other 0).cell
    → Updates (tested_by Itself) S (one ++ other) from.lists from.quads (Ok m) x → Updates (tested_by Itself) S (other ++ one) from.lists from.quads (Ok n) y
    → SameFaces S (mended_to S (one ++ other) from m x) (mended_to S (other ++ one) from n y)) → ⊥
unfolding entry_at
false_of_different_cells_alone promise =
    let x = dug left_first in
    let y = dug right_first in
    let same = promise T pair dig_left dig_right (count_of x) (count_of y) x.lists y.lists pair_passes left_honest right_honest refl refl (λ e. omega arith)
    (zero_is_done (tested_by Itself) T left_first pair.lists pair.quads x.answer x.lists refl neither_passes.0.0)
    (zero_is_done (tested_by Itself) T right_first pair.lists pair.quads y.answer y.lists refl neither_passes.1.0) in
    apart 1 0 (ap (worked_at 10 4) worked) (ap (worked_at 11 4) worked) (λ e. omega arith) (ap length (same 0 2 (lit< tt)))
