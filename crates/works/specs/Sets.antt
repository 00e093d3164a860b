-- What an entry means, as four side sets, and face by face. Definitions only.
use Rattle.std.specs.Prelude.{ℕ, zero, suc, ◌+◌, ◌-◌, ◌*◌, ◌/◌, ◌%◌, ◌<◌, ◌≡◌, Bool, true, false, cond, not, ◌&&◌, List, [], get_or, eqb, ltb}
use Rattle.std.proofs.Math.Option.{Option, none, some}
use Rattle.rules.specs.Lists.{each, only, table}
use Rattle.rules.specs.Cells.{Size, opposite, neighbour, key_of, has, set_of}
use Rattle.rules.specs.Mesh.{Quad, World, NONE, is_normal_cube, covering}
use Rattle.rules.specs.Update.{Entry, Change, Broken, Added, Sides, Replaced, Tested, given_at, to_hide, draws, is_open}
use Rattle.steps.specs.Steps.{Deed, show, hide, quad_by}
use Rattle.works.specs.declared.Work.{Work}

-- the types alone
abbrev pub types_by : List ℕ → List ℕ → World
types_by kinds covers = record { size = record { w = 0; h = 0; l = 0 }; kinds = kinds; covers = covers; words_of = λ t f c. [] }

abbrev pub sets : ℕ → ℕ → ℕ → ℕ → Work
sets own shown drawn hidden = record { own = own; shown = shown; drawn = drawn; hidden = hidden }

abbrev pub no_work : Work
no_work = sets 0 0 0 0

-- the voxel that goes covers side i, and the neighbour given there is a NormalCube
abbrev pub is_shown : List ℕ → ℕ → Entry → ℕ → Bool
is_shown kinds cover e i = has cover i && eqb (get_or kinds (given_at e i) 0) 1

-- facing sides that show when a type goes; own sides that are open, and facing sides that are hidden, where a cube comes
abbrev pub shown_for : World → Entry → ℕ → ℕ
shown_for W e t = set_of (is_shown W.kinds (get_or W.covers t 0) e)

abbrev pub open_for : Bool → World → Entry → ℕ
open_for cube W e = cond cube (set_of (is_open W e)) 0

abbrev pub hidden_for : Bool → Tested → World → Entry → ℕ
hidden_for cube tested W e = cond cube (set_of (λ i. covering W e.type (tested i))) 0

-- ---- the four sets of each change
abbrev pub meant_by : Tested → World → Entry → Change → Work
meant_by tested W e Broken = sets 63 (shown_for W e e.type) 0 0
meant_by tested W e Added = let cube = is_normal_cube W e.type in sets (cond cube 63 0) 0 (open_for cube W e) (hidden_for cube tested W e)
meant_by tested W e Sides = sets (set_of (to_hide e)) 0 (set_of (draws W e)) 0
meant_by tested W e Replaced = let cube = is_normal_cube W e.type in sets 63 (shown_for W e e.former) (open_for cube W e) (hidden_for cube tested W e)

-- the types alone decide it
abbrev pub meant : Tested → World → Entry → Work
meant tested W e = meant_by tested (types_by W.kinds W.covers) e e.change

-- whether what stands in the cell goes, and whether something is put there
abbrev pub is_breaking : Change → Bool
is_breaking Broken = true
is_breaking Added = false
is_breaking Sides = false
is_breaking Replaced = true

abbrev pub is_adding : Change → Bool
is_adding Broken = false
is_adding Added = true
is_adding Sides = false
is_adding Replaced = true

-- ---- the four parts: their sets, as one of 24, the faces that they are about, and what is done there
abbrev pub set_in : Work → ℕ → ℕ
set_in w zero = w.own
set_in w (suc zero) = w.shown
set_in w (suc (suc zero)) = w.drawn
set_in w (suc (suc (suc p))) = w.hidden

abbrev pub packed : Work → ℕ
packed w = w.own + 64 * (w.shown + 64 * (w.drawn + 64 * w.hidden))

-- the neighbour's facing side, NONE where the grid has no neighbour
abbrev pub key_or : ℕ → Option ℕ → ℕ
key_or f none = NONE
key_or f (some n) = key_of n (opposite f)

-- the keys of a cell's own sides, then of those facing them
abbrev pub key_around : Size → ℕ → ℕ → ℕ
key_around s c i = cond (ltb i 6) (key_of c i) (key_or (i - 6) (neighbour s c (i - 6)))

abbrev pub keys_around : Size → ℕ → List ℕ
keys_around s c = table 12 (key_around s c)

-- a part is about own sides, or about facing ones
abbrev pub key_met : List ℕ → ℕ → ℕ → ℕ
key_met keys part f = get_or keys (6 * (part % 2) + f) 0

abbrev pub cutting : ℕ → Bool
cutting part = not (eqb part 1) && not (eqb part 2)

abbrev pub type_drawn : Entry → ℕ → ℕ → ℕ
type_drawn e part f = cond (eqb part 1) (given_at e f) e.type

abbrev pub deed_by : Bool → ℕ → ℕ → Deed
deed_by cuts t k = cond cuts (hide k) (show k t)

abbrev pub part_deeds : List ℕ → Entry → ℕ → ℕ → List Deed
part_deeds keys e set part = each 6 0 (λ f. only (has set f) (deed_by (cutting part) (type_drawn e part f) (key_met keys part f)))

-- the same by the one number, 6 · part + face
abbrev pub deed_by_side : List ℕ → Entry → ℕ → Deed
deed_by_side keys e i = deed_by (cutting (i / 6)) (type_drawn e (i / 6) (i % 6)) (key_met keys (i / 6) (i % 6))

abbrev pub deed_at : List ℕ → Entry → ℕ → ℕ → List Deed
deed_at keys e sides i = only (has sides i) (deed_by_side keys e i)

abbrev pub deeds : List ℕ → Entry → ℕ → List Deed
deeds keys e sides = each 24 0 (deed_at keys e sides)

abbrev pub quad_in : World → ℕ → ℕ → Quad
quad_in W = quad_by (λ k t. W.words_of t (k % 6) (k / 6))

-- what is drawn is of NormalCubes
pub record CubesDrawn (kinds : List ℕ) (e : Entry) (w : Work) : Type 0 where
  pub shown : (i : ℕ) → i < 6 → has w.shown i ≡ true → eqb (get_or kinds (given_at e i) 0) 1 ≡ true
  pub drawn : (i : ℕ) → i < 6 → has w.drawn i ≡ true → eqb (get_or kinds e.type 0) 1 ≡ true
