-- The two modes of an update: the side tested of a cube that comes is the opposite (source) or the side itself (02, Q-2). Assumes nothing.
use mathlib.Core.Path.{◌≡◌, refl, ap, ◌∙◌}
use mathlib.Core.Bool.{true, cond}
use mathlib.Core.List.{List, [], ◌∷◌}
use mathlib.Core.Option.{Option, none, some}
use Prim.Native.Nat.{ℕ, zero, suc, ◌+◌, ◌/◌, ◌≤◌, ◌<◌}
use native.Mathlib.Omega.{arith}
use native.Mathlib.Decide.{ℕ_discrete}
use lib.ListN.{length}
use Rattle.rules.specs.Lists.{each}
use Rattle.rules.specs.Cells.{Size, neighbour}
use Rattle.rules.specs.Mesh.{World, Lists, is_normal_cube, covering, decode}
use Rattle.rules.specs.Update.{ENTRY_BYTES, Change, Broken, Added, Sides, Replaced, Entry, entry_at, Tested, itself, conceal, nothing, added, broken, added_if_cube, first_half, second_half, in_one, work_by, work, Course, Alike, AlikeBy, AddsAlike}
use Rattle.rules.specs.Calls.{Scene, world, room, entries_of, update_verdict, update_by, update_mesh}
use Rattle.rules.proofs.ListLaws.{split, each_same}
use Rattle.rules.proofs.Courses.{course_alike}

-- ---- what a log's cubes cover

-- what an entry asks for holds where every cube of the table covers alike
alike_by : (tested : Tested) (W : World) → ((t : ℕ) → is_normal_cube W t ≡ true → Alike tested W t) → (e : Entry) (k : Change) → AlikeBy tested W e k
alike_by tested W cubes e Broken = tt
alike_by tested W cubes e Added = cubes e.type
alike_by tested W cubes e Sides = tt
alike_by tested W cubes e Replaced = cubes e.type

-- LAW: where every cube of the table covers alike, those that a log puts do
pub table_alike : (tested : Tested) (W : World) → ((t : ℕ) → is_normal_cube W t ≡ true → Alike tested W t) → (es : List Entry) → AddsAlike tested W es
table_alike tested W cubes [] = tt
table_alike tested W cubes (e ∷ es) = (alike_by tested W cubes e e.change, table_alike tested W cubes es)

-- LAW: any cube covers the side itself as the side itself, so the new mode asks nothing of covers
pub itself_alike : (W : World) (es : List Entry) → AddsAlike itself W es
itself_alike W = table_alike itself W (λ t c f h. refl)

-- the entries one by one
alike_at : (tested : Tested) (W : World) (entry : ℕ → Entry) (i n : ℕ) → AddsAlike tested W (each n i (λ j. entry j ∷ []))
    → (j : ℕ) → i ≤ j → j < i + n → AlikeBy tested W (entry j) (entry j).change
unfolding each
alike_at tested W entry i zero h j a b = absurd (omega arith)
alike_at tested W entry i (suc n) h j a b = go (ℕ_discrete j i) (alike_at tested W entry (suc i) n h.1 j)
  where
    go : Dec (j ≡ i) → (suc i ≤ j → j < suc i + n → AlikeBy tested W (entry j) (entry j).change) → AlikeBy tested W (entry j) (entry j).change
    go (yes e) later = rw e h.0
    go (no d) later = later (omega arith) (omega arith)

-- ---- what a log does

-- concealing looks at the sides covered alone
pub conceals_same : (a b : Tested) (U W : World) (t c : ℕ) → ((i : ℕ) → i < 6 → covering U t (a i) ≡ covering W t (b i)) → U.size ≡ W.size
    → each 6 0 (λ i. conceal a U t i (neighbour U.size c i)) ≡ each 6 0 (λ i. conceal b W t i (neighbour W.size c i))
conceals_same a b U W t c covered size =
    each_same 6 0 (λ i. conceal a U t i (neighbour U.size c i)) (λ i. conceal b W t i (neighbour W.size c i))
    (λ i x h. ap (λ (s : Size). conceal a U t i (neighbour s c i)) size ∙ one i h (neighbour W.size c i))
  where
    one : (i : ℕ) → i < 6 → (o : Option ℕ) → conceal a U t i o ≡ conceal b W t i o
    one i h none = refl
    one i h (some n) = rw (covered i h)

added_alike : (tested : Tested) (W : World) (e : Entry) → Alike tested W e.type → added tested W e ≡ added itself W e
added_alike tested W e alike = rw (conceals_same tested itself W W e.type e.cell alike refl)

cube_alike : (tested : Tested) (W : World) (e : Entry) → (is_normal_cube W e.type ≡ true → Alike tested W e.type) → added_if_cube tested W e ≡ added_if_cube itself W e
cube_alike tested W e h =
    split (λ t. is_normal_cube W e.type ≡ t → cond t (added tested W e) nothing ≡ cond t (added itself W e) nothing) (is_normal_cube W e.type)
    (λ x c. added_alike tested W e (h c)) (λ x c. refl) refl

work_alike : (tested : Tested) (W : World) (e : Entry) (k : Change) → AlikeBy tested W e k → work_by tested W e k ≡ work_by itself W e k
work_alike tested W e Broken h = refl
work_alike tested W e Added h = cube_alike tested W e h
work_alike tested W e Sides h = refl
work_alike tested W e Replaced h = ap (in_one (broken W (first_half e))) (cube_alike tested W (second_half e) h)

-- LAW: for cubes that cover the side that is tested as the side itself, both modes give the same answer and the same lists, after any log
pub modes_agree : (tested : Tested) (S : Scene) (log : List ℕ) (B : Lists) (Q : ℕ) → AddsAlike tested (world S) (entries_of log)
    → update_mesh tested S log B Q ≡ update_mesh itself S log B Q
modes_agree tested S log B Q h =
    ap (λ (c : Course). update_by (update_verdict S log B Q) S c B)
    (course_alike (room S B) (λ k. work tested (world S) (entry_at log k)) (λ k. work itself (world S) (entry_at log k)) 0 (length log / ENTRY_BYTES)
    (decode S.types.coloured Q B) 0 Q
    (λ j l. work_alike tested (world S) (entry_at log j) (entry_at log j).change
    (alike_at tested (world S) (entry_at log) 0 (length log / ENTRY_BYTES) h j (omega arith) l)))
