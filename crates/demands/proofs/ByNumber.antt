-- Of these promises, those that are said of the C calls too, whose answers are 01's numbers. Assumes nothing.
use Rattle.std.specs.Prelude.{Err}
use Prim.Native.Nat.{ℕ, ◌/◌, ◌≤◌}
use mathlib.Core.Path.{◌≡◌, refl, sym, ap, ◌∙◌, subst}
use mathlib.Core.Logic.{◌≢◌, ◌↔◌}
use mathlib.Core.Bool.{Bool, true}
use mathlib.Core.List.{List, [], ◌∷◌}
use native.Mathlib.Omega.{arith}
use lib.ListN.{length}
use borrow.Author.Tests.{ne_eqb}
use Rattle.rules.specs.Lists.{member}
use Rattle.rules.specs.Cube.{Shape}
use Rattle.rules.specs.Mesh.{Lists}
use Rattle.rules.specs.Update.{ENTRY_BYTES, source, AddsAlike}
use Rattle.rules.specs.Answers.{fine}
use Rattle.rules.specs.Check.{Right}
use Rattle.rules.specs.Calls.{Answer, CubeOutcome, Outcome, Scene, answered, world, lent_verdict, entries_of, open_verdict, check_verdict, check_mesh}
use Rattle.rules.proofs.Refusals.{CUBE, MESH, UPDATE, CHECK, check_numbers, cube_number, mesh_number, update_number, check_number, zero_fine, cube_refused, mesh_refused, update_refused}
use Rattle.rules.proofs.Modes.{itself_alike, modes_agree}
use Rattle.rules.proofs.Demands.{accepts_exactly, fresh_accepted, mended_accepted}
use Rattle.answers.specs.declared.Refusal.TheVariants.{NoRoom}
use Rattle.telling.specs.Numbers.{tested_from, answer, outcome}
use Rattle.demands.specs.Promised.{TellsCube, TellsMesh, TellsUpdate, TellsCheck, Fine, stopped_for}
use Rattle.demands.specs.Chunks.{first_of, ground_after, FillingLog, AlikeLog, MendableLog}
use Rattle.demands.proofs.Answers.{Stopped, what_an_update_call_says}
use Rattle.demands.proofs.Lent.{left_is_taken}
use Rattle.demands.proofs.Mending.{first_filling, first_alike}
use Rattle.demands.proofs.Exact.{the_check_is_exact}

-- one outcome: what two answers tell, and the lists they leave, are the same
pub one_c_cube : (shape : Shape) (room : List ℕ) (a b : Answer) (x y : List ℕ) → TellsCube shape room a x → TellsCube shape room b y → (a ≡ b) × (x ≡ y)
one_c_cube shape room a b x y p q = let e = p ∙ sym q in (ap (λ (o : CubeOutcome). o.answer) e, ap (λ (o : CubeOutcome). o.out) e)

one_told : (a b : Answer) (x y : Lists) → outcome a x ≡ outcome b y → (a ≡ b) × (x ≡ y)
one_told a b x y e = (ap (λ (o : Outcome). o.answer) e, ap (λ (o : Outcome). o.lists) e)

pub one_c_mesh : (S : Scene) (outer grid : List ℕ) (culling : Bool) (B : Lists) (a b : Answer) (x y : Lists)
    → TellsMesh S outer grid culling B a x → TellsMesh S outer grid culling B b y → (a ≡ b) × (x ≡ y)
one_c_mesh S outer grid culling B a b x y p q = one_told a b x y (p ∙ sym q)

pub one_c_update : (tested : ℕ) (S : Scene) (log : List ℕ) (B : Lists) (Q : ℕ) (a b : Answer) (x y : Lists)
    → TellsUpdate tested S log B Q a x → TellsUpdate tested S log B Q b y → (a ≡ b) × (x ≡ y)
one_c_update tested S log B Q a b x y p q = one_told a b x y (p ∙ sym q)

pub one_c_check : (S : Scene) (outer grid : List ℕ) (B : Lists) (Q m n i j : ℕ) → TellsCheck S outer grid B Q m i → TellsCheck S outer grid B Q n j
    → (m ≡ n) × (i ≡ j)
one_c_check S outer grid B Q m n i j p q = let e = p ∙ sym q in (ap (λ (a : Answer). a.number) e, ap (λ (a : Answer). a.place) e)

-- the number that a call returns is 0, or one of its own refusals
pub a_c_cube_call_tells_a_number_of_its_own : (shape : Shape) (room : List ℕ) (a : Answer) (exit : List ℕ) → TellsCube shape room a exit
    → member a.number (0 ∷ CUBE) ≡ true
a_c_cube_call_tells_a_number_of_its_own shape room a exit e =
    subst (λ (o : CubeOutcome). member o.answer.number (0 ∷ CUBE) ≡ true) (sym e) (cube_number shape room)

pub a_c_mesh_call_tells_a_number_of_its_own : (S : Scene) (outer grid : List ℕ) (culling : Bool) (B : Lists) (a : Answer) (exit : Lists)
    → TellsMesh S outer grid culling B a exit → member a.number (0 ∷ MESH) ≡ true
a_c_mesh_call_tells_a_number_of_its_own S outer grid culling B a exit e =
    subst (λ (o : Outcome). member o.answer.number (0 ∷ MESH) ≡ true) (sym e) (mesh_number S outer grid culling B)

pub a_c_update_call_tells_a_number_of_its_own : (tested : ℕ) (S : Scene) (log : List ℕ) (B : Lists) (Q : ℕ) (a : Answer) (exit : Lists)
    → TellsUpdate tested S log B Q a exit → member a.number (0 ∷ UPDATE) ≡ true
a_c_update_call_tells_a_number_of_its_own tested S log B Q a exit e =
    subst (λ (o : Outcome). member o.answer.number (0 ∷ UPDATE) ≡ true) (sym e) (update_number (tested_from tested) S log B Q)

pub a_c_check_call_tells_a_number_of_its_own : (S : Scene) (outer grid : List ℕ) (B : Lists) (Q number place : ℕ)
    → TellsCheck S outer grid B Q number place → member number (0 ∷ CHECK) ≡ true
a_c_check_call_tells_a_number_of_its_own S outer grid B Q number place e =
    subst (λ (a : Answer). member a.number (0 ∷ CHECK) ≡ true) (sym e) (check_number S outer grid B Q)

pub a_refused_c_cube_changes_nothing : (shape : Shape) (room : List ℕ) (a : Answer) (exit : List ℕ) → a.number ≢ 0
    → TellsCube shape room a exit → exit ≡ room
a_refused_c_cube_changes_nothing shape room a exit d e =
    ap (λ (o : CubeOutcome). o.out) e ∙ cube_refused shape room (subst (λ (o : CubeOutcome). o.answer.number ≢ 0) e d)

pub a_refused_c_mesh_changes_nothing : (S : Scene) (outer grid : List ℕ) (culling : Bool) (B : Lists) (a : Answer) (exit : Lists) → a.number ≢ 0
    → TellsMesh S outer grid culling B a exit → exit ≡ B
a_refused_c_mesh_changes_nothing S outer grid culling B a exit d e =
    ap (λ (o : Outcome). o.lists) e ∙ mesh_refused S outer grid culling B (subst (λ (o : Outcome). o.answer.number ≢ 0) e d)

pub a_refused_c_update_changes_nothing : (tested : ℕ) (S : Scene) (log : List ℕ) (B : Lists) (Q : ℕ) (a : Answer) (exit : Lists) → a.number ≢ 0
    → a.number ≢ 14 → TellsUpdate tested S log B Q a exit → exit ≡ B
a_refused_c_update_changes_nothing tested S log B Q a exit d f e =
    ap (λ (o : Outcome). o.lists) e
    ∙ update_refused (tested_from tested) S log B Q (subst (λ (o : Outcome). o.answer.number ≢ 0) e d) (subst (λ (o : Outcome). o.answer.number ≢ 14) e f)

stopped_c : (tested : ℕ) (S : Scene) (log : List ℕ) (B : Lists) (Q : ℕ) (a : Answer) (exit : Lists) → a.number ≡ 14
    → TellsUpdate tested S log B Q a exit → Stopped (tested_from tested) S log B Q a.place (record { quads = a.quads; moved = a.moved }) exit
stopped_c tested S log B Q a exit z e =
    (what_an_update_call_says (tested_from tested) S log B Q (Err (stopped_for NoRoom a.place (record { quads = a.quads; moved = a.moved }))) exit
    ((λ i. outcome (answer (sym z i) a.place a.quads a.moved) exit) ∙ e)).stopped refl

-- the one exception: what is left is what the call for the entries before it leaves
pub out_of_room_c_keeps_the_entries_before : (tested : ℕ) (S : Scene) (log : List ℕ) (B : Lists) (Q : ℕ) (a : Answer) (exit : Lists) → a.number ≡ 14
    → TellsUpdate tested S log B Q a exit → TellsUpdate tested S (first_of a.place log) B Q (answer 0 0 a.quads a.moved) exit
out_of_room_c_keeps_the_entries_before tested S log B Q a exit z e = (stopped_c tested S log B Q a exit z e).before

-- what a call leaves that returns 0 or 14 passes 9 to 12 again, whatever the log was
pub what_a_c_update_leaves_is_taken : (tested : ℕ) (S : Scene) (log : List ℕ) (B : Lists) (Q : ℕ) (a : Answer) (exit : Lists)
    → member a.number (0 ∷ 14 ∷ []) ≡ true → TellsUpdate tested S log B Q a exit → lent_verdict S exit a.quads ≡ fine
what_a_c_update_leaves_is_taken tested = left_is_taken (tested_from tested)

pub the_c_check_is_exact : (S : Scene) (outer grid : List ℕ) (B : Lists) (Q number place : ℕ) → TellsCheck S outer grid B Q number place
    → (number ≡ 0) ↔ ((open_verdict S outer grid B Q ≡ fine) × Right (world S) outer grid S.types.coloured B Q)
the_c_check_is_exact S outer grid B Q number place e = (
  λ z. let v = zero_fine CHECK refl (check_verdict S outer grid B Q) (check_numbers S outer grid B Q) (sym (ap (λ (x : Answer). x.number) e) ∙ z) in
      (the_check_is_exact S outer grid B Q Fine (sym v)).0 refl,
  λ h. ap (λ (x : Answer). x.number) (e ∙ (accepts_exactly S outer grid B Q h.0).1 h.1),
)

pub a_fresh_c_mesh_passes : (S : Scene) (outer grid : List ℕ) (B : Lists) (a : Answer) (exit : Lists) (number place : ℕ) → a.number ≡ 0
    → TellsMesh S outer grid true B a exit → TellsCheck S outer grid exit a.quads number place → number ≡ 0
a_fresh_c_mesh_passes S outer grid B a exit number place z e c =
    let passes = subst (λ (o : Outcome). check_mesh S outer grid o.lists o.answer.quads ≡ answered 0 0) (sym e)
    (fresh_accepted S outer grid B (sym (ap (λ (o : Outcome). o.answer.number) e) ∙ z)) in
    ap (λ (x : Answer). x.number) (c ∙ passes)

c_mended : (tested : ℕ) (S : Scene) (log grid : List ℕ) (B : Lists) (Q before : ℕ) (a : Answer) (exit : Lists) (number place : ℕ)
    → TellsCheck S [] grid B Q 0 before → FillingLog S grid log → AddsAlike (tested_from tested) (world S) (entries_of log)
    → a.number ≡ 0 → TellsUpdate tested S log B Q a exit → TellsCheck S [] (ground_after S log grid) exit a.quads number place → number ≡ 0
c_mended tested S log grid B Q before a exit number place p h alike z e c =
    let passes = subst (λ (o : Outcome). check_mesh S [] (ground_after S log grid) o.lists o.answer.quads ≡ answered 0 0) (sym e)
    (mended_accepted (tested_from tested) S grid log B Q (sym (ap (λ (x : Answer). x.number) p)) h.honest h.mends alike
    (sym (ap (λ (o : Outcome). o.answer.number) e) ∙ z)) in
    ap (λ (x : Answer). x.number) (c ∙ passes)

pub a_mended_c_mesh_passes : (S : Scene) (log grid : List ℕ) (B : Lists) (Q before : ℕ) (a : Answer) (exit : Lists) (number place : ℕ)
    → TellsCheck S [] grid B Q 0 before → MendableLog S grid log → a.number ≡ 0 → TellsUpdate 0 S log B Q a exit
    → TellsCheck S [] (ground_after S log grid) exit a.quads number place → number ≡ 0
a_mended_c_mesh_passes S log grid B Q before a exit number place p h =
    c_mended 0 S log grid B Q before a exit number place p h.filling h.alike

pub a_c_mesh_mended_with_slabs_passes : (tested : ℕ) (S : Scene) (log grid : List ℕ) (B : Lists) (Q before : ℕ) (a : Answer) (exit : Lists)
    (number place : ℕ) → tested ≢ 0 → TellsCheck S [] grid B Q 0 before → FillingLog S grid log → a.number ≡ 0 → TellsUpdate tested S log B Q a exit
    → TellsCheck S [] (ground_after S log grid) exit a.quads number place → number ≡ 0
a_c_mesh_mended_with_slabs_passes tested S log grid B Q before a exit number place d p h =
    c_mended tested S log grid B Q before a exit number place p h (rw (ne_eqb tested 0 d) (itself_alike (world S) (entries_of log)))

-- out of room: the mesh passes for the grid after the entries that were done
pub out_of_room_c_and_still_right : (tested : ℕ) (S : Scene) (log grid : List ℕ) (B : Lists) (Q before : ℕ) (a : Answer) (exit : Lists) (number place : ℕ)
    → TellsCheck S [] grid B Q 0 before → FillingLog S grid log → AddsAlike (tested_from tested) (world S) (entries_of log) → a.number ≡ 14
    → TellsUpdate tested S log B Q a exit → TellsCheck S [] (ground_after S (first_of a.place log) grid) exit a.quads number place → number ≡ 0
out_of_room_c_and_still_right tested S log grid B Q before a exit number place p h alike z e c =
    let s = stopped_c tested S log B Q a exit z e in
    let l : a.place ≤ length log / ENTRY_BYTES = omega (arith, s.first.in_log) in
    c_mended tested S (first_of a.place log) grid B Q before (answer 0 0 a.quads a.moved) exit number place p
    (first_filling S log a.place l grid h) (first_alike S log a.place l (tested_from tested) alike) refl s.before c

-- for cubes that cover opposite sides alike both modes give the same answer and the same lists
pub both_c_modes_agree : (tested : ℕ) (S : Scene) (log : List ℕ) (B : Lists) (Q : ℕ) (a b : Answer) (x y : Lists) → tested ≢ 0 → AlikeLog S log
    → TellsUpdate 0 S log B Q a x → TellsUpdate tested S log B Q b y → (a ≡ b) × (x ≡ y)
both_c_modes_agree tested S log B Q a b x y d h p q =
    one_told a b x y (p ∙ modes_agree source S log B Q h ∙ sym (q ∙ rw (ne_eqb tested 0 d)))
