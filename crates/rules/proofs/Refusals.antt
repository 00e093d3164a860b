-- Each call answers a result or one numbered refusal of 01, and a refusal changes nothing. Assumes nothing.
use mathlib.Core.Path.{◌≡◌, refl, sym, ap, ◌∙◌}
use mathlib.Core.Logic.{◌≢◌}
use mathlib.Core.Bool.{Bool, true, false, cond}
use mathlib.Core.List.{List, [], ◌∷◌, ◌++◌}
use mathlib.Core.Option.{Option, none, some}
use Prim.Native.Nat.{ℕ}
use native.Mathlib.Omega.{arith}
use lib.Dec.{eqb}
use Rattle.rules.specs.Lists.{member}
use Rattle.rules.specs.Cube.{Shape}
use Rattle.rules.specs.Mesh.{Lists}
use Rattle.rules.specs.Update.{Tested, Course}
use Rattle.rules.specs.Answers.{Verdict, fine, refuse, ◌then◌, refuse_if, BAD_NUMBER, BAD_TEXTURE, BAD_TYPES, BAD_LINKS, BAD_ENTRY}
use Rattle.rules.specs.Calls.{cube_verdict, cube_by, generate_voxel_mesh, Scene, types_verdict, mesh_verdict, meshed_by, mesh_grid, fresh_mesh, update_verdict, course, course_answer, update_by, update_mesh, book_verdict, check_verdict, check_by, check_mesh}
use Rattle.rules.proofs.ListLaws.{split, member-append}

-- ---- one numbered refusal

-- nothing is refused, or one of these numbers is given
pub data Within (ns : List ℕ) : Verdict → Type 0 where
  none_given : Within ns fine
  given : {n p : ℕ} → member n ns ≡ true → Within ns (refuse n p)

infixr 20 ◌and_then◌
◌and_then◌ : {ns : List ℕ} {a b : Verdict} → Within ns a → Within ns b → Within ns (a then b)
unfolding ◌then◌
none_given and_then w = w
given h and_then w = given h

if_given : {ns : List ℕ} (b : Bool) (n p : ℕ) → member n ns ≡ true → Within ns (refuse_if b n p)
unfolding refuse_if
if_given true n p h = given h
if_given false n p h = none_given

-- in the words of 01: Cube: 4, 5, 7, 9. Mesh: 2, 3, 4, 6, 7, 8, 9, 14. Update: 2, 3, 4, 6, 9 to 14. Check: 2, 3, 4, 6 to 12, 15, 16
abbrev pub CUBE : List ℕ
CUBE = 4 ∷ 5 ∷ 7 ∷ 9 ∷ []

abbrev pub MESH : List ℕ
MESH = 2 ∷ 3 ∷ 4 ∷ 6 ∷ 7 ∷ 8 ∷ 9 ∷ 14 ∷ []

-- before its log is run, and then
abbrev pub UPDATE_FIRST : List ℕ
UPDATE_FIRST = 2 ∷ 3 ∷ 4 ∷ 6 ∷ 9 ∷ 10 ∷ 11 ∷ 12 ∷ 13 ∷ []

abbrev pub UPDATE : List ℕ
UPDATE = UPDATE_FIRST ++ (14 ∷ [])

abbrev pub CHECK : List ℕ
CHECK = 2 ∷ 3 ∷ 4 ∷ 6 ∷ 7 ∷ 8 ∷ 9 ∷ 10 ∷ 11 ∷ 12 ∷ 15 ∷ 16 ∷ []

pub cube_numbers : (q : Shape) (out : List ℕ) → Within CUBE (cube_verdict q out)
unfolding BAD_NUMBER BAD_TEXTURE
cube_numbers q out = if_given _ _ _ refl and_then if_given _ _ _ refl and_then (if_given _ _ _ refl and_then if_given _ _ _ refl) and_then if_given _ _ _ refl

types_numbers : {ns : List ℕ} → member 3 ns ≡ true → member 4 ns ≡ true → member 6 ns ≡ true → (S : Scene) → Within ns (types_verdict S)
unfolding BAD_TYPES BAD_NUMBER
types_numbers a b c S = (if_given _ _ _ a and_then if_given _ _ _ a) and_then if_given _ _ _ b and_then if_given _ _ _ c

pub mesh_numbers : (S : Scene) (outer g : List ℕ) (culling : Bool) (B : Lists) → Within MESH (mesh_verdict S outer g culling B)
mesh_numbers S outer g culling B =
    (if_given _ _ _ refl and_then if_given _ _ _ refl and_then types_numbers refl refl refl S and_then if_given _ _ _ refl and_then if_given _ _ _ refl
    and_then if_given _ _ _ refl)
    and_then if_given _ _ _ refl

book_numbers : {ns : List ℕ} → member 11 ns ≡ true → member 12 ns ≡ true → (S : Scene) (B : Lists) (Q : ℕ) → Within ns (book_verdict S B Q)
unfolding BAD_LINKS
book_numbers a b S B Q = (if_given _ _ _ a and_then if_given _ _ _ a) and_then if_given _ _ _ b

pub update_numbers : (S : Scene) (log : List ℕ) (B : Lists) (Q : ℕ) → Within UPDATE_FIRST (update_verdict S log B Q)
unfolding BAD_ENTRY
update_numbers S log B Q =
    if_given _ _ _ refl and_then types_numbers refl refl refl S and_then (if_given _ _ _ refl and_then if_given _ _ _ refl and_then book_numbers refl refl S B Q)
    and_then (if_given _ _ _ refl and_then if_given _ _ _ refl)

pub check_numbers : (S : Scene) (outer g : List ℕ) (B : Lists) (Q : ℕ) → Within CHECK (check_verdict S outer g B Q)
check_numbers S outer g B Q =
    ((if_given _ _ _ refl and_then if_given _ _ _ refl and_then types_numbers refl refl refl S and_then if_given _ _ _ refl and_then if_given _ _ _ refl
    and_then if_given _ _ _ refl)
    and_then if_given _ _ _ refl)
    and_then book_numbers refl refl S B Q and_then if_given _ _ _ refl and_then if_given _ _ _ refl

-- of a log, 13 alone
pub entry_numbers : (n types : ℕ) (log : List ℕ) → Within (13 ∷ []) (BAD_ENTRY n types log)
unfolding BAD_ENTRY
entry_numbers n types log = if_given _ _ _ refl and_then if_given _ _ _ refl

-- ---- the number that a call tells is 0, or one of its own

own_number : (ns : List ℕ) (v : Verdict) → Within ns v → member (check_by v).number (0 ∷ ns) ≡ true
own_number ns fine w = refl
own_number ns (refuse n p) (given h) = split (λ t. cond t true (member n ns) ≡ true) (eqb n 0) (λ z. refl) (λ z. h)

pub cube_number : (q : Shape) (out : List ℕ) → member (generate_voxel_mesh q out).answer.number (0 ∷ CUBE) ≡ true
cube_number q out = go (cube_verdict q out) (cube_numbers q out)
  where
    go : (v : Verdict) → Within CUBE v → member (cube_by v q out).answer.number (0 ∷ CUBE) ≡ true
    go fine w = refl
    go (refuse n p) w = own_number CUBE (refuse n p) w

pub mesh_number : (S : Scene) (outer g : List ℕ) (culling : Bool) (B : Lists) → member (mesh_grid S outer g culling B).answer.number (0 ∷ MESH) ≡ true
mesh_number S outer g culling B = go (mesh_verdict S outer g culling B) (mesh_numbers S outer g culling B)
  where
    go : (v : Verdict) → Within MESH v → member (meshed_by v S (fresh_mesh S outer g culling) B).answer.number (0 ∷ MESH) ≡ true
    go fine w = refl
    go (refuse n p) w = own_number MESH (refuse n p) w

pub update_number : (tested : Tested) (S : Scene) (log : List ℕ) (B : Lists) (Q : ℕ)
    → member (update_mesh tested S log B Q).answer.number (0 ∷ UPDATE) ≡ true
update_number tested S log B Q = go (update_verdict S log B Q) (update_numbers S log B Q)
  where
    c : Course
    c = course tested S log B Q

    ran : (o : Option ℕ) → member (course_answer c o).number (0 ∷ UPDATE) ≡ true
    ran none = refl
    ran (some k) = refl

    go : (v : Verdict) → Within UPDATE_FIRST v → member (update_by v S c B).answer.number (0 ∷ UPDATE) ≡ true
    go fine w = ran c.full
    go (refuse n p) w = member-append n (0 ∷ UPDATE_FIRST) (14 ∷ []) ∙ rw (own_number UPDATE_FIRST (refuse n p) w)

pub check_number : (S : Scene) (outer g : List ℕ) (B : Lists) (Q : ℕ) → member (check_mesh S outer g B Q).number (0 ∷ CHECK) ≡ true
check_number S outer g B Q = own_number CHECK (check_verdict S outer g B Q) (check_numbers S outer g B Q)

-- ---- number 0 is given exactly where nothing is refused

-- no list of 01 has the number 0
pub zero_fine : (ns : List ℕ) → member 0 ns ≡ false → (v : Verdict) → Within ns v → (check_by v).number ≡ 0 → v ≡ fine
zero_fine ns h fine w e = refl
zero_fine ns h (refuse n p) (given k) e = let z : ◌≡◌ {A = Bool} true false = sym k ∙ ap (λ (i : ℕ). member i ns) e ∙ h in absurd (clash z)
  where
    clash : true ≡ false → ⊥
    clash z = let y : ◌≡◌ {A = ℕ} 0 1 = cc in omega arith

-- ---- a refused call changes no lent list

pub cube_refused : (q : Shape) (out : List ℕ) → (generate_voxel_mesh q out).answer.number ≢ 0 → (generate_voxel_mesh q out).out ≡ out
cube_refused q out h = go (cube_verdict q out) h
  where
    go : (v : Verdict) → (cube_by v q out).answer.number ≢ 0 → (cube_by v q out).out ≡ out
    go fine d = absurd (d refl)
    go (refuse n p) d = refl

pub mesh_refused : (S : Scene) (outer g : List ℕ) (culling : Bool) (B : Lists)
    → (mesh_grid S outer g culling B).answer.number ≢ 0 → (mesh_grid S outer g culling B).lists ≡ B
mesh_refused S outer g culling B h = go (mesh_verdict S outer g culling B) h
  where
    go : (v : Verdict) → (meshed_by v S (fresh_mesh S outer g culling) B).answer.number ≢ 0 → (meshed_by v S (fresh_mesh S outer g culling) B).lists ≡ B
    go fine d = absurd (d refl)
    go (refuse n p) d = refl

-- only an update out of room, 14, keeps the entries before the one it stopped at
pub update_refused : (tested : Tested) (S : Scene) (log : List ℕ) (B : Lists) (Q : ℕ)
    → (update_mesh tested S log B Q).answer.number ≢ 0 → (update_mesh tested S log B Q).answer.number ≢ 14
    → (update_mesh tested S log B Q).lists ≡ B
update_refused tested S log B Q h k = go (update_verdict S log B Q) h k
  where
    c : Course
    c = course tested S log B Q

    through : (o : Option ℕ) → (c.full ≡ o) → (update_by fine S c B).answer.number ≢ 0 → (update_by fine S c B).answer.number ≢ 14
        → (update_by fine S c B).lists ≡ B
    through none e a b = absurd (a (rw e))
    through (some i) e a b = absurd (b (rw e))

    go : (v : Verdict) → (update_by v S c B).answer.number ≢ 0 → (update_by v S c B).answer.number ≢ 14 → (update_by v S c B).lists ≡ B
    go fine a b = through c.full refl a b
    go (refuse n p) a b = refl
