-- Each answer can be read back from 01's number, place and counts for it. Assumes nothing.
use Rattle.std.specs.Prelude.{Ok, Err}
use Prim.Native.Nat.{ℕ, ◌-◌}
use mathlib.Core.Path.{◌≡◌, refl, ap}
use mathlib.Core.Bool.{false, cond}
use mathlib.Core.List.{List, [], ◌∷◌}
use lib.Dec.{eqb}
use lib.ListN.{get_or}
use Rattle.rules.specs.Mesh.{Lists}
use Rattle.rules.specs.Answers as rules
use Rattle.rules.specs.Answers.{fine, refuse}
use Rattle.rules.specs.Calls.{Answer, Outcome, CubeOutcome}
use Rattle.answers.specs.declared.Refusal.{Refusal}
use Rattle.answers.specs.declared.Refusal.TheVariants.{BadFile, BadSize, BadTypes, BadNumber, BadAtlas, NotACube, BadFace, BadCell, ShortRoom, BadCount, BadLinks, BadTriangles, BadEntry, NoRoom, WrongSet, WrongVertex}
use Rattle.answers.specs.Verdicts.{number_of, verdict_of}
use Rattle.voxel_mesh.specs.Outcome as cube
use Rattle.meshem.specs.Outcome as mesh
use Rattle.terms.specs.declared.Count.{Count}
use Rattle.update.specs.Outcome.{outcome_of}
use Rattle.demands.specs.Promised.{Verdict, Meshed, Updated, Fine, refused_for, stopped_for}

-- the refusals, from number 1
abbrev names : List Refusal
names =
    BadFile ∷ BadSize ∷ BadTypes ∷ BadNumber ∷ BadAtlas ∷ NotACube ∷ BadFace ∷ BadCell ∷ ShortRoom ∷ BadCount ∷ BadLinks ∷ BadTriangles
    ∷ BadEntry ∷ NoRoom ∷ WrongSet ∷ WrongVertex ∷ []

abbrev pub name_of : ℕ → Refusal
name_of n = get_or names (n - 1) BadFile

-- a refusal's number gives its name, and none has the number 0
pub numbered : (why : Refusal) → (name_of (number_of why) ≡ why) × (eqb (number_of why) 0 ≡ false)
numbered BadFile = (refl, refl)
numbered BadSize = (refl, refl)
numbered BadTypes = (refl, refl)
numbered BadNumber = (refl, refl)
numbered BadAtlas = (refl, refl)
numbered NotACube = (refl, refl)
numbered BadFace = (refl, refl)
numbered BadCell = (refl, refl)
numbered ShortRoom = (refl, refl)
numbered BadCount = (refl, refl)
numbered BadLinks = (refl, refl)
numbered BadTriangles = (refl, refl)
numbered BadEntry = (refl, refl)
numbered NoRoom = (refl, refl)
numbered WrongSet = (refl, refl)
numbered WrongVertex = (refl, refl)

-- ---- the cube's answer

abbrev pub read_cube : CubeOutcome → Verdict
read_cube o = cond (eqb o.answer.number 0) Fine (Err (refused_for (name_of o.answer.number) o.answer.place))

pub cube_reads : (r : Verdict) (room : List ℕ) → read_cube (cube.outcome r room) ≡ r
cube_reads (Ok u) room = refl
cube_reads (Err r) room = let n = numbered r.why in rw n.1 (ap (λ (w : Refusal). Err (refused_for w r.place)) n.0)

-- ---- the check's

abbrev pub read_verdict : rules.Verdict → Verdict
read_verdict fine = Fine
read_verdict (refuse n p) = Err (refused_for (name_of n) p)

pub verdict_reads : (r : Verdict) → read_verdict (verdict_of r) ≡ r
verdict_reads (Ok u) = refl
verdict_reads (Err r) = ap (λ (w : Refusal). Err (refused_for w r.place)) (numbered r.why).0

-- ---- the mesh's

abbrev meshed_of : Answer → Meshed
meshed_of a = cond (eqb a.number 0) (Ok a.quads) (Err (refused_for (name_of a.number) a.place))

abbrev pub read_mesh : Outcome → Meshed
read_mesh o = meshed_of o.answer

pub mesh_reads : (r : Meshed) (B : Lists) → read_mesh (mesh.outcome r B) ≡ r
mesh_reads (Ok quads) B = refl
mesh_reads (Err r) B = let n = numbered r.why in rw n.1 (ap (λ (w : Refusal). Err (refused_for w r.place)) n.0)

-- ---- the update's

abbrev count_of : Answer → Count
count_of a = record { quads = a.quads; moved = a.moved }

abbrev updated_of : Answer → Updated
updated_of a = cond (eqb a.number 0) (Ok (count_of a)) (Err (stopped_for (name_of a.number) a.place (count_of a)))

abbrev pub read_update : Outcome → Updated
read_update o = updated_of o.answer

pub update_reads : (r : Updated) (B : Lists) → read_update (outcome_of r B) ≡ r
update_reads (Ok count) B = refl
update_reads (Err s) B =
    let n = numbered s.refused.why in rw n.1 (ap (λ (w : Refusal). Err (stopped_for w s.refused.place s.count)) n.0)
