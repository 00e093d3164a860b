-- The call's answer with the lists at exit, as the rules see them. Definitions only.
use Rattle.std.specs.Prelude.{ℕ, ◌≡◌, Bool, List, Result, Ok, Err}
use Rattle.rules.specs.Mesh.{Lists}
use Rattle.rules.specs.Calls.{Answer, answered, refused, Outcome, Scene, mesh_grid}
use Rattle.answers.specs.declared.Refused.{Refused}
use Rattle.answers.specs.Verdicts.{number_of}

-- 01's number, place and count for each answer
abbrev pub answer_of : Result ℕ Refused → Answer
answer_of (Ok quads) = answered quads 0
answer_of (Err e) = refused (number_of e.why) e.place

abbrev pub outcome : Result ℕ Refused → Lists → Outcome
outcome r lists = record { answer = answer_of r; lists = lists }

-- the call's contract: it answers r, and leaves the lists at exit
abbrev pub Meshes : Scene → List ℕ → List ℕ → Bool → Lists → Result ℕ Refused → Lists → Type 0
Meshes S outer grid culling B r exit = outcome r exit ≡ mesh_grid S outer grid culling B
