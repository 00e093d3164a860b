-- A call for each entry of a log. Definitions only.
use Rattle.std.specs.Prelude.{ℕ, zero, suc, ◌*◌, ◌/◌, true, cond, List, [], eqb, length, Ok, Err}
use Rattle.rules.specs.Lists.{part}
use Rattle.rules.specs.Mesh.{Lists}
use Rattle.rules.specs.Update.{ENTRY_BYTES, Tested}
use Rattle.rules.specs.Answers.{Verdict, fine, refuse, ◌then◌}
use Rattle.rules.specs.Calls.{Outcome, Scene, mesh_verdict, mesh_grid, update_mesh, check_verdict}
use Rattle.answers.specs.Verdicts.{number_of}
use Rattle.demands.specs.Promised.{Meshed}
use Rattle.release.specs.Composed.{Ending, ends_with, only_after}

-- through all the calls, with these lists and so many quads; or halted by a refusal with its number and place
pub data Progress : Type 0 where
  through : Lists → ℕ → Progress
  halted : ℕ → ℕ → Lists → Progress

abbrev pub went_of : Meshed → Lists → Progress
went_of (Ok quads) B = through B quads
went_of (Err r) B = halted (number_of r.why) r.place B

-- after a call that was answered, the rest; after one that was refused, nothing
abbrev pub onward : Outcome → (Lists → ℕ → Progress) → Progress
onward u rest = cond (eqb u.answer.number 0) (rest u.lists u.answer.quads) (halted u.answer.number u.answer.place u.lists)

-- the log of entry i alone
abbrev pub entry_log : List ℕ → ℕ → List ℕ
entry_log log i = part (ENTRY_BYTES * i) ENTRY_BYTES log

-- a call for each of entries i, i + 1, .., n of them
unfoldable pub calls : Tested → Scene → List ℕ → ℕ → ℕ → Lists → ℕ → Progress
calls tested S log i zero B Q = through B Q
calls tested S log i (suc n) B Q = onward (update_mesh tested S (entry_log log i) B Q) (calls tested S log (suc i) n)

-- what refuses the calls, if anything does
abbrev pub verdict_on : Progress → Verdict
verdict_on (through B Q) = fine
verdict_on (halted number place B) = refuse number place

-- the lists as they left them
abbrev pub lists_on : Progress → Lists
lists_on (through B Q) = B
lists_on (halted number place B) = B

-- and the check of what they left, with no outer face named
abbrev pub passed_on : Scene → List ℕ → Progress → Verdict
passed_on S left (through B Q) = check_verdict S [] left B Q
passed_on S left (halted number place B) = refuse number place

abbrev pub ends_on : Scene → List ℕ → Progress → Ending
ends_on S left p = ends_with (passed_on S left p) (lists_on p)

-- a fresh mesh by Culling with no outer face named, then a call for each entry
abbrev pub chain : Tested → Scene → List ℕ → List ℕ → Lists → Progress
chain tested S grid log B = let m = mesh_grid S [] grid true B in calls tested S log 0 (length log / ENTRY_BYTES) m.lists m.answer.quads

abbrev pub chain_promise : Tested → Scene → List ℕ → List ℕ → Lists → Verdict
chain_promise tested S grid log B = mesh_verdict S [] grid true B then verdict_on (chain tested S grid log B)

abbrev pub chain_ending : Tested → Scene → List ℕ → List ℕ → List ℕ → Lists → Ending
chain_ending tested S grid log left B =
    only_after (mesh_verdict S [] grid true B) (mesh_grid S [] grid true B).lists (ends_on S left (chain tested S grid log B))
