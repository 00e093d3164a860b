-- What the calls answer one after the other, and what they leave. Definitions only.
use Rattle.std.specs.Prelude.{ℕ, Bool, true, false, cond, List, [], eqb, Ok, Err}
use Rattle.rules.specs.Mesh.{Lists}
use Rattle.rules.specs.Update.{Tested}
use Rattle.rules.specs.Answers.{Verdict, fine, refuse, ◌then◌}
use Rattle.rules.specs.Calls.{Answer, Outcome, Scene, mesh_verdict, mesh_grid, update_mesh, check_verdict}
use Rattle.demands.specs.Promised.{Meshed, Updated}

-- an update's answer as that of a mesh: how many quads there are, or the refusal
abbrev pub meshed_by : Updated → Meshed
meshed_by (Ok count) = Ok count.quads
meshed_by (Err s) = Err s.refused

abbrev pub refuses : Verdict → Bool
refuses fine = false
refuses (refuse n p) = true

-- the last verdict, and the lists as they are left
pub record Ending : Type 0 where
  pub verdict : Verdict
  pub lists : Lists

abbrev pub ends_with : Verdict → Lists → Ending
ends_with v B = record { verdict = v; lists = B }

-- after a verdict that refuses nothing, the rest; one that refuses is the last, and leaves the lists as they are by then
abbrev pub only_after : Verdict → Lists → Ending → Ending
only_after v B rest = ends_with (v then rest.verdict) (cond (refuses v) B rest.lists)

-- an answer of 0 refuses nothing
abbrev pub verdict_by : Answer → Verdict
verdict_by a = cond (eqb a.number 0) fine (refuse a.number a.place)

-- what the call before answered, unless it refused nothing: then what the check says
abbrev pub checked_after : Answer → Scene → List ℕ → List ℕ → Lists → Verdict
checked_after a S outer grid B = verdict_by a then check_verdict S outer grid B a.quads

-- and the lists that the call left
abbrev pub checked_on : Scene → List ℕ → List ℕ → Outcome → Ending
checked_on S outer grid u = ends_with (checked_after u.answer S outer grid u.lists) u.lists

-- a mesh is made by Culling and checked for the same outer list: only the making can refuse
abbrev pub make_ending : Scene → List ℕ → List ℕ → Lists → Ending
make_ending S outer grid B = ends_with (mesh_verdict S outer grid true B) (mesh_grid S outer grid true B).lists

-- a mesh is checked with no outer face named, then mended: what refuses it, if anything does
abbrev pub mend_promise : Tested → Scene → List ℕ → List ℕ → Lists → ℕ → Verdict
mend_promise tested S grid log B Q = check_verdict S [] grid B Q then verdict_by (update_mesh tested S log B Q).answer

-- a mesh is checked, mended, and checked again
abbrev pub mend_ending : Tested → Scene → List ℕ → List ℕ → List ℕ → Lists → ℕ → Ending
mend_ending tested S grid log left B Q = only_after (check_verdict S [] grid B Q) B (checked_on S [] left (update_mesh tested S log B Q))
