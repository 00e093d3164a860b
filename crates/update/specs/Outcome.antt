-- What the call answers, as the rule's outcome. Definitions only.
use Rattle.std.specs.Prelude.{ℕ, ◌≡◌, List, Result, Ok, Err}
use Rattle.rules.specs.Mesh.{Lists}
use Rattle.rules.specs.Update.{Tested}
use Rattle.rules.specs.Answers.{Verdict, ◌then◌, BAD_SIZE, SHORT_SLOTS, BAD_COUNT}
use Rattle.rules.specs.Calls.{Scene, Answer, answered, Outcome, room, types_verdict, update_mesh}
use Rattle.answers.specs.Verdicts.{number_of}
use Rattle.answers.specs.declared.Refused.{Refused}
use Rattle.terms.specs.declared.Count.{Count}
use Rattle.update.specs.declared.Stopped.{Stopped}

-- a refusal before an entry was done
abbrev pub stopped_by : Refused → Stopped
stopped_by refused = record { refused = refused; count = record { quads = 0; moved = 0 } }

-- 01's number, place, Q and `moved` for each answer
abbrev pub answer_of : Result Count Stopped → Answer
answer_of (Ok count) = answered count.quads count.moved
answer_of (Err s) = record { number = number_of s.refused.why; place = s.refused.place; quads = s.count.quads; moved = s.count.moved }

-- with the lists at exit
abbrev pub outcome_of : Result Count Stopped → Lists → Outcome
outcome_of r B = record { answer = answer_of r; lists = B }

-- the call's contract: it answers r for a mesh of Q quads, by the side tested, and leaves the lists at exit
abbrev pub Updates : Tested → Scene → List ℕ → Lists → ℕ → Result Count Stopped → Lists → Type 0
Updates tested S log B Q r exit = outcome_of r exit ≡ update_mesh tested S log B Q

-- 2, 3, 4, 6, 9 and 10: what is asked before the mesh is looked at
abbrev pub told_verdict : Scene → Lists → ℕ → Verdict
told_verdict S B Q = BAD_SIZE S.size then types_verdict S then SHORT_SLOTS S.size B then BAD_COUNT (room S B) Q
