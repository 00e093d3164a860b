-- The call's answer. Definitions only.
use Rattle.std.specs.Prelude.{ℕ, ◌≡◌, List, Result}
use Rattle.rules.specs.Mesh.{Lists}
use Rattle.rules.specs.Calls.{Scene, check_verdict}
use Rattle.answers.specs.declared.Refused.{Refused}
use Rattle.answers.specs.Verdicts.{verdict_of}

-- the call's contract: it answers r, and is lent nothing that it can change
abbrev pub Checks : Scene → List ℕ → List ℕ → Lists → ℕ → Result Unit Refused → Type 0
Checks S outer grid B Q r = verdict_of r ≡ check_verdict S outer grid B Q
