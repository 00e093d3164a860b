-- Each call's contract as a word: such an answer, with such lent lists at exit; for C by 01's numbers. And the answers. Definitions only.
use Rattle.std.specs.Prelude.{ℕ, Result, Ok}
use Rattle.answers.specs.declared.Refusal.{Refusal}
use Rattle.answers.specs.declared.Refused.{Refused}
use Rattle.terms.specs.declared.Count.{Count}
use Rattle.update.specs.declared.Stopped.{Stopped}
pub use Rattle.voxel_mesh.specs.Outcome.{Cubes}
pub use Rattle.meshem.specs.Outcome.{Meshes}
pub use Rattle.update.specs.Outcome.{Updates}
pub use Rattle.checking.specs.Outcome.{Checks}
pub use Rattle.telling.specs.Numbers.{TellsCube, TellsMesh, TellsUpdate, TellsCheck}

-- what the calls answer: the cube and the check, the mesh, the update
abbrev pub Verdict : Type 0
Verdict = Result Unit Refused

abbrev pub Meshed : Type 0
Meshed = Result ℕ Refused

abbrev pub Updated : Type 0
Updated = Result Count Stopped

abbrev pub Fine : Verdict
Fine = Ok tt

abbrev pub refused_for : Refusal → ℕ → Refused
refused_for why place = record { why = why; place = place }

abbrev pub stopped_for : Refusal → ℕ → Count → Stopped
stopped_for why place count = record { refused = refused_for why place; count = count }
