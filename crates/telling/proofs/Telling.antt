-- What was told in an answer's place; a verdict's answer without its quads, a mesh's without `moved`. Assumes nothing.
use mathlib.Core.Path.{◌≡◌, ap, ◌∙◌}
use mathlib.Core.List.{List}
use Prim.Native.Nat.{ℕ}
use Rattle.rules.specs.Mesh.{Lists}
use Rattle.rules.specs.Answers.{Verdict, fine, refuse}
use Rattle.rules.specs.Calls.{Answer, CubeOutcome, Outcome, check_by}
use Rattle.std.specs.Prelude.{Result, Ok, Err}
use Rattle.answers.specs.declared.Refused.{Refused}
use Rattle.meshem.specs.Outcome.{answer_of}
use Rattle.telling.specs.declared.Told.{Told}
use Rattle.telling.specs.Numbers.{answer, told_of, cube_out, outcome}

-- a verdict's answer counts no quads
pub bare : (t : Told) (v : Verdict) → told_of t ≡ check_by v → answer t.number t.place 0 0 ≡ check_by v
bare t fine e = λ i. answer (e i).number (e i).place 0 0
bare t (refuse n p) e = λ i. answer (e i).number (e i).place 0 0

-- a fresh mesh has moved none
pub unmoved : (t : Told) (m : Result ℕ Refused) → told_of t ≡ answer_of m → answer t.number t.place t.quads 0 ≡ answer_of m
unmoved t (Ok quads) e = λ i. answer (e i).number (e i).place (e i).quads 0
unmoved t (Err refused) e = λ i. answer (e i).number (e i).place (e i).quads 0

pub cube_told : {a b : Answer} {out : List ℕ} {o : CubeOutcome} → a ≡ b → cube_out b out ≡ o → cube_out a out ≡ o
cube_told {out = out} e w = ap (λ (a : Answer). cube_out a out) e ∙ w

pub mesh_told : {a b : Answer} {lists : Lists} {o : Outcome} → a ≡ b → outcome b lists ≡ o → outcome a lists ≡ o
mesh_told {lists = lists} e w = ap (λ (a : Answer). outcome a lists) e ∙ w
