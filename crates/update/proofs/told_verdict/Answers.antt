-- `update::told_verdict` meets its contract: each test is the first that refuses, or passes. Assumes nothing.
use mathlib.Core.Path.{sym}
use Rattle.terms.specs.Scenes.{scene_of}
use Rattle.answers.proofs.Chains.{stops, goes, passes}
use Rattle.lent.proofs.Admitted.{sized}
use Rattle.update.proofs.told_verdict.Goals as goal

pub returns-in_err-size_verdict : goal.returns-in_err-size_verdict
returns-in_err-size_verdict c = λ B l. stops _ _ _ _ c.in_err-size_verdict.was c.from_residual.ensures.1 c.size_verdict.ensures

pub returns-in_err-types_verdict : goal.returns-in_err-types_verdict
returns-in_err-types_verdict c = λ B l.
    goes _ _ c.in_ok-size_verdict.was c.size_verdict.ensures
    (stops _ _ _ _ c.in_err-types_verdict.was c.from_residual-in_err-types_verdict.ensures.1 c.types_verdict.ensures)

pub lent_verdict-requires : goal.lent_verdict-requires
lent_verdict-requires c = sized (scene_of c.args.scene) (sym (passes _ _ c.in_ok-size_verdict.was c.size_verdict.ensures))

pub returns : goal.returns
returns c = λ B l.
    goes _ _ c.in_ok-size_verdict.was c.size_verdict.ensures
    (goes _ _ c.in_ok-types_verdict.was c.types_verdict.ensures (c.lent_verdict.ensures B l))
