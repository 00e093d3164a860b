-- `lent::input_verdict` meets its contract: each test is the first that refuses, or passes. Assumes nothing.
use Rattle.std.proofs.Common.{refl, sym}
use Rattle.types.specs.Tests.{types_in}
use Rattle.terms.specs.Scenes.{scene_of}
use Rattle.answers.proofs.Chains.{stops, goes, passes}
use Rattle.lent.proofs.Admitted.{sized}
use Rattle.lent.proofs.input_verdict.Goals as goal

pub returns-in_err-size_verdict : goal.returns-in_err-size_verdict
returns-in_err-size_verdict c = λ B e. stops _ _ _ _ c.in_err-size_verdict.was c.from_residual.ensures.1 c.size_verdict.ensures

pub grid_verdict-requires : goal.grid_verdict-requires
grid_verdict-requires c = sized (scene_of c.args.scene) (sym (passes _ _ c.in_ok-size_verdict.was c.size_verdict.ensures))

pub returns-in_err-grid_verdict : goal.returns-in_err-grid_verdict
returns-in_err-grid_verdict c = λ B e.
    goes _ _ c.in_ok-size_verdict.was c.size_verdict.ensures
    (stops _ _ _ _ c.in_err-grid_verdict.was c.from_residual-in_err-grid_verdict.ensures.1 c.grid_verdict.ensures)

pub returns-in_err-types_verdict : goal.returns-in_err-types_verdict
returns-in_err-types_verdict c = λ B e.
    goes _ _ c.in_ok-size_verdict.was c.size_verdict.ensures
    (goes _ _ c.in_ok-grid_verdict.was c.grid_verdict.ensures
    (stops _ _ _ _ c.in_err-types_verdict.was c.from_residual-in_err-types_verdict.ensures.1 c.types_verdict.ensures))

pub returns-in_err-outer_verdict : goal.returns-in_err-outer_verdict
returns-in_err-outer_verdict c = λ B e.
    goes _ _ c.in_ok-size_verdict.was c.size_verdict.ensures
    (goes _ _ c.in_ok-grid_verdict.was c.grid_verdict.ensures
    (goes _ _ c.in_ok-types_verdict.was c.types_verdict.ensures
    (stops _ _ _ _ c.in_err-outer_verdict.was c.from_residual-in_err-outer_verdict.ensures.1 c.outer_verdict.ensures)))

pub returns-in_err-cell_verdict : goal.returns-in_err-cell_verdict
returns-in_err-cell_verdict c = λ B e.
    goes _ _ c.in_ok-size_verdict.was c.size_verdict.ensures
    (goes _ _ c.in_ok-grid_verdict.was c.grid_verdict.ensures
    (goes _ _ c.in_ok-types_verdict.was c.types_verdict.ensures
    (goes _ _ c.in_ok-outer_verdict.was c.outer_verdict.ensures
    (stops _ _ _ _ c.in_err-cell_verdict.was c.from_residual-in_err-cell_verdict.ensures.1 (c.cell_verdict.ensures (types_in c.args.scene.types) refl)))))

pub slots_verdict-requires : goal.slots_verdict-requires
slots_verdict-requires c = sized (scene_of c.args.scene) (sym (passes _ _ c.in_ok-size_verdict.was c.size_verdict.ensures))

pub returns : goal.returns
returns c = λ B e.
    goes _ _ c.in_ok-size_verdict.was c.size_verdict.ensures
    (goes _ _ c.in_ok-grid_verdict.was c.grid_verdict.ensures
    (goes _ _ c.in_ok-types_verdict.was c.types_verdict.ensures
    (goes _ _ c.in_ok-outer_verdict.was c.outer_verdict.ensures
    (goes _ _ c.in_ok-cell_verdict.was (c.cell_verdict.ensures (types_in c.args.scene.types) refl)
    (c.slots_verdict.ensures B e)))))
