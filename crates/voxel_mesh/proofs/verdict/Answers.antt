-- `voxel_mesh::verdict` meets its contract: each return is the case that the tests before it pick. Assumes nothing.
use Rattle.rules.specs.Answers.{BAD_NUMBER}
use Rattle.answers.proofs.Chains.{stops, goes}
use Rattle.voxel_mesh.proofs.verdict.Goals as goal

pub returns-in_err-refuse_if : goal.returns-in_err-refuse_if
unfolding BAD_NUMBER
returns-in_err-refuse_if c =
    rw (← c.has_numbers.ensures) (stops _ _ _ _ c.in_err-refuse_if.was c.from_residual.ensures.1 c.refuse_if.ensures)

pub returns-in_err-refuse_if-2 : goal.returns-in_err-refuse_if-2
unfolding BAD_NUMBER
returns-in_err-refuse_if-2 c =
    rw (← c.has_numbers.ensures, ← c.is_bad_atlas.ensures)
    (goes _ _ c.in_ok-refuse_if.was c.refuse_if.ensures
    (stops _ _ _ _ c.in_err-refuse_if-2.was c.from_residual-in_err-refuse_if-2.ensures.1 c.refuse_if-2.ensures))

pub returns-in_err-texture_verdict : goal.returns-in_err-texture_verdict
unfolding BAD_NUMBER
returns-in_err-texture_verdict c =
    rw (← c.has_numbers.ensures, ← c.is_bad_atlas.ensures)
    (goes _ _ c.in_ok-refuse_if.was c.refuse_if.ensures
    (goes _ _ c.in_ok-refuse_if-2.was c.refuse_if-2.ensures
    (stops _ _ _ _ c.in_err-texture_verdict.was c.from_residual-in_err-texture_verdict.ensures.1 c.texture_verdict.ensures)))

pub returns : goal.returns
unfolding BAD_NUMBER
returns c =
    rw (← c.has_numbers.ensures, ← c.is_bad_atlas.ensures, ← c.floats_of.ensures)
    (goes _ _ c.in_ok-refuse_if.was c.refuse_if.ensures
    (goes _ _ c.in_ok-refuse_if-2.was c.refuse_if-2.ensures (goes _ _ c.in_ok-texture_verdict.was c.texture_verdict.ensures c.refuse_if-3.ensures)))
