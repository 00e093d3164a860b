use Rattle.working.proofs.Cubing.{Building}
use Rattle.working.proofs.build_cubes.Given as goal

abbrev pub invariant-loop-t : goal.invariant-loop-t
invariant-loop-t l = Building l.file.bytes.now l.t l.registry
