use Rattle.std.proofs.Common.{◌≡◌}
use Rattle.rules.specs.Program.{type_byte}
use Rattle.rules.specs.Lists.{filled}
use Rattle.workfile.proofs.WorkFile.type_bytes.Given as goal

abbrev pub invariant-loop-t : goal.invariant-loop-t
invariant-loop-t l = l.out ≡ filled l.t (λ k. type_byte l.file k l.i) l.initial.out
