use Rattle.std.proofs.Common.{◌≡◌, ◌+◌, ◌*◌}
use Rattle.rules.specs.Update.{u32_at}
use Rattle.rules.specs.Lists.{filled}
use Rattle.workfile.proofs.WorkFile.texture_of.Given as goal

abbrev pub invariant-loop-i : goal.invariant-loop-i
invariant-loop-i l = l.out ≡ filled l.i (λ k. u32_at l.file (74 * l.t + 2 + 4 * k)) l.initial.out
