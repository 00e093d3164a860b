use mathlib.Core.Path.{◌≡◌}
use Prim.Native.Nat.{◌+◌, ◌^◌, ◌<◌}
use Rattle.rules.specs.Answers.{is_filled}
use Rattle.checking.specs.Faces.{bits}
use Rattle.checking.proofs.filled_bits.Given as goal

abbrev pub invariant-loop-k : goal.invariant-loop-k
invariant-loop-k l = (l.filled ≡ bits (λ j. is_filled l.slots (l.at + j)) l.k) × (l.filled < 2 ^ l.k)
