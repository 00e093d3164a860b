use Rattle.std.proofs.Common.{◌≡◌, ℕ, ◌+◌, ◌<◌, Bool, not, get_or}
use Rattle.rules.specs.Lists.{every}
use Rattle.entries.proofs.any_bad.Given as goal

-- whether one of those that were looked at is bad
abbrev pub invariant-loop-byte : goal.invariant-loop-byte
invariant-loop-byte g l =
    (bad : ℕ → Bool) → ((x : ℕ) (b : Bool) → x < 256 → goal.F-post g l.fn.is_bad x b → b ≡ bad x) → l.any ≡ not (every l.byte-index (λ f. not (bad (get_or l.fn.log (l.fn.at + (6 + f)) 0))))
