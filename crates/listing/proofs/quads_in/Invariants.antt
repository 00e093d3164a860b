use mathlib.Core.Path.{◌≡◌}
use Prim.Native.Nat.{ℕ, ◌+◌, ◌≤◌, ◌<◌}
use lib.ListN.{length, get_or}
use Rattle.listing.specs.Fresh.{sets_from, asked}
use Rattle.listing.proofs.quads_in.Given as goal

-- what is counted and what is left come to what all sets ask for
abbrev pub invariant-loop-few : goal.invariant-loop-few
invariant-loop-few l =
    let rest = l.few-iterator.rest.now in
    (l.few-iterator.size ≡ 32) × (length rest ≤ 1024) × ((x : ℕ) → x < length rest → get_or rest x 0 < 64)
    × (l.n + asked (sets_from 0 rest) 0 (length rest) ≡ asked (sets_from 0 l.sets) 0 (length l.sets))
