-- The triangles of quads one after the other. Definitions only.
use Rattle.std.specs.Prelude.{ℕ, ◌+◌, ◌%◌, ◌^◌, Bool, List, ◌==◌, slice_index}

-- word k of the triangles and the word a row on are four apart, as those of two quads
abbrev pub goes_on : List ℕ → ℕ → Bool
goes_on triangles k = slice_index triangles (k + 6) == (slice_index triangles k + 4) % 2 ^ 32
