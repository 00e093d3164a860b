-- 02, Q-14: calls with two crews' entries, and what two meshes show. Definitions only.
use Rattle.std.specs.Prelude.{ℕ, ◌/◌, ◌<◌, ◌≡◌, List, [], ◌++◌, length, Ok}
use Rattle.rules.specs.Cells.{Size, key_of}
use Rattle.rules.specs.Mesh.{Lists, at, decode}
use Rattle.rules.specs.Update.{ENTRY_BYTES, Tested, Entry, entry_at, AddsAlike}
use Rattle.rules.specs.Calls.{Scene, world, entries_of}
use Rattle.rules.specs.Crews.{Clear}
use Rattle.terms.specs.declared.Count.{Count}
use Rattle.demands.specs.Promised.{Updates}
use Rattle.demands.specs.Chunks.{Chunk, Passes, mended_to}

-- each cell of one log is clear of each of the other's
abbrev pub ClearLogs : Size → List ℕ → List ℕ → Type 0
ClearLogs s one other =
    (i j : ℕ) → i < length one / ENTRY_BYTES → j < length other / ENTRY_BYTES → Clear s (entry_at one i).cell (entry_at other j).cell

-- update calls, all answered Done, lead from one chunk to another; these are their entries, in order. Each call has a side tested of its own, and the cubes that it puts cover that side as
-- the side itself: in the new mode all do
pub data Led (S : Scene) (from : Chunk) : List Entry → Chunk → Type 0 where
  no_call : Led S from [] from
  one_call : {es : List Entry} {k : Chunk} (tested : Tested) (log : List ℕ) (count : Count) (exit : Lists) → Led S from es k → AddsAlike tested (world S) (entries_of log)
      → Updates tested S log k.lists k.quads (Ok count) exit → Led S from (es ++ entries_of log) (mended_to S log k count exit)

-- the words that a chunk's mesh has at face f of cell c
abbrev pub shown_at : Scene → Chunk → ℕ → ℕ → List (List ℕ)
shown_at S k c f = at (key_of c f) (decode S.types.coloured k.quads k.lists)

-- at each face of each cell both show the same words, or neither shows any
abbrev pub SameFaces : Scene → Chunk → Chunk → Type 0
SameFaces S k l = (c f : ℕ) → f < 6 → shown_at S k c f ≡ shown_at S l c f

-- the same faces with the same vertices, and so as many quads; both pass the check for the same grid
pub record Agree (S : Scene) (k l : Chunk) : Type 0 where
  pub faces : SameFaces S k l
  pub count : k.quads ≡ l.quads
  pub passes : Passes S k × Passes S l
  pub ground : k.grid ≡ l.grid
