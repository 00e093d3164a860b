-- A chunk, and update calls one after the other, each on what the one before left. Definitions only.
use Rattle.std.specs.Prelude.{ℕ, suc, ◌*◌, List, [], take, Ok}
use Rattle.rules.specs.Mesh.{Lists}
use Rattle.rules.specs.Update.{ENTRY_BYTES, source, grid_log, Honest, Mends, AddsAlike}
use Rattle.rules.specs.Calls.{Scene, world, entries_of}
use Rattle.terms.specs.declared.Tested.{Tested}
use Rattle.terms.specs.declared.Tested.TheVariants.{Opposite, Itself}
use Rattle.terms.specs.Modes.{tested_by}
use Rattle.terms.specs.declared.Count.{Count}
use Rattle.demands.specs.Promised.{Updates, Checks, Fine}

-- a grid, and the lists that are to hold its mesh
pub record Chunk : Type 0 where
  pub grid : List ℕ
  pub lists : Lists
  pub quads : ℕ

-- the check passes it with no outer face named
abbrev pub Passes : Scene → Chunk → Type 0
Passes S k = Checks S [] k.grid k.lists k.quads Fine

-- the first k entries of a log
abbrev pub first_of : ℕ → List ℕ → List ℕ
first_of k log = take (ENTRY_BYTES * k) log

-- the grid that a log leaves
abbrev pub ground_after : Scene → List ℕ → List ℕ → List ℕ
ground_after S log grid = grid_log (world S) (entries_of log) grid

-- an honest log of Added, Broken and Replaced alone, whose Added put NormalCubes into cells that hold a Null covering nothing, and whose Replaced put NormalCubes: demand 3's in the
-- new mode
pub record FillingLog (S : Scene) (grid log : List ℕ) : Type 0 where
  pub honest : Honest (world S) grid (entries_of log)
  pub mends : Mends (world S) grid (entries_of log)

-- the NormalCubes that a log puts cover the opposite of each side as the side itself
abbrev pub AlikeLog : Scene → List ℕ → Type 0
AlikeLog S log = AddsAlike source (world S) (entries_of log)

-- demand 3's in the source's mode
pub record MendableLog (S : Scene) (grid log : List ℕ) : Type 0 where
  pub filling : FillingLog S grid log
  pub alike : AlikeLog S log

-- demand 3's, by the mode
abbrev pub LogFor : Tested → Scene → List ℕ → List ℕ → Type 0
LogFor Opposite = MendableLog
LogFor Itself = FillingLog

abbrev pub mended_to : Scene → List ℕ → Chunk → Count → Lists → Chunk
mended_to S log k count exit = record { grid = ground_after S log k.grid; lists = exit; quads = count.quads }

-- n update calls lead from one chunk to another, each in a mode of its own, for such a log, and answered Done
pub data Mended (S : Scene) (from : Chunk) : ℕ → Chunk → Type 0 where
  untouched : Mended S from 0 from
  one_more : {n : ℕ} {k : Chunk} (mode : Tested) (log : List ℕ) (count : Count) (exit : Lists) → Mended S from n k → LogFor mode S k.grid log
      → Updates (tested_by mode) S log k.lists k.quads (Ok count) exit → Mended S from (suc n) (mended_to S log k count exit)
