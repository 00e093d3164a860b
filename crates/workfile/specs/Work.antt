-- The work file as the declared structs hold it. Definitions only.
use Rattle.std.specs.Prelude.{ℕ, ◌+◌, ◌*◌, ◌≤◌, ◌≡◌, cond, List, length, eqb, ltb}
use Rattle.rules.specs.Update.{ENTRY_BYTES}
use Rattle.rules.specs.Cells.{cells}
use Rattle.rules.specs.Program.{body, word, type_count, size_in, grid_start, log_start, coloured_in}
use Rattle.floats.specs.declared.Triple.{Triple}
use Rattle.util.specs.declared.Dimensions.{Dimensions}
use Rattle.workfile.specs.declared.Work.{Work}

abbrev pub triple_at : List ℕ → ℕ → Triple
triple_at file i = record { x = word file i; y = word file (i + 1); z = word file (i + 2) }

abbrev pub dims_in : List ℕ → Dimensions
dims_in file = record { width = word file 5; height = word file 6; length = word file 7 }

-- what is known of a file that is not bad
pub record Good (file : List ℕ) : Type 0 where
  pub least : 92 ≤ length file
  pub most : length file ≤ 8192
  pub fills : ENTRY_BYTES * word file 4 + log_start file ≡ body file
  pub outer : word file 8 ≤ 63
  pub types : type_count file ≤ 8
  pub cells : cells (size_in file) ≤ 512

-- what such a file says
abbrev pub work_in : List ℕ → Work
work_in file = record {
  types = type_count file;
  entries = word file 4;
  dims = dims_in file;
  outer = word file 8;
  culling = eqb (word file 9) 1;
  d = triple_at file 10;
  centre = triple_at file 13;
  atlas_width = word file 16;
  atlas_height = word file 17;
  padding = word file 18;
  coloured = coloured_in file;
  colour = word file 20;
  alpha = word file 21;
  grid_start = grid_start file;
  log_start = log_start file;
}

-- a count in 33 bits: above what any file can hold, no difference is made
unfoldable pub capped : ℕ → ℕ
capped n = cond (ltb n 4294967296) n 4294967296
