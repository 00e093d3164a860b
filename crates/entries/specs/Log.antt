-- The entries of a log, as rules says them. Definitions only.
use Rattle.std.specs.Prelude.{ℕ, ◌+◌, Bool, cond, not, ◌==◌, List, get_or, slice_index, Option, Some, None}
use Rattle.rules.specs.Lists.{table, every}
use Rattle.rules.specs.Update.{outside}
use Rattle.rules.specs.Update as rule
use Rattle.entries.specs.declared.VoxelChange.{VoxelChange}
use Rattle.entries.specs.declared.VoxelChange.TheVariants.{Broken, Added, Sides, Replaced}
use Rattle.entries.specs.declared.Entry.{Entry}
use Rattle.entries.specs.declared.Side.{Side}
use Rattle.entries.specs.declared.Side.TheVariants.{Keep, Hide, Draw}

abbrev pub change_in : VoxelChange → rule.Change
change_in Broken = rule.Broken
change_in Added = rule.Added
change_in Sides = rule.Sides
change_in Replaced = rule.Replaced

abbrev pub entry_in : Entry → rule.Entry
entry_in e =
    record {
      cell = e.cell.0;
      change = change_in e.change;
      type = e.voxel;
      given = table 6 (λ f. slice_index e.neighbours f);
      former = e.former;
    }

-- a neighbour is either outside or a voxel of a type
abbrev pub neighbour_of : ℕ → Option ℕ
neighbour_of t = cond (outside t) None (Some t)

-- 1 hide, 2 draw, any other keep: one over 2 is refused before
abbrev pub side_of : ℕ → Side
side_of byte = cond (byte == 1) Hide (cond (byte == 2) Draw Keep)

-- whether one of the six bytes of the entry that starts at `at` is bad
abbrev pub any_bad : (ℕ → Bool) → List ℕ → ℕ → Bool
any_bad bad log at = not (every 6 (λ f. not (bad (get_or log (at + (6 + f)) 0))))
