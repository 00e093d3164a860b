use mathlib.Core.Path.{◌≡◌}
use Rattle.rules.specs.Lists.{part}
use Rattle.vav.specs.Rows.{put}
use Rattle.vav.proofs.copy_down.Given as goal

abbrev pub invariant-loop-i : goal.invariant-loop-i
invariant-loop-i l = l.list ≡ put l.at (part l.start l.i l.initial.list) l.initial.list
