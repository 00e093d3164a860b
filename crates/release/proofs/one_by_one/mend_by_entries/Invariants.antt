use Prim.Native.Nat.{◌/◌}
use lib.ListN.{length}
use Rattle.rules.specs.Update.{ENTRY_BYTES}
use Rattle.terms.specs.Loans.{lists_lent}
use Rattle.terms.specs.Modes.{tested_by}
use Rattle.terms.specs.Scenes.{scene_of}
use Rattle.release.proofs.OneByOne.{Calling}
use Rattle.release.proofs.one_by_one.mend_by_entries.Given as goal

abbrev pub invariant-loop-k : goal.invariant-loop-k
invariant-loop-k l =
    Calling (tested_by l.tested) (scene_of l.scene) l.log (length l.log / ENTRY_BYTES)
    (lists_lent l.initial.positions l.initial.normals l.initial.uvs l.initial.colours l.initial.triangles l.initial.links l.initial.slots) l.quads l.k
    (lists_lent l.positions l.normals l.uvs l.colours l.triangles l.links l.slots) l.left
