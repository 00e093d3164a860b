use mathlib.Core.Path.{◌≡◌}
use mathlib.Core.Bool.{true}
use mathlib.Core.List.{List}
use Prim.Native.Nat.{ℕ, ◌+◌, ◌*◌, ◌<◌}
use lib.ListN.{get_or}
use Rattle.rules.specs.Cube.{floats_of}
use Rattle.rules.specs.Mesh.{attribute_in}
use Rattle.vav.specs.declared.Attribute.{Attribute}
use Rattle.vav.specs.Attributes.{attribute_of}
use Rattle.vav.proofs.Laws.{Begun}
use Rattle.quads.specs.declared.Quad.{Quad}
use Rattle.quads.specs.Words.{words_of}
use Rattle.comparing.proofs.is_row.Given as goal

-- the words as they should be
abbrev pub wanted : Quad → Attribute → List ℕ
wanted quad a = attribute_in quad.floats (attribute_of a) 4 (words_of quad)

abbrev pub invariant-loop-k : goal.invariant-loop-k
invariant-loop-k l =
    let w = (attribute_of l.attribute).width in
    l.good ≡ true → (j : ℕ) → j < l.k → get_or l.row (w * l.i + j) 0 ≡ get_or (wanted l.quad l.attribute) (w * l.i + j) 0

abbrev pub invariant-loop-i : goal.invariant-loop-i
invariant-loop-i l = Begun (wanted l.quad l.attribute) ((attribute_of l.attribute).width * l.i) l.row
