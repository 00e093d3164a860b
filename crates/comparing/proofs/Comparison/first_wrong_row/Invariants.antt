use mathlib.Core.Path.{◌≡◌}
use mathlib.Core.List.{List}
use Prim.Native.Nat.{ℕ, ◌+◌, ◌*◌}
use Rattle.rules.specs.Cube.{floats_of}
use Rattle.rules.specs.Mesh.{attribute_in}
use Rattle.rules.proofs.Searches.{Searched}
use Rattle.vav.specs.declared.Attribute.{Attribute}
use Rattle.vav.specs.Attributes.{attribute_of}
use Rattle.quads.specs.declared.Quad.{Quad}
use Rattle.quads.specs.Words.{words_of}
use Rattle.terms.specs.Scenes.{scene_of}
use Rattle.comparing.specs.Quads.{other_row}
use Rattle.comparing.proofs.Compared.{Agreed}
use Rattle.comparing.proofs.Comparison.first_wrong_row.Given as goal

-- the words as they should be
abbrev pub wanted : Quad → Attribute → List ℕ
wanted quad a = attribute_in quad.floats (attribute_of a) 4 (words_of quad)

abbrev pub invariant-loop-float : goal.invariant-loop-float
invariant-loop-float l = (l.first ≡ l.to) × Agreed l.row (wanted l.quad l.attribute) ((attribute_of l.attribute).width * l.vertex + l.float)

abbrev pub invariant-loop-vertex : goal.invariant-loop-vertex
invariant-loop-vertex l = (l.first ≡ l.to) × Agreed l.row (wanted l.quad l.attribute) ((attribute_of l.attribute).width * l.vertex)

abbrev pub invariant-quads : goal.invariant-quads
invariant-quads l =
    let s = l.self in
    (l.first ≡ l.to) × Searched l.to (other_row (scene_of s.scene) (attribute_of l.attribute) s.grid.now l.list s.lists.links.now) l.q
