use Prim.Native.Nat.{◌*◌}
use Rattle.rules.specs.Mesh.{attribute_in}
use Rattle.vav.specs.Attributes.{attribute_of}
use Rattle.vav.proofs.Laws.{Begun}
use Rattle.quads.specs.Words.{words_of}
use Rattle.quads.proofs.Quad.write.Given as goal

abbrev pub invariant-loop-g : goal.invariant-loop-g
invariant-loop-g l = Begun (attribute_in l.fn.self.floats (attribute_of l.attribute) 4 (words_of l.fn.self)) (4 * l.g) l.out
