use mathlib.Core.List.{List}
use Prim.Native.Nat.{ℕ, ◌*◌}
use Rattle.rules.specs.Mesh.{normal, attribute_in}
use Rattle.vav.proofs.Laws.{Begun}
use Rattle.quads.specs.Words.{words_of}
use Rattle.quads.specs.declared.Quad.{Quad}
use Rattle.quads.proofs.Quad.write_normals.Given as goal

abbrev pub normals : Quad → List ℕ
normals q = attribute_in q.floats normal 4 (words_of q)

abbrev pub invariant-loop-i : goal.invariant-loop-i
invariant-loop-i l = Begun (normals l.fn.self) (3 * l.i) l.out
