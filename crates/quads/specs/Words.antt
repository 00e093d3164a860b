-- The words of a quad that can be drawn. Definitions only.
use Rattle.std.specs.Prelude.{ℕ, List}
use Rattle.rules.specs.Types.{quad_words}
use Rattle.util.specs.Grid as grid
use Rattle.floats.specs.Triples.{triple_of}
use Rattle.quads.specs.declared.Quad.{Quad}

abbrev pub words_of : Quad → List ℕ
words_of quad = quad_words quad.corners.now quad.floats (triple_of quad.d) 0 (grid.triple_of quad.at)
