-- What is told of the grid and the types, as the rules see it. Definitions only.
use Rattle.rules.specs.Calls as rules
use Rattle.util.specs.Grid.{size_of}
use Rattle.floats.specs.Triples.{triple_of}
use Rattle.types.specs.Tests.{types_in}
use Rattle.terms.specs.declared.Scene.{Scene}

abbrev pub scene_of : Scene → rules.Scene
scene_of s = record {
  size = size_of s.dims;
  types = types_in s.types;
  d = triple_of s.d;
  centre = triple_of s.centre;
}
