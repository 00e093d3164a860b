-- The two modes as the rules have them: how a grid is meshed, and the side that is tested of a voxel that comes. Definitions only.
use Rattle.std.specs.Prelude.{Bool, true, false}
use Rattle.rules.specs.Update.{Tested, source, itself}
use Rattle.terms.specs.declared.MeshingAlgorithm.{MeshingAlgorithm}
use Rattle.terms.specs.declared.MeshingAlgorithm.TheVariants.{Naive, Culling}
use Rattle.terms.specs.declared.Tested as code
use Rattle.terms.specs.declared.Tested.TheVariants.{Opposite, Itself}

abbrev pub is_culling : MeshingAlgorithm → Bool
is_culling Naive = false
is_culling Culling = true

-- the side of a voxel that comes, by Added or Replaced, which decides whether the neighbour at a face loses its facing quad
abbrev pub tested_by : code.Tested → Tested
tested_by Opposite = source
tested_by Itself = itself
