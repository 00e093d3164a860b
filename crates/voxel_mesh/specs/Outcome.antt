-- The cube call's answer and its shape, as the rules see them. Definitions only.
use Rattle.std.specs.Prelude.{ℕ, ◌*◌, Result, List, ◌≡◌, false, length, T, ltb}
use Rattle.rules.specs.Floats.{finite, finite3}
use Rattle.rules.specs.Cube as rules
use Rattle.rules.specs.Cube.{floats_of}
use Rattle.rules.specs.Answers.{Verdict, ◌then◌, refuse_if, bad_atlas, BAD_NUMBER, BAD_ATLAS, BAD_TEXTURE}
use Rattle.rules.specs.Calls.{CubeOutcome, check_by, generate_voxel_mesh}
use Rattle.answers.specs.declared.Refused.{Refused}
use Rattle.answers.specs.Verdicts.{verdict_of}
use Rattle.floats.specs.Triples.{triple_of}
use Rattle.voxel_mesh.specs.declared.Shape.{Shape}

abbrev pub shape_of : Shape → List ℕ → rules.Shape
shape_of s texture = record {
  d = triple_of s.d;
  centre = triple_of s.centre;
  atlas_width = s.atlas_width;
  atlas_height = s.atlas_height;
  texture = texture;
  padding = s.padding;
  coloured = s.coloured;
  colour = s.colour;
  alpha = s.alpha;
}

-- the answer, and the room as the call leaves it
abbrev pub outcome : Result Unit Refused → List ℕ → CubeOutcome
outcome r out = record { answer = check_by (verdict_of r); out = out }

-- the call's contract: it answers r for a shape, and leaves the room at exit
abbrev pub Cubes : rules.Shape → List ℕ → Result Unit Refused → List ℕ → Type 0
Cubes shape room r exit = outcome r exit ≡ generate_voxel_mesh shape room

-- the refusals of a call with room for that many words
abbrev pub verdict_in : rules.Shape → ℕ → Verdict
verdict_in q room =
    BAD_NUMBER q.d q.centre q.padding then BAD_ATLAS q then BAD_TEXTURE q.texture
    then refuse_if (ltb room (24 * floats_of q.coloured)) 9 0

-- what an accepted shape is known to be
pub record Accepted (q : rules.Shape) : Type 0 where
  pub d : T (finite3 q.d)
  pub centre : T (finite3 q.centre)
  pub padding : T (finite q.padding)
  pub atlas : bad_atlas q ≡ false
  pub six : length q.texture ≡ 18
