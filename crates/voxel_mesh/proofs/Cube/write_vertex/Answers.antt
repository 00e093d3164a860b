-- `voxel_mesh::Cube::write_vertex` meets its contract: four words at a time. Assumes nothing.
use mathlib.Core.Path.{◌≡◌, ap, ◌∙◌}
use mathlib.Core.List.{[], ◌∷◌}
use Rattle.rules.specs.Cube.{floats_of}
use Rattle.vav.specs.Rows.{put}
use Rattle.voxel_mesh.specs.Parts.{part_word}
use Rattle.voxel_mesh.proofs.Making.{eight, eight_is, twelve_is}
use Rattle.voxel_mesh.proofs.Cube.write_vertex.Goals as goal
use Rattle.voxel_mesh.proofs.Cube.write_vertex.Lts
use Rattle.voxel_mesh.proofs.Cube.write_vertex.Tie
use Rattle.voxel_mesh.proofs.Cube.write_vertex.Reads

abbrev After-write_four-2 : Type 0
After-write_four-2 = Lts.After-write_four2 Tie.the-claims Reads.Pre Reads.Post

-- the first eight words are there
eight-written : (c : After-write_four-2) →
    let a = c.args in
    c.write_four-2.new.list ≡ eight (part_word a.self.shape a.self.low a.self.high a.tile a.vertex) a.out.now
unfolding part_word
eight-written c =
    simp (
      c.write_four-2.ensures,
      c.normal_word-3.ensures,
      c.normal_word-2.ensures,
      c.write_four.ensures,
      c.normal_word.ensures,
      c.word-v.ensures,
      c.is_end-2.ensures,
      c.word-u.ensures,
      c.is_end.ensures,
      c.coordinate-z.ensures,
      c.coordinate-y.ensures,
      c.coordinate-x.ensures,
    )

pub returns-then-self : goal.returns-then-self
unfolding part_word
returns-then-self c =
    let a = c.args in
    let f = part_word a.self.shape a.self.low a.self.high a.tile a.vertex in
    c.write_four-then-self.ensures ∙ ap (put 8 (f 8 ∷ f 9 ∷ f 10 ∷ f 11 ∷ [])) (eight-written c.before.before.before.before.before.before.before.before)
    ∙ twelve_is f a.out.now (c.requires.1 ∙ ap floats_of c.if-self.true)

pub returns-else-self : goal.returns-else-self
returns-else-self c =
    let a = c.args in
    let f = part_word a.self.shape a.self.low a.self.high a.tile a.vertex in
    eight-written c.before.before.before.before ∙ eight_is f a.out.now (c.requires.1 ∙ ap floats_of c.if-self.false)
