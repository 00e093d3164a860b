-- `listing::side_row` meets its contract: Culling asks for what `drawn_row` finds, Naive for all six of a NormalCube. Assumes nothing.
use Rattle.util.specs.Grid.{size_of}
use Rattle.util.proofs.Rows.{row_end}
use Rattle.listing.specs.Fresh.{set_at, faces_of}
use Rattle.listing.proofs.Sets.{outer_faces}
use Rattle.listing.proofs.side_row.Goals as goal

pub returns-then-culling : goal.returns-then-culling
unfolding set_at
returns-then-culling c x h =
    let look = c.args.look in
    rw c.if-culling.true (c.drawn_row.ensures (faces_of look.outer) (outer_faces look.outer look.faces) x h)

pub cube_row-requires : goal.cube_row-requires
cube_row-requires c = (row_end (size_of c.args.look.ground.dims) c.args.look.ground.whole.within c.requires.0, c.requires.1)

pub returns : goal.returns
returns c x h = rw c.if-culling.false (c.cube_row.ensures c.args.look.ground.covers.now (faces_of c.args.look.outer) x h)
