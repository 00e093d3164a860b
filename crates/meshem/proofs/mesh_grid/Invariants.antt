use mathlib.Core.Path.{◌≡◌}
use Prim.Native.Nat.{◌-◌, ◌≤◌}
use lib.ListN.{length}
use Rattle.rules.specs.Cells.{cells, coordinates}
use Rattle.rules.specs.Mesh.{vertices_of}
use Rattle.util.specs.Grid.{size_of, cords_of}
use Rattle.terms.specs.Loans.{lists_lent}
use Rattle.terms.specs.Modes.{is_culling}
use Rattle.terms.specs.Scenes.{scene_of}
use Rattle.culling.specs.Culling.{world_of}
use Rattle.listing.specs.Fresh.{set_at, faces_of}
use Rattle.meshem.proofs.Drawn.{Drawn}
use Rattle.meshem.proofs.Begun.{Begun}
use Rattle.meshem.proofs.mesh_grid.Given as goal

abbrev pub invariant-loop-base : goal.invariant-loop-base
invariant-loop-base l =
    let S = scene_of l.scene in record {
      begun : Begun S l.outer l.grid (lists_lent l.fn.positions l.fn.normals l.fn.uvs l.fn.colours l.fn.triangles l.fn.links l.fn.slots) (is_culling l.fn.algorithm) l.culling l.look.outer l.quads;
      within : l.row.first ≤ cells S.size;
      at : cords_of 0 l.row.y l.row.z ≡ coordinates S.size l.row.first;
      drawn : Drawn S l.grid (set_at l.culling (world_of S.size S.types.kinds S.types.covers) (faces_of l.look.outer) l.grid)
          (vertices_of l.fn.positions l.fn.normals l.fn.uvs l.fn.colours) l.fn.links l.initial.slots l.row.first l.base (vertices_of l.positions l.normals l.uvs l.colours) l.links l.slots;
      sets : length l.sets ≡ 1024;
      sides : length l.sides ≡ 6144;
    }

abbrev pub decreases-loop-base : goal.decreases-loop-base
decreases-loop-base l =
    cells (size_of l.scene.dims) - l.row.first
