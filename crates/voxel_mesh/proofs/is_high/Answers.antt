-- `voxel_mesh::is_high` meets its contract: the masks agree with the rule by one computed test. Assumes nothing.
use mathlib.Core.List.{List, [], ◌∷◌}
use Prim.Native.Nat.{ℕ, ◌/◌, ◌%◌, ◌^◌}
use lib.Dec.{eqb}
use lib.ListN.{get_or}
use Rattle.rules.specs.Lists.{every}
use Rattle.rules.specs.Cube.{corners, is_high}
use Rattle.rules.proofs.Searches.{agree}
use Rattle.voxel_mesh.proofs.is_high.Goals as goal

abbrev masks : List ℕ
masks = 0x990f66 ∷ 0xc3c30f ∷ 0x0f66c3 ∷ []

pub returns : goal.returns
unfolding every corners
returns c = agree 24 3 (λ v a. eqb (get_or masks a 0 / 2 ^ v % 2) 1) is_high tt _ _ c.requires.0 c.requires.1
