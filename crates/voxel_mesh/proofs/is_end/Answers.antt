-- `voxel_mesh::is_end` meets its contract: the masks agree with the rule by one computed test. Assumes nothing.
use mathlib.Core.List.{List, [], ◌∷◌}
use Prim.Native.Nat.{ℕ, ◌/◌, ◌%◌, ◌^◌}
use lib.Dec.{eqb}
use lib.ListN.{get_or}
use Rattle.rules.specs.Lists.{every}
use Rattle.rules.specs.Cube.{uv_ends, is_end}
use Rattle.rules.proofs.Searches.{agree}
use Rattle.voxel_mesh.proofs.is_end.Goals as goal

abbrev masks : List ℕ
masks = 0x969696 ∷ 0x3c3c3c ∷ []

pub returns : goal.returns
unfolding every uv_ends
returns c = agree 24 2 (λ v a. eqb (get_or masks a 0 / 2 ^ v % 2) 1) is_end tt _ _ c.requires.0 c.requires.1
