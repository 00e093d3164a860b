-- The 36 triangle words of a cube, face by face. Assumes nothing.
use mathlib.Core.Path.{◌≡◌}
use Prim.Native.Nat.{ℕ, ◌+◌, ◌*◌, ◌<◌}
use lib.Dec.{eqb, ltb}
use lib.Ieee.Bits.{is_true}
use lib.ListN.{get_or}
use borrow.Author.Tests.{eqb-true, ltb-true}
use Rattle.rules.specs.Lists.{each, every}
use Rattle.rules.specs.Cube.{face_triangles, cube_triangles}
use Rattle.rules.proofs.Searches.{every_at}

-- word i of a face's six, by one computed test
pub word_of_face : (f i : ℕ) → f < 6 → i < 6 → get_or cube_triangles (6 * f + i) 0 ≡ get_or (face_triangles f) i 0
unfolding each every
word_of_face f i F I =
    eqb-true _ _
    (is_true _
    (every_at 6 (λ k. eqb (get_or cube_triangles (6 * f + k) 0) (get_or (face_triangles f) k 0))
    (every_at 6 (λ g. every 6 (λ k. eqb (get_or cube_triangles (6 * g + k) 0) (get_or (face_triangles g) k 0))) tt f F) i I))

-- each word is one of the 24 vertices
pub word_below : (k : ℕ) → k < 36 → get_or cube_triangles k 0 < 24
unfolding each every
word_below k h = ltb-true _ _ (is_true _ (every_at 36 (λ j. ltb (get_or cube_triangles j 0) 24) tt k h))
