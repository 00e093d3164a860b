-- Laws of faces. Assumes nothing.
use mathlib.Core.Path.{◌≡◌, refl}
use Prim.Native.Nat.{ℕ, zero, suc, ◌<◌}
use native.Mathlib.Omega.{arith}
use Rattle.face.specs.declared.Face.{Face}
use Rattle.face.specs.declared.Face.TheVariants.{Top, Bottom, Right, Left, Back, Forward}
use Rattle.std.specs.Prelude.{Some}
use Rattle.face.specs.Face.{number, face_at}

pub number_below : (f : Face) → number f < 6
number_below Top = omega arith
number_below Bottom = omega arith
number_below Right = omega arith
number_below Left = omega arith
number_below Back = omega arith
number_below Forward = omega arith

-- a number that is below 6 is a face's
pub face_at-below : (n : ℕ) → n < 6 → (f : Face) × (face_at n ≡ Some f) × (number f ≡ n)
face_at-below zero h = (Top, refl, refl)
face_at-below (suc zero) h = (Bottom, refl, refl)
face_at-below (suc (suc zero)) h = (Right, refl, refl)
face_at-below (suc (suc (suc zero))) h = (Left, refl, refl)
face_at-below (suc (suc (suc (suc zero)))) h = (Back, refl, refl)
face_at-below (suc (suc (suc (suc (suc zero))))) h = (Forward, refl, refl)
face_at-below (suc (suc (suc (suc (suc (suc n)))))) h = absurd (omega arith)
