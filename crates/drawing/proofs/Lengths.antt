-- Lists of attributes that keep their lengths. Assumes nothing.
use mathlib.Core.Path.{◌≡◌, refl}
use mathlib.Core.Bool.{Bool, true, false, cond}
use mathlib.Core.List.{List}
use Prim.Native.Nat.{ℕ, ◌*◌, ◌≤◌}
use native.Mathlib.Nat.{mul-le-mul_left}
use native.Mathlib.Omega.{arith}
use lib.ListN.{length}
use Rattle.rules.specs.Mesh.{Attribute, position, normal, uv, colour, Vertices, HasList, of_positions, of_normals, of_uvs, of_colours, each_list}
use Rattle.drawing.specs.Written.{Long}

-- as long as those
pub record Alike (vs ws : Vertices) : Type 0 where
  pub positions : length vs.positions ≡ length ws.positions
  pub normals : length vs.normals ≡ length ws.normals
  pub uvs : length vs.uvs ≡ length ws.uvs
  pub colours : length vs.colours ≡ length ws.colours

module _ (tint : Bool) (vs : Vertices) where
  pub each_alike : (f : Attribute → List ℕ → List ℕ) → ((a : Attribute) (xs : List ℕ) → HasList tint vs a xs → length (f a xs) ≡ length xs) → Alike (each_list tint f vs) vs
  each_alike f h =
      record {
        positions = h position vs.positions of_positions;
        normals = h normal vs.normals of_normals;
        uvs = h uv vs.uvs of_uvs;
        colours = go tint refl;
      }
    where
      go : (b : Bool) → tint ≡ b → length (cond b (f colour vs.colours) vs.colours) ≡ length vs.colours
      go true e = h colour vs.colours (of_colours e)
      go false e = refl

  -- and so with as much room
  pub alike_long : (ws : Vertices) (n : ℕ) → Alike ws vs → Long tint n vs → Long tint n ws
  alike_long ws n k l _ _ of_positions = omega (arith, k.positions, l position vs.positions of_positions)
  alike_long ws n k l _ _ of_normals = omega (arith, k.normals, l normal vs.normals of_normals)
  alike_long ws n k l _ _ of_uvs = omega (arith, k.uvs, l uv vs.uvs of_uvs)
  alike_long ws n k l _ _ (of_colours e) = omega (arith, k.colours, l colour vs.colours (of_colours e))

  -- room for more is room for fewer
  pub fewer : {m n : ℕ} → m ≤ n → Long tint n vs → Long tint m vs
  fewer h l a xs k = omega (arith, mul-le-mul_left (4 * a.width) h, l a xs k)
