-- The cells of a row of the grid, and the row after it. Assumes nothing.
use mathlib.Core.Path.{◌≡◌, refl, sym, ap, ◌∙◌}
use Prim.Native.Nat.{ℕ, ◌+◌, ◌-◌, ◌*◌, ◌≤◌, ◌<◌}
use native.Mathlib.Nat.{zero-mul, zero-div, zero-mod}
use native.Mathlib.Omega.{arith}
use Rattle.rules.specs.Cells.{Size, Triple, cells, cell_at, y_of, z_of, coordinates}
use Rattle.rules.proofs.Neighbours.{Inside, inside_of, cell_at_in, cell_at-coordinates, coordinates-cell_at, row_on, layer_on}
use Rattle.util.specs.Grid.{Within, cords_of, Starts}

module _ (s : Size) {c y z : ℕ} (within : Within s) (starts : Starts s c y z) where
  there : Inside s c
  there = inside_of s c within.sides.wide within.sides.long starts.inside

  y_is : y ≡ y_of s c
  y_is = ap (λ (v : Triple). v.y) starts.cords

  z_is : z ≡ z_of s c
  z_is = ap (λ (v : Triple). v.z) starts.cords

  pub high : y < s.h
  high = rw y_is there.y

  pub long : z < s.l
  long = rw z_is there.z

  start_is : cell_at s 0 y z ≡ c
  start_is = (λ i. cell_at s (starts.cords i).x (starts.cords i).y (starts.cords i).z) ∙ cell_at-coordinates s c

  pub cell_is : (x : ℕ) → cell_at s x y z ≡ c + x
  cell_is x = omega (arith, start_is)

  pub row_end : c + s.w ≤ cells s
  row_end =
      let w = within.sides.wide in
      let l : s.w - 1 < s.w = omega arith in
      omega (arith, cell_at_in s l high long, cell_is (s.w - 1))

  pub row_cords : (x : ℕ) → x < s.w → cords_of x y z ≡ coordinates s (c + x)
  row_cords x h = sym (coordinates-cell_at s h long) ∙ ap (coordinates s) (cell_is x)

  -- the row after it, in its layer or the next
  pub next_row : z + 1 < s.l → cords_of 0 y (z + 1) ≡ coordinates s (c + s.w)
  next_row h = sym (coordinates-cell_at s within.sides.wide h) ∙ ap (coordinates s) (omega (arith, start_is, row_on z s.w))

  pub next_layer : s.l ≤ z + 1 → cords_of 0 (y + 1) 0 ≡ coordinates s (c + s.w)
  next_layer h =
      let l : z + 1 ≡ s.l = omega (arith, long) in
      let rows = row_on z s.w in
      sym (coordinates-cell_at s within.sides.wide within.sides.long)
      ∙ ap (coordinates s) (omega (arith, start_is, layer_on y s.l s.w, rows, ap (λ (n : ℕ). n * s.w) l, zero-mul s.w))

pub first : (s : Size) → cords_of 0 0 0 ≡ coordinates s 0
first s = rw (zero-div s.w, zero-div s.l, zero-mod s.w, zero-mod s.l) refl
