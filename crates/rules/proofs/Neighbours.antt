-- Cells by their coordinates, and neighbours: whoever is beside a cell has that cell beside it, at the opposite face. Assumes nothing.
use mathlib.Core.Path.{◌≡◌, refl, sym, ap, ◌∙◌, subst}
use mathlib.Core.Logic.{◌≢◌}
use mathlib.Core.Bool.{Bool, true, false}
use mathlib.Core.Option.{some}
use Prim.Native.Nat.{ℕ, zero, suc, ◌+◌, ◌-◌, ◌*◌, ◌/◌, ◌%◌, ◌≤◌, ◌<◌}
use native.Mathlib.Nat.{add-mul, one-mul, suc-mul, mul-le-mul_right, div-add-mod', div-lt_iff_lt-mul, mod-lt, le_trans, le_of_eq}
use native.Mathlib.Omega.{arith}
use lib.Arith.{digits_div, digits_mod}
use borrow.Author.Tests.{ltb-true, lt-ltb}
use Rattle.rules.specs.Cells.{Size, Triple, cells, cell_at, opposite, x_of, y_of, z_of, coordinates, only_if, neighbour}

pub opposite_twice : (f : ℕ) → opposite (opposite f) ≡ f
opposite_twice zero = refl
opposite_twice (suc zero) = refl
opposite_twice (suc (suc f)) = ap (λ (k : ℕ). suc (suc k)) (opposite_twice f)

pub opposite_lt : (f : ℕ) → f < 6 → opposite f < 6
opposite_lt zero h = omega arith
opposite_lt (suc zero) h = omega arith
opposite_lt (suc (suc zero)) h = omega arith
opposite_lt (suc (suc (suc zero))) h = omega arith
opposite_lt (suc (suc (suc (suc zero)))) h = omega arith
opposite_lt (suc (suc (suc (suc (suc zero))))) h = omega arith
opposite_lt (suc (suc (suc (suc (suc (suc f)))))) h = absurd (omega arith)

-- a row further on: row r is within the rows below the n-th
row_in : (n m : ℕ) {r : ℕ} → r < n → r * m + m ≤ n * m
row_in n m {r} h = le_trans (le_of_eq (sym (suc-mul r m))) (mul-le-mul_right m h)

module _ (s : Size) where
  -- a cell is x further than its row, and rows are counted by layer
  rows : (x y z : ℕ) → cell_at s x y z ≡ (y * s.l + z) * s.w + x
  rows x y z = ap (λ (n : ℕ). n + x) (sym (add-mul (y * s.l) z s.w))

  pub cell_at_in : {x y z : ℕ} → x < s.w → y < s.h → z < s.l → cell_at s x y z < cells s
  cell_at_in {x} {y} {z} a b c =
      let layer = row_in s.h s.l b in
      let row : (y * s.l + z) * s.w + s.w ≤ cells s = row_in (s.h * s.l) s.w (omega arith) in
      let e = rows x y z in
      omega arith

  pub coordinates-cell_at : {x y z : ℕ} → x < s.w → z < s.l → coordinates s (cell_at s x y z) ≡ record { x = x; y = y; z = z }
  coordinates-cell_at {x} {y} {z} a b =
      let row : cell_at s x y z / s.w ≡ y * s.l + z = ap (λ (n : ℕ). n / s.w) (rows x y z) ∙ digits_div (y * s.l + z) a in
      let ex : x_of s (cell_at s x y z) ≡ x = ap (λ (n : ℕ). n % s.w) (rows x y z) ∙ digits_mod (y * s.l + z) a in
      let ey : y_of s (cell_at s x y z) ≡ y = ap (λ (n : ℕ). n / s.l) row ∙ digits_div y b in
      let ez : z_of s (cell_at s x y z) ≡ z = ap (λ (n : ℕ). n % s.l) row ∙ digits_mod y b in
      cc

  pub cell_at-coordinates : (c : ℕ) → cell_at s (x_of s c) (y_of s c) (z_of s c) ≡ c
  cell_at-coordinates c =
      let row : y_of s c * s.l + z_of s c ≡ c / s.w = div-add-mod' (c / s.w) s.l in
      rows (x_of s c) (y_of s c) (z_of s c) ∙ ap (λ (n : ℕ). n * s.w + x_of s c) row ∙ div-add-mod' c s.w

  -- the coordinates of a cell of the grid
  pub record Inside (c : ℕ) : Type 0 where
    pub x : x_of s c < s.w
    pub y : y_of s c < s.h
    pub z : z_of s c < s.l

  pub inside_of : (c : ℕ) → 0 < s.w → 0 < s.l → c < cells s → Inside c
  inside_of c wide long h = record {
    x = mod-lt c wide;
    y = (div-lt_iff_lt-mul long).1 ((div-lt_iff_lt-mul wide).1 h);
    z = mod-lt (c / s.w) long;
  }

-- ---- two cells beside each other

-- n lies beside c at face f, and c beside n at the opposite face; they are two
abbrev Facing : Size → ℕ → ℕ → ℕ → Type 0
Facing s f c n = (neighbour s c f ≡ some n) × (neighbour s n (opposite f) ≡ some c) × (n ≢ c)

given : {b : Bool} {m n : ℕ} → b ≡ true → m ≡ n → only_if b m ≡ some n
given {b} {m} {n} t e = rw (t, e)

taken : (b : Bool) (m n : ℕ) → only_if b m ≡ some n → b ≡ true
taken true m n e = refl
taken false m n e = absurd (let z : ◌≡◌ {A = ℕ} 0 1 = cc in omega arith)

-- one layer, and one row, further on
pub layer_on : (y l w : ℕ) → (y + 1) * l * w ≡ y * l * w + l * w
layer_on y l w = ap (λ (n : ℕ). n * w) (add-mul y 1 l ∙ ap (λ (n : ℕ). y * l + n) (one-mul l)) ∙ add-mul (y * l) l w

pub row_on : (z w : ℕ) → (z + 1) * w ≡ z * w + w
row_on z w = add-mul z 1 w ∙ ap (λ (n : ℕ). z * w + n) (one-mul w)

module _ (s : Size) where
  -- ---- by coordinates: the cell one further along an axis is the neighbour on that axis's high face

  module _ (x y z : ℕ) where
    along_y : x < s.w → y + 1 < s.h → z < s.l → Facing s 0 (cell_at s x y z) (cell_at s x (y + 1) z)
    unfolding neighbour
    along_y a b c =
        let here : y_of s (cell_at s x y z) ≡ y = ap (λ (v : Triple). v.y) (coordinates-cell_at s a c) in
        let next : y_of s (cell_at s x (y + 1) z) ≡ y + 1 = ap (λ (v : Triple). v.y) (coordinates-cell_at s a c) in
        let on = layer_on y s.l s.w in (
          given (lt-ltb (y_of s (cell_at s x y z) + 1) s.h (omega arith)) (omega arith),
          given (lt-ltb 0 (y_of s (cell_at s x (y + 1) z)) (omega arith)) (omega arith),
          λ e. omega (arith, ap (y_of s) e),
        )

    along_x : x + 1 < s.w → z < s.l → Facing s 2 (cell_at s x y z) (cell_at s (x + 1) y z)
    unfolding neighbour
    along_x a c =
        let low : x < s.w = omega arith in
        let here : x_of s (cell_at s x y z) ≡ x = ap (λ (v : Triple). v.x) (coordinates-cell_at s low c) in
        let next : x_of s (cell_at s (x + 1) y z) ≡ x + 1 = ap (λ (v : Triple). v.x) (coordinates-cell_at s a c) in (
          given (lt-ltb (x_of s (cell_at s x y z) + 1) s.w (omega arith)) (omega arith),
          given (lt-ltb 0 (x_of s (cell_at s (x + 1) y z)) (omega arith)) (omega arith),
          λ e. omega (arith, ap (x_of s) e),
        )

    along_z : x < s.w → z + 1 < s.l → Facing s 4 (cell_at s x y z) (cell_at s x y (z + 1))
    unfolding neighbour
    along_z a c =
        let low : z < s.l = omega arith in
        let here : z_of s (cell_at s x y z) ≡ z = ap (λ (v : Triple). v.z) (coordinates-cell_at s a low) in
        let next : z_of s (cell_at s x y (z + 1)) ≡ z + 1 = ap (λ (v : Triple). v.z) (coordinates-cell_at s a c) in
        let on = row_on z s.w in (
          given (lt-ltb (z_of s (cell_at s x y z) + 1) s.l (omega arith)) (omega arith),
          given (lt-ltb 0 (z_of s (cell_at s x y (z + 1))) (omega arith)) (omega arith),
          λ e. omega (arith, ap (z_of s) e),
        )

  -- ---- a neighbour is in the grid, and the cell is its neighbour

  pub record Beside (c f n : ℕ) : Type 0 where
    pub inside : n < cells s
    pub other : n ≢ c
    pub back : neighbour s n (opposite f) ≡ some c

  close : (f : ℕ) {d c m n : ℕ} → neighbour s c f ≡ some n → d ≡ c → Facing s f d m → m < cells s → Beside c f n
  close f {d} {c} {m} {n} e here p h =
      let there : neighbour s c f ≡ some m = ap (λ (k : ℕ). neighbour s k f) (sym here) ∙ p.0 in
      let same : m ≡ n = cc in
      record {
        inside = subst (λ (k : ℕ). k < cells s) same h;
        other = λ q. p.2 (same ∙ q ∙ sym here);
        back = ap (λ (k : ℕ). neighbour s k (opposite f)) (sym same) ∙ p.1 ∙ ap some here;
      }

  module _ (wide : 0 < s.w) (long : 0 < s.l) (c : ℕ) (h : c < cells s) where
    abbrev x : ℕ
    x = x_of s c

    abbrev y : ℕ
    y = y_of s c

    abbrev z : ℕ
    z = z_of s c

    i : Inside s c
    i = inside_of s c wide long h

    whole : cell_at s x y z ≡ c
    whole = cell_at-coordinates s c

    pub beside : (f n : ℕ) → neighbour s c f ≡ some n → Beside c f n
    unfolding neighbour
    beside zero n e =
        let on : y + 1 < s.h = ltb-true _ _ (taken _ _ _ e) in
        close 0 e whole (along_y x y z i.x on i.z) (cell_at_in s i.x on i.z)
    beside (suc zero) n e =
        let off : 0 < y = ltb-true _ _ (taken _ _ _ e) in
        let here : cell_at s x (y - 1 + 1) z ≡ c = ap (λ (k : ℕ). cell_at s x k z) (omega arith) ∙ whole in
        let p = along_y x (y - 1) z i.x (omega (arith, i.y)) i.z in
        close 1 e here (p.1, p.0, λ q. p.2 (sym q)) (cell_at_in s i.x (omega (arith, i.y)) i.z)
    beside (suc (suc zero)) n e =
        let on : x + 1 < s.w = ltb-true _ _ (taken _ _ _ e) in
        close 2 e whole (along_x x y z on i.z) (cell_at_in s on i.y i.z)
    beside (suc (suc (suc zero))) n e =
        let off : 0 < x = ltb-true _ _ (taken _ _ _ e) in
        let here : cell_at s (x - 1 + 1) y z ≡ c = ap (λ (k : ℕ). cell_at s k y z) (omega arith) ∙ whole in
        let p = along_x (x - 1) y z (omega (arith, i.x)) i.z in
        close 3 e here (p.1, p.0, λ q. p.2 (sym q)) (cell_at_in s (omega (arith, i.x)) i.y i.z)
    beside (suc (suc (suc (suc zero)))) n e =
        let on : z + 1 < s.l = ltb-true _ _ (taken _ _ _ e) in
        close 4 e whole (along_z x y z i.x on) (cell_at_in s i.x i.y on)
    beside (suc (suc (suc (suc (suc zero))))) n e =
        let off : 0 < z = ltb-true _ _ (taken _ _ _ e) in
        let here : cell_at s x y (z - 1 + 1) ≡ c = ap (λ (k : ℕ). cell_at s x y k) (omega arith) ∙ whole in
        let p = along_z x y (z - 1) i.x (omega (arith, i.z)) in
        close 5 e here (p.1, p.0, λ q. p.2 (sym q)) (cell_at_in s i.x i.y (omega (arith, i.z)))
    beside (suc (suc (suc (suc (suc (suc f)))))) n e = absurd (let t : ◌≡◌ {A = ℕ} 0 1 = cc in omega arith)
