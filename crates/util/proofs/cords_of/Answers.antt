-- `util::cords_of` meets its contract: quotients by products, and what they leave. Assumes nothing.
use mathlib.Core.Path.{◌≡◌, ap, ◌∙◌}
use Prim.Native.Nat.{ℕ, ◌+◌, ◌-◌, ◌*◌, ◌/◌, ◌%◌, ◌<◌}
use native.Mathlib.Nat.{mul-le-mul_left, div-add-mod'}
use native.Mathlib.Omega.{arith}
use Rattle.util.specs.Grid.{cords_of}
use Rattle.util.proofs.Dividing.{inverse_le}
use Rattle.util.proofs.cords_of.Goals as goal
use Rattle.util.proofs.cords_of.Goals.{After-goes_into-y}

low : (t : goal.Start) → t.args.cell.0 < 1048576
low t = omega (arith, t.requires.0.most, t.requires.1)

pub goes_into-row-requires : goal.goes_into-row-requires
goes_into-row-requires c =
    let s = c.requires.0.sides in (low c, rw c.requires.2.width (inverse_le c.args.dims.width s.wide s.widest))

row_is : (c : goal.After-goes_into-row) → c.goes_into-row.result ≡ c.before.args.cell.0 / c.before.args.dims.width
row_is c = let t = c.before in c.goes_into-row.ensures t.args.dims.width t.requires.0.sides.wide t.requires.0.sides.widest t.requires.2.width

rows : (c : goal.After-goes_into-row) → let t = c.before in c.goes_into-row.result * t.args.dims.width + t.args.cell.0 % t.args.dims.width ≡ t.args.cell.0
rows c = rw (row_is c) (div-add-mod' c.before.args.cell.0 c.before.args.dims.width)

pub goes_into-y-requires : goal.goes_into-y-requires
goes_into-y-requires c =
    let t = c.before in
    let s = t.requires.0.sides in
    (omega (arith, low t, rows c, mul-le-mul_left c.goes_into-row.result s.wide), rw t.requires.2.length (inverse_le t.args.dims.length s.long s.longest))

layer-is : (c : After-goes_into-y) → c.goes_into-y.result ≡ c.before.goes_into-row.result / c.before.before.args.dims.length
layer-is c = let t = c.before.before in c.goes_into-y.ensures t.args.dims.length t.requires.0.sides.long t.requires.0.sides.longest t.requires.2.length

layers : (c : After-goes_into-y) → let t = c.before.before in c.goes_into-y.result * t.args.dims.length + c.before.goes_into-row.result % t.args.dims.length ≡ c.before.goes_into-row.result
layers c = rw (layer-is c) (div-add-mod' c.before.goes_into-row.result c.before.before.args.dims.length)

pub overflow_mul-result : goal.overflow_mul-result
overflow_mul-result c = omega (arith, rows c.before.before, low c.before.before.before)

pub overflow_sub-result : goal.overflow_sub-result
overflow_sub-result c = omega (arith, rows c.before.before.before)

pub overflow_mul-result-2 : goal.overflow_mul-result-2
overflow_mul-result-2 c = omega (arith, layers c.before.before.before, rows c.before.before.before.before, low c.before.before.before.before.before, mul-le-mul_left c.before.before.before.before.goes_into-row.result c.before.before.before.before.before.requires.0.sides.wide)

pub overflow_sub-result-2 : goal.overflow_sub-result-2
overflow_sub-result-2 c = omega (arith, layers c.before.before.before)

pub returns : goal.returns
returns c =
    let second = c.before.before.before in
    let first = second.before in
    let a = first.before.args in
    let x : a.cell.0 - first.goes_into-row.result * a.dims.width ≡ a.cell.0 % a.dims.width = omega (arith, rows first) in
    let y : second.goes_into-y.result ≡ a.cell.0 / a.dims.width / a.dims.length = layer-is second ∙ ap (λ (r : ℕ). r / a.dims.length) (row_is first) in
    let z : first.goes_into-row.result - second.goes_into-y.result * a.dims.length ≡ a.cell.0 / a.dims.width % a.dims.length =
    omega (arith, layers second) ∙ ap (λ (r : ℕ). r % a.dims.length) (row_is first) in
    λ i. cords_of (x i) (y i) (z i)
