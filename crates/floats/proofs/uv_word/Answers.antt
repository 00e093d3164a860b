-- `floats::uv_word` meets its contract: a tile's start is finite and its end no NaN. Assumes nothing.
use Prim.Native.Nat.{ℕ, ◌<◌}
use native.Mathlib.Omega.{arith}
use Rattle.std.specs.Prelude.{Option, Some, None, IfSome, is_some}
use Rattle.rules.specs.Cube.{uv_word}
use Rattle.floats.specs.Tiles.{tile_in}
use Rattle.floats.proofs.Numbers.{no_nan, no_nan_bits, number}
use Rattle.floats.proofs.Sizes.{finite}
use Rattle.floats.proofs.Corners.{start_within, end_number}
use Rattle.floats.proofs.uv_word.Goals as goal

-- a tile's number is small, also where there is none
small : (tile : Option ℕ) → IfSome tile (λ t. t < 4096) → tile_in tile < 4096
small (Some t) h = h
small None h = omega arith

pub float_to_bits-result : goal.float_to_bits-result
float_to_bits-result c =
    let a = c.args in
    let p = c.requires in
    rw c.uv_start-start.ensures (no_nan (number (finite (start_within (tile_in a.tile) a.atlas a.padding (small a.tile p.0) p.1 p.2 p.3 (is_some a.tile)))))

pub returns-then-not-end : goal.returns-then-not-end
unfolding uv_word
returns-then-not-end c = simp (c.if-not-end.true, c.uv_start-start.ensures)

pub float_from_bits-result : goal.float_from_bits-result
float_from_bits-result c = no_nan_bits _ c.requires.3

pub float_to_bits-result-2 : goal.float_to_bits-result-2
float_to_bits-result-2 c =
    let a = c.args in
    let p = c.requires in
    rw c.uv_start-start.ensures (no_nan (end_number (tile_in a.tile) a.atlas a.padding (small a.tile p.0) p.1 p.2 p.3 (is_some a.tile)))

pub returns : goal.returns
unfolding uv_word
returns c = simp (c.if-not-end.false, c.uv_start-start.ensures)
