-- `util::Row::next` meets its contract. Assumes nothing.
use mathlib.Core.Path.{refl}
use native.Mathlib.Omega.{arith}
use Rattle.util.specs.Grid.{size_of}
use Rattle.util.proofs.Rows.{high, long, next_row, next_layer}
use Rattle.util.proofs.Row.next.Goals as goal

pub overflow_add-self : goal.overflow_add-self
overflow_add-self c = let s = c.before.before.before in omega (arith, long (size_of s.args.dims) s.requires.0 s.requires.1, s.requires.0.sides.longest)

pub returns-then-self-dims : goal.returns-then-self-dims
returns-then-self-dims c = let s = c.before.before.before.before.before.before in (refl, next_row (size_of s.args.dims) s.requires.0 s.requires.1 c.before.if-self-dims.true)

pub overflow_add-result-2 : goal.overflow_add-result-2
overflow_add-result-2 c = let s = c.before.before.before.before.before.before in omega (arith, high (size_of s.args.dims) s.requires.0 s.requires.1, s.requires.0.sides.highest)

pub returns : goal.returns
returns c = let s = c.before.before.before.before.before.before in (refl, next_layer (size_of s.args.dims) s.requires.0 s.requires.1 c.before.if-self-dims.false)
