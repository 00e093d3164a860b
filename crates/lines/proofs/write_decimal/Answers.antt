-- `lines::write_decimal` meets its contract. Assumes nothing.
use mathlib.Core.Path.{ap}
use Prim.Native.Nat.{ℕ, ◌+◌, ◌/◌, ◌<◌}
use native.Mathlib.Omega.{arith}
use lib.ListN.{length, length-set}
use Rattle.lines.proofs.Decimals.{shown_start, shown_more, shown_all, last_inside, length_more, length_some}
use Rattle.lines.proofs.write_decimal.Goals as goal
use Rattle.lines.proofs.write_decimal.Lts
use Rattle.lines.proofs.write_decimal.Tie
use Rattle.lines.proofs.write_decimal.Reads

abbrev At-loop-left : Type 0
At-loop-left = Lts.At-loop Tie.the-claims Reads.Pre Reads.Post goal.the-invariant-loop-left goal.the-decreases-loop-left

inside : (c : At-loop-left) → c.loop-left.last < length c.loop-left.out
inside c = last_inside _ _ _ (omega arith) c.requires c.loop-left.invariant

pub overflow_add-end : goal.overflow_add-end
overflow_add-end c = omega arith

pub overflow_sub-last : goal.overflow_sub-last
overflow_sub-last c = omega (arith, length_some c.args.n (omega arith))

pub loop-left-init : goal.loop-left-init
loop-left-init c =
    let a = c.args in
    rw c.decimal_length.ensures (shown_start a.n a.at a.out.now (omega arith) c.requires)

pub bounds-out-last : goal.bounds-out-last
bounds-out-last c = inside c.before.before

pub overflow_sub-last-in-loop-left : goal.overflow_sub-last-in-loop-left
overflow_sub-last-in-loop-left c = omega (arith, length_more c.loop-left.left c.loop-left-test.true (omega arith), length_some (c.loop-left.left / 10) (omega arith))

pub loop-left-smaller : goal.loop-left-smaller
loop-left-smaller c = omega arith

pub loop-left-preserved : goal.loop-left-preserved
loop-left-preserved c = shown_more _ _ _ (omega arith) c.requires c.loop-left.invariant c.loop-left-test.true c.digit.ensures

pub bounds-out-last-2 : goal.bounds-out-last-2
bounds-out-last-2 c = inside c.before.before

pub shape_of-out : goal.shape_of-out
shape_of-out c = simp length-set c.loop-left.invariant.kept

pub returns : goal.returns
returns c =
    record {
      is = shown_all _ _ _ (omega arith) c.requires c.loop-left.invariant (omega arith) c.digit-2.ensures;
      end = ap (λ (k : ℕ). c.args.at + k) c.decimal_length.ensures;
    }
