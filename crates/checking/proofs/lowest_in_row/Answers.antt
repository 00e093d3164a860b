-- `checking::lowest_in_row` meets its contract. Assumes nothing.
use mathlib.Core.Path.{◌≡◌, sym, ap, ◌∙◌}
use mathlib.Core.Bool.{Bool}
use Prim.Native.Nat.{ℕ, ◌+◌, ◌*◌, ◌≤◌, ◌<◌}
use lib.ListN.{length, get_or}
use Rattle.rules.specs.Cells.{has, key_of}
use Rattle.rules.proofs.ListLaws.{lowest_from_le}
use Rattle.rules.proofs.Sets.{set_of_lt}
use Rattle.rules.proofs.Searches.{ended}
use Rattle.rules.specs.Answers.{is_filled, unlike}
use Rattle.checking.specs.Faces.{filled_set, wrong_in_row}
use Rattle.checking.proofs.Faces.{all_like, first_unlike, cells_like, four_same, same_side}
use Rattle.checking.proofs.Rows.{row_slot}
use native.Mathlib.Omega.{arith}
use Rattle.checking.proofs.lowest_in_row.Goals as goal

pub loop-x-preserved-then-are_alike : goal.loop-x-preserved-then-are_alike
loop-x-preserved-then-are_alike c =
    let sets = c.args.sets.now in
    let slots = c.args.slots.now in
    let first = c.args.first in
    let x = c.loop-x.x in
    let alike = c.are_alike.ensures c.if-are_alike.true in
    let fits : x + 4 ≤ length sets = alike.0 in (
      fits,
      λ sides e. cells_like (6 * length sets) (wrong_in_row sides slots first) x 4 (omega arith) (c.loop-x.invariant.1 sides e)
          (λ j l f h. let there : x + j < length sets = omega arith in
          let key : first + x + j ≡ first + (x + j) = omega arith in
          row_slot sides slots first (x + j) f h
          ∙ same_side (sides (x + j)) (λ f. is_filled slots (key_of (first + (x + j)) f))
          (sym (e (x + j) there)
          ∙ four_same (λ j. get_or sets (x + j) 0) (λ j. filled_set slots (first + x + j))
          (λ j l. let w : x + j < length sets = omega arith in omega (arith, e (x + j) w, set_of_lt (sides (x + j))))
          (λ j. set_of_lt (λ f. is_filled slots (key_of (first + x + j) f))) alike.1 j l
          ∙ ap (filled_set slots) key) f h),
    )

pub overflow_add-result : goal.overflow_add-result
overflow_add-result c =
    let differs : ℕ → Bool = λ f. unlike (has (get_or c.args.sets.now c.loop-x.x 0) f) (has c.filled_set-filled.result f) in
    omega (arith, lowest_from_le 6 0 differs)

pub returns-then-drawn-filled : goal.returns-then-drawn-filled
returns-then-drawn-filled c =
    λ sides e. let sets = c.args.sets.now in
    let slots = c.args.slots.now in
    let first = c.args.first in
    let x = c.loop-x.x in
    rw c.lowest_unlike.ensures
    (first_unlike (6 * length sets) x (wrong_in_row sides slots first) (sides x) (λ f. is_filled slots (key_of (first + x) f)) (get_or sets x 0) c.filled_set-filled.result
    (row_slot sides slots first x) (e x c.loop-x-test.true) c.filled_set-filled.ensures (omega arith) (c.loop-x.invariant.1 sides e) c.if-drawn-filled.true)

pub loop-x-preserved : goal.loop-x-preserved
loop-x-preserved c =
    let sets = c.args.sets.now in
    let slots = c.args.slots.now in
    let first = c.args.first in
    let x = c.loop-x.x in (
      omega arith,
      λ sides e. all_like (6 * length sets) x (wrong_in_row sides slots first) (sides x) (λ f. is_filled slots (key_of (first + x) f)) (get_or sets x 0) c.filled_set-filled.result
          (row_slot sides slots first x) (e x c.loop-x-test.true) c.filled_set-filled.ensures (omega arith) (c.loop-x.invariant.1 sides e) c.if-drawn-filled.false,
    )

pub returns : goal.returns
returns c = λ sides e. ended _ _ _ (omega arith) (c.loop-x.invariant.1 sides e)
