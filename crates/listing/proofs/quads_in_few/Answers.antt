-- `listing::quads_in_few` meets its contract: the first sets are counted. Assumes nothing.
use mathlib.Core.Path.{◌≡◌, refl, ap, ◌∙◌}
use Prim.Native.Nat.{ℕ, ◌+◌, ◌-◌}
use lib.ListN.{get_or}
use native.Mathlib.Omega.{arith}
use Rattle.rules.specs.Cells.{quads_of}
use Rattle.listing.specs.Fresh.{sets_from, asked}
use Rattle.listing.proofs.Sets.{quads_le}
use Rattle.listing.proofs.Rows.{asked_step, asked_few}
use Rattle.listing.proofs.quads_in_few.Goals as goal

pub loop-set-init : goal.loop-set-init
unfolding asked
loop-set-init c = refl

pub quads_of-requires : goal.quads_of-requires
quads_of-requires c = c.requires.1 _ c.loop-set-test.true

pub overflow_cast-n : goal.overflow_cast-n
overflow_cast-n c = rw c.quads_of.ensures (omega (arith, quads_le (get_or c.args.sets.now c.loop-set.set-index 0)))

pub overflow_add-n : goal.overflow_add-n
overflow_add-n c =
    let l = c.loop-set in
    omega (arith, c.quads_of.ensures, quads_le (get_or c.args.sets.now l.set-index 0), l.invariant, asked_few (sets_from 0 c.args.sets.now) l.set-index 0, c.loop-set-test.true, c.requires.0)

pub loop-set-preserved : goal.loop-set-preserved
loop-set-preserved c =
    let sets = c.args.sets.now in
    let l = c.loop-set in
    let q : c.quads_of.result ≡ quads_of (get_or sets (0 + l.set-index - 0) 0) = c.quads_of.ensures ∙ ap (λ (k : ℕ). quads_of (get_or sets k 0)) (omega arith) in
    omega (arith, l.invariant, q, asked_step (sets_from 0 sets) l.set-index 0)

pub returns : goal.returns
returns c =
    let l = c.loop-set in
    l.invariant ∙ ap (asked (sets_from 0 c.args.sets.now) 0) (omega (arith, c.loop-set-test.false))
