-- `listing::quads_in` meets its contract: what is counted and what is left come to what all sets ask for. Assumes nothing.
use mathlib.Core.Path.{◌≡◌, refl, ap, sym, ◌∙◌, subst}
use mathlib.Core.List.{List}
use Prim.Native.Nat.{ℕ, ◌<◌}
use lib.ListN.{length, get_or, length-append}
use native.Mathlib.Omega.{arith}
use Rattle.listing.specs.Fresh.{sets_from, asked}
use Rattle.listing.proofs.Rows.{asked_few, below_of, below_rest, part_counted, nothing_left}
use Rattle.listing.proofs.quads_in.Goals as goal

abbrev Below : List ℕ → Type 0
Below l = (x : ℕ) → x < length l → get_or l x 0 < 64

pub loop-few-init : goal.loop-few-init
loop-few-init c = rw (c.into_iter-few-iterator.ensures.into_iter_gives, c.chunks-few-items.ensures.rest, c.chunks-few-items.ensures.size) (refl, c.requires.0, c.requires.1, omega arith)

pub quads_in_few-requires : goal.quads_in_few-requires
quads_in_few-requires c =
    let s = c.in-Some.ensures.steps in
    (omega (arith, s.1.1, c.loop-few.invariant.0), below_of _ _ (subst (λ (l : List ℕ). Below l) s.1.0 c.loop-few.invariant.2))

pub overflow_add-n : goal.overflow_add-n
overflow_add-n c =
    let list = c.args.sets.now in
    omega (arith, c.loop-few.invariant.3, c.from-n.type_inv, c.from-n.ensures, asked_few (sets_from 0 list) (length list) 0, c.requires.0)

pub loop-few-preserved : goal.loop-few-preserved
loop-few-preserved c =
    let s = c.in-Some.ensures.steps in
    let i = c.loop-few.invariant in (
      s.0 ∙ i.0,
      omega (arith, i.1, ap length s.1.0, length-append c.in-Some.few.now c.next.new.self.rest.now),
      below_rest _ _ (subst (λ (l : List ℕ). Below l) s.1.0 i.2),
      part_counted _ _ _ _ _ _ s.1.0 (c.from-n.ensures ∙ c.quads_in_few.ensures) i.3,
    )

pub returns : goal.returns
returns c = nothing_left _ _ _ c.in-None.ensures.steps.1.0 c.loop-few.invariant.3
