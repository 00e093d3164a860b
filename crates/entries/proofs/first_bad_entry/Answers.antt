use Rattle.std.proofs.Common.{◌≡◌, ℕ, ◌-◌, ◌/◌, length, true, false, sym, ap, ◌∙◌, arith}
use Rattle.rules.specs.Lists.{lowest_from}
use Rattle.rules.specs.Update.{ENTRY_BYTES}
use Rattle.rules.specs.Answers.{bad_entry}
use Rattle.entries.proofs.Entries.{lowest_here, lowest_next, lowest_end}
use Rattle.entries.proofs.first_bad_entry.Goals as goal

pub loop-k-init : goal.loop-k-init
loop-k-init c =
    let a = c.args in
    let n : length a.log.now / ENTRY_BYTES ≡ length a.log.now / ENTRY_BYTES - 0 = omega arith in
    ap (λ (k : ℕ). lowest_from 0 k (bad_entry a.cells a.types a.log.now)) n

pub returns-then-bad_entry : goal.returns-then-bad_entry
returns-then-bad_entry c =
    let l = c.loop-k in
    let a = c.args in
    let bad = bad_entry a.cells a.types a.log.now in
    let e : bad l.k ≡ true = sym c.bad_entry.ensures ∙ c.if-bad_entry.true in
    sym (l.invariant ∙ lowest_here l.k (length a.log.now / ENTRY_BYTES) bad (omega arith) e)

pub loop-k-preserved : goal.loop-k-preserved
loop-k-preserved c =
    let l = c.loop-k in
    let a = c.args in
    let bad = bad_entry a.cells a.types a.log.now in
    let e : bad l.k ≡ false = sym c.bad_entry.ensures ∙ c.if-bad_entry.false in
    l.invariant ∙ lowest_next l.k (length a.log.now / ENTRY_BYTES) bad (omega arith) e

pub returns : goal.returns
returns c =
    let l = c.loop-k in
    let a = c.args in
    let e : l.k ≡ length a.log.now / ENTRY_BYTES = omega arith in
    let f = lowest_end l.k (bad_entry a.cells a.types a.log.now) in
    sym (l.invariant ∙ ap (λ (n : ℕ). lowest_from l.k (n - l.k) (bad_entry a.cells a.types a.log.now)) (sym e) ∙ f ∙ e)
