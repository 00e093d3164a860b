use Rattle.std.proofs.Common.{◌≡◌, ℕ, ◌+◌, ◌-◌, ◌<◌, ◌≤◌, List, get_or, take, drop, length, length-take, length-drop, refl, ap, ◌∙◌, arith}
use Rattle.std.proofs.lemmas.Grind.{common_steps}
use Rattle.rules.specs.Lists.{every}
use Rattle.entries.proofs.Entries.{any_more}
use Rattle.entries.proofs.any_bad.Goals as goal

-- the byte that is looked at is the entry's
byte_at : (log : List ℕ) (at f : ℕ) → at + 12 ≤ length log → f < length (take (at + 12 - (at + 6)) (drop (at + 6) log)) → get_or (take (at + 12 - (at + 6)) (drop (at + 6) log)) f 0 ≡ get_or log (at + (6 + f)) 0
byte_at log at f h l = grind (arith, common_steps)

pub loop-byte-init : goal.loop-byte-init
unfolding every
loop-byte-init g c = λ bad same. refl

pub loop-byte-preserved : goal.loop-byte-preserved
loop-byte-preserved g c =
    λ bad same.
    let a = c.args in
    let e = byte_at a.log.now a.at c.loop-byte.byte-index c.requires.bytes c.loop-byte-test.true in
    any_more _ (λ f. bad (get_or a.log.now (a.at + (6 + f)) 0)) _ _ (c.loop-byte.invariant bad same) (same _ _ (rw e (omega arith)) c.is_bad-any.ensures ∙ ap bad e)

pub returns : goal.returns
returns g c = λ bad same. let x = c.loop-byte.invariant bad same in let e : c.loop-byte.byte-index ≡ 6 = omega (arith, length-take {A = ℕ}, length-drop {A = ℕ}) in rw e at x
