-- `update::mend_patterns` meets its contract. Assumes nothing.
use mathlib.Core.Path.{◌≡◌, ap, ◌∙◌}
use Prim.Native.Nat.{ℕ, ◌+◌, ◌-◌, ◌*◌}
use native.Mathlib.Omega.{arith}
use lib.ListN.{replicate, length-replicate}
use Rattle.rules.proofs.Rows.{length_lent}
use Rattle.vav.specs.Rows.{put, zeros}
use Rattle.vav.proofs.Laws.{lent}
use Rattle.update.specs.Runs.{patterns_mended}
use Rattle.update.proofs.mend_patterns.Goals as goal

pub returns : goal.returns
unfolding patterns_mended
returns c =
    let a = 6 * c.args.after in
    let k = 6 * (c.args.highest - c.args.after) in
    let xs = c.write_patterns.new.triangles in
    let span : 6 * c.args.highest - a ≡ a + k - a = omega arith in
    let part = length_lent a k xs (omega (arith, c.write_patterns.auto.triangles, c.requires.0, c.requires.1)) in
    let filled = c.fill.ensures.after (λ y e. e) ∙ ap (λ (n : ℕ). replicate n 0) (rw span part) in
    rw span (lent a k xs _ (zeros k) filled (length-replicate k 0) ∙ ap (put a (zeros k)) c.write_patterns.ensures)
