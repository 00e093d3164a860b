use mathlib.Core.Path.{refl, ap, ◌∙◌}
use Prim.Native.Nat.{ℕ, ◌-◌, ◌*◌}
use Rattle.rules.specs.Lists.{part}
use Rattle.vav.specs.Rows.{put, zeros, source_of, freed}
use Rattle.vav.proofs.Laws.{source_bounds, spans}
use native.Mathlib.Omega.{arith}
use Rattle.vav.proofs.free_row.Goals as goal

pub overflow_sub-count : goal.overflow_sub-count
overflow_sub-count c =
    let t = c.before.before.before in omega (arith, source_bounds t.args.q t.args.count t.requires.0)

pub copy_rows-requires : goal.copy_rows-requires
copy_rows-requires c =
    let t = c.before.before.before in
    let s = spans t.args.n t.args.q t.args.count c.before.source-from.result t.requires.0 c.before.source-from.ensures in
    (omega arith, omega arith)

pub clear-requires : goal.clear-requires
clear-requires c =
    let t = c.before.before.before.before.before.before.before in
    let s = spans t.args.n t.args.q t.args.count (source_of t.args.q t.args.count) t.requires.0 refl in
    let l = c.before.before.before.copy_rows.auto.list in
    omega arith

pub returns : goal.returns
unfolding freed
returns c =
    let g = c.before.before.before.before.before.before.before in
    let a = g.before.before.before.args in
    let v = a.list.now in
    c.before.before.clear.ensures
    ∙ ap (put (a.n * (a.count - 1)) (zeros a.n))
    (c.before.before.before.before.before.before.copy_rows.ensures
    ∙ ap (λ (k : ℕ). put (a.n * a.q) (part (a.n * k) (a.n * (a.count - k)) v) v) g.before.source-from.ensures)
