-- `mesh_metadata::rename` meets its contract: slot by slot. Assumes nothing.
use mathlib.Core.Path.{ap, ◌∙◌}
use mathlib.Core.List.{List}
use Prim.Native.Nat.{ℕ, ◌-◌}
use lib.ListN.{get_or, set}
use Rattle.rules.specs.Cells.{key_in, first_vertex}
use Rattle.mesh_metadata.proofs.Slots.{none_shifted, step}
use native.Mathlib.Omega.{arith}
use Rattle.mesh_metadata.proofs.rename.Goals as goal

pub loop-i-init : goal.loop-i-init
loop-i-init c = none_shifted c.args.q c.args.from c.args.slots.now

pub change_quad_index-requires : goal.change_quad_index-requires
change_quad_index-requires c =
    let i = c.loop-i.i in
    let k = c.requires.2 in
    let z = k.small in
    let r = k.room in
    let m = k.slot i (omega arith) in
    (omega arith, k.code i (omega arith), omega arith, omega arith)

pub loop-i-preserved : goal.loop-i-preserved
loop-i-preserved c =
    let a = c.args in
    let l = c.loop-i in
    c.change_quad_index.ensures
    ∙ ap (λ (x : List ℕ). set x (key_in (get_or a.links.now l.i 0)) (first_vertex (l.i - (a.from - a.q)))) l.invariant
    ∙ step a.count a.links.now a.slots.now c.requires.2 a.q a.from l.i c.requires.0 (omega arith) (omega arith)
