-- `mesh_metadata::renumber` meets its contract. Assumes nothing.
use mathlib.Core.Path.{sym, ap, ◌∙◌}
use mathlib.Core.List.{map}
use Prim.Native.Nat.{ℕ}
use lib.ListN.{set}
use Rattle.rules.specs.Mesh.{NONE}
use Rattle.mesh_metadata.specs.Index.{shifted}
use Rattle.mesh_metadata.proofs.Slots.{gone}
use Rattle.mesh_metadata.proofs.renumber.Goals as goal

pub returns : goal.returns
returns c =
    let a = c.args in
    c.remove_quad.ensures
    ∙ (λ i. set ((c.rename_from.ensures ∙ ap (λ (from : ℕ). map (shifted a.q from a.count) a.slots.now) c.source-from.ensures) i) (sym c.requires.2 i) NONE)
    ∙ gone a.count a.links.now a.slots.now c.requires.1 a.q c.requires.0
