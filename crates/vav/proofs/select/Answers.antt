-- `vav::select` meets its contract: the attribute's part of a vertex is copied. Assumes nothing.
use mathlib.Core.Path.{◌≡◌, ap, ◌∙◌}
use mathlib.Core.List.{List}
use Prim.Native.Nat.{ℕ, ◌+◌, ◌-◌, ◌*◌}
use lib.ListN.{length}
use Rattle.rules.specs.Lists.{part}
use Rattle.vav.specs.Attributes.{attribute_of}
use Rattle.vav.specs.Rows.{put}
use Rattle.vav.proofs.Laws.{length_part, part_lent}
use Rattle.vav.proofs.select.Goals as goal
use Rattle.vav.proofs.select.Goals.{Start}

-- the part that is lent has the attribute's floats
wide : (t : Start) →
    let a = t.args in
    let at = a.n * a.from + (attribute_of a.attribute).start in
    let w = (attribute_of a.attribute).width in
    length (part at (at + w - at) a.source.now) ≡ w
wide t =
    let a = t.args in
    let at = a.n * a.from + (attribute_of a.attribute).start in
    let w = (attribute_of a.attribute).width in
    ap length (part_lent at w a.source.now) ∙ length_part at w a.source.now t.requires.1

pub extend-requires : goal.extend-requires
extend-requires c =
    let t = c.before.before.before.before.before.before.before in
    rw (c.before.before.before.start.ensures, c.before.before.width.ensures, wide t) t.requires.0

pub returns : goal.returns
returns c =
    let t = c.before.before.before.before.before.before.before.before.before.before in
    let a = t.args in
    let at = a.n * a.from + (attribute_of a.attribute).start in
    let w = (attribute_of a.attribute).width in
    let xs = a.source.now in
    c.before.before.extend.ensures
    ∙ rw (c.before.before.before.before.before.before.start.ensures, c.before.before.before.before.before.width.ensures)
    (ap (λ (k : ℕ). put (k * a.to) (part at (at + w - at) xs) a.list.now) (wide t)
    ∙ ap (λ (ys : List ℕ). put (w * a.to) ys a.list.now) (part_lent at w xs))
