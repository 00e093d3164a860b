use mathlib.Core.Path.{ap, ◌∙◌}
use lib.Bits.{bit_or, or_shifted_r}
use Rattle.rules.specs.Cells.{code}
use Rattle.face.specs.Face.{number}
use Rattle.face.proofs.link.Goals as goal

pub returns : goal.returns
returns c =
    let t = c.before.before in
    ap (bit_or t.args.cell.0) c.before.to_u32.ensures
    ∙ or_shifted_r (code (number t.args.face)) 29 t.args.cell.0 t.requires
