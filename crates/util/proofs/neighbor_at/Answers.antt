-- `util::neighbor_at` meets its contract. Assumes nothing.
use mathlib.Core.Path.{ap, ◌∙◌}
use native.Mathlib.Omega.{arith}
use Rattle.rules.specs.Cells.{Triple, neighbour}
use Rattle.util.specs.Grid.{size_of}
use Rattle.util.proofs.Cells.{layer_fits}
use Rattle.util.proofs.Neighbors.{steps}
use Rattle.util.proofs.neighbor_at.Goals as goal

pub overflow_mul-layer : goal.overflow_mul-layer
overflow_mul-layer c = omega (arith, layer_fits (size_of c.before.args.dims) c.before.requires.0.sides)

pub ahead-requires : goal.ahead-requires
ahead-requires c =
    let at = c.before.before in
    (steps _ _ at.requires.0 at.requires.1 at.requires.2).top

pub behind-requires : goal.behind-requires
behind-requires c =
    let at = c.before.before in
    (steps _ _ at.requires.0 at.requires.1 at.requires.2).bottom

pub ahead-requires-in-Right : goal.ahead-requires-in-Right
ahead-requires-in-Right c =
    let at = c.before.before in
    (steps _ _ at.requires.0 at.requires.1 at.requires.2).right

pub behind-requires-in-Left : goal.behind-requires-in-Left
behind-requires-in-Left c =
    let at = c.before.before in
    (steps _ _ at.requires.0 at.requires.1 at.requires.2).left

pub ahead-requires-in-Back : goal.ahead-requires-in-Back
ahead-requires-in-Back c =
    let at = c.before.before in
    (steps _ _ at.requires.0 at.requires.1 at.requires.2).back

pub behind-requires-in-Forward : goal.behind-requires-in-Forward
behind-requires-in-Forward c =
    let at = c.before.before in
    (steps _ _ at.requires.0 at.requires.1 at.requires.2).forward

pub returns-in-Top : goal.returns-in-Top
unfolding neighbour
returns-in-Top c =
    let at = c.before.before.before in
    c.ahead.ensures ∙ rw (ap (λ (v : Triple). v.y) at.requires.2, c.before.in-Top.is)

pub returns-in-Bottom : goal.returns-in-Bottom
unfolding neighbour
returns-in-Bottom c =
    let at = c.before.before.before in
    c.behind.ensures ∙ rw (ap (λ (v : Triple). v.y) at.requires.2, c.before.in-Bottom.is)

pub returns-in-Right : goal.returns-in-Right
unfolding neighbour
returns-in-Right c =
    let at = c.before.before.before in
    c.ahead-in-Right.ensures ∙ rw (ap (λ (v : Triple). v.x) at.requires.2, c.before.in-Right.is)

pub returns-in-Left : goal.returns-in-Left
unfolding neighbour
returns-in-Left c =
    let at = c.before.before.before in
    c.behind-in-Left.ensures ∙ rw (ap (λ (v : Triple). v.x) at.requires.2, c.before.in-Left.is)

pub returns-in-Back : goal.returns-in-Back
unfolding neighbour
returns-in-Back c =
    let at = c.before.before.before in
    c.ahead-in-Back.ensures ∙ rw (ap (λ (v : Triple). v.z) at.requires.2, c.before.in-Back.is)

pub returns-in-Forward : goal.returns-in-Forward
unfolding neighbour
returns-in-Forward c =
    let at = c.before.before.before in
    c.behind-in-Forward.ensures ∙ rw (ap (λ (v : Triple). v.z) at.requires.2, c.before.in-Forward.is)
