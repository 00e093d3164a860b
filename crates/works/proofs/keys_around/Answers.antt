-- `works::keys_around` meets its contract: face by face. Assumes nothing.
use mathlib.Core.Path.{◌≡◌}
use mathlib.Core.List.{[], ◌∷◌}
use Prim.Native.Nat.{◌*◌}
use native.Mathlib.Omega.{arith}
use Rattle.rules.specs.Lists.{each}
use Rattle.rules.specs.Cells.{key_of}
use Rattle.works.proofs.keys_around.Goals as goal

pub returns : goal.returns
unfolding each
returns c =
    let own = c.args.cell.0 in
    let first : 6 * own ≡ key_of own 0 = omega arith in
    λ i. first i ∷ key_of own 1 ∷ key_of own 2 ∷ key_of own 3 ∷ key_of own 4 ∷ key_of own 5 ∷ c.facing_key.ensures i ∷ c.facing_key-2.ensures i ∷ c.facing_key-3.ensures i ∷ c.facing_key-4.ensures i ∷ c.facing_key-5.ensures i ∷ c.facing_key-6.ensures i ∷ []
