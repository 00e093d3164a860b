-- What a call leaves, another can be lent: it passes 9 to 12. Over answers by number, for Room, Fresh and ByNumber. Assumes nothing.
use Prim.Native.Nat.{ℕ}
use mathlib.Core.Path.{◌≡◌, sym, subst}
use mathlib.Core.Bool.{true}
use mathlib.Core.List.{List, [], ◌∷◌}
use Rattle.rules.specs.Lists.{member}
use Rattle.rules.specs.Mesh.{Lists}
use Rattle.rules.specs.Update.{Tested}
use Rattle.rules.specs.Answers.{fine}
use Rattle.rules.specs.Calls.{Answer, Outcome, Scene, lent_verdict, update_mesh}
use Rattle.rules.proofs.Demands.{left_lent}
use Rattle.telling.specs.Numbers.{outcome}

-- an update that tells 0 or 14
pub left_is_taken : (tested : Tested) (S : Scene) (log : List ℕ) (entry : Lists) (Q : ℕ) (a : Answer) (exit : Lists)
    → member a.number (0 ∷ 14 ∷ []) ≡ true → outcome a exit ≡ update_mesh tested S log entry Q → lent_verdict S exit a.quads ≡ fine
left_is_taken tested S log entry Q a exit h e =
    subst (λ (o : Outcome). lent_verdict S o.lists o.answer.quads ≡ fine) (sym e)
    (left_lent tested S log entry Q (subst (λ (o : Outcome). member o.answer.number (0 ∷ 14 ∷ []) ≡ true) e h))
