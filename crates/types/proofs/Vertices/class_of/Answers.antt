-- `types::Vertices::class_of` meets its contract. Assumes nothing.
use Rattle.std.proofs.Common.{◌≡◌, sym, ◌∙◌, ℕ, true, false}
use Rattle.std.specs.Prelude.{Option, Some, None}
use Rattle.std.specs.Option.{is_some}
use mathlib.Core.Option as maybe
use Rattle.rules.specs.Types.{or_else, class_of}
use Rattle.types.specs.Tests.{class_in}
use Rattle.types.proofs.Vertices.class_of.Goals as goal

-- the first, where there is one, and else the second
first : (x : Option ℕ) (a b : maybe.Option ℕ) → is_some x ≡ true → class_in x ≡ a → class_in x ≡ or_else a b
first (Some n) a b there e = rw (sym e)
first None a b there e = (cc)

second : (x : Option ℕ) {a r b : maybe.Option ℕ} → is_some x ≡ false → class_in x ≡ a → r ≡ b → r ≡ or_else a b
second None none e k = rw (sym e) k
second (Some n) none e k = (cc)

pub returns-then-is_some : goal.returns-then-is_some
unfolding class_of
returns-then-is_some c = first _ _ _ (sym c.is_some.ensures ∙ c.if-is_some.true) c.class_at-by_x.ensures

pub returns-then-is_some-2 : goal.returns-then-is_some-2
unfolding class_of
returns-then-is_some-2 c =
    second _ (sym c.is_some.ensures ∙ c.if-is_some.false) c.class_at-by_x.ensures
    (first _ _ _ (sym c.is_some-2.ensures ∙ c.if-is_some-2.true) c.class_at-by_y.ensures)

pub returns : goal.returns
unfolding class_of
returns c =
    second _ (sym c.is_some.ensures ∙ c.if-is_some.false) c.class_at-by_x.ensures
    (second _ (sym c.is_some-2.ensures ∙ c.if-is_some-2.false) c.class_at-by_y.ensures c.class_at.ensures)
