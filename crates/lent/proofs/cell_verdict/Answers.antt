-- `lent::cell_verdict` meets its contract: where no code is over the largest, and that is a type, each is one. Assumes nothing.
use Rattle.std.proofs.Common.{sym, arith}
use borrow.Author.Tests.{lt-leb}
use Rattle.rules.proofs.Checking.{fine_lowest}
use Rattle.lent.proofs.cell_verdict.Goals as goal

pub returns-then-from-types : goal.returns-then-from-types
returns-then-from-types c = λ T e. sym (fine_lowest _ _ _ (λ k h. lt-leb _ _ (omega (arith, c.largest_code.ensures k h))))
