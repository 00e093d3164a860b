-- `types::types_verdict` meets its contract: each test is the first that refuses, or passes. Assumes nothing.
use mathlib.Core.Path.{◌≡◌, refl, ap, sym, ◌∙◌, subst}
use mathlib.Core.Bool.{Bool, true, false, not, ◌&&◌}
use lib.Dec.{T}
use lib.Ieee.Fits.{and_r}
use borrow.Author.Tests.{not-false}
use Rattle.std.specs.Prelude.{Result, Ok, length}
use Rattle.rules.specs.Cells.{Triple}
use Rattle.rules.specs.Floats.{finite3}
use Rattle.rules.specs.Types.{Types}
use Rattle.rules.specs.Answers.{Verdict, refuse_if, refuse_lowest, ◌then◌, bad_counts, bad_type, BAD_TYPES, BAD_NUMBER}
use Rattle.answers.specs.declared.Refused.{Refused}
use Rattle.answers.specs.Verdicts.{verdict_of}
use Rattle.types.specs.Tests.{types_in}
use Rattle.answers.proofs.Chains.{stops, goes, passes, then_assoc}
use Rattle.types.proofs.Known.{counted, not_refused}
use Rattle.types.proofs.types_verdict.Goals as goal
use Rattle.types.proofs.types_verdict.Goals.{In_ok-refuse_if}

-- the two tests of BAD_TYPES, and what comes after them
types_tested : (t : Types) (x : Result Unit Refused) {u : Unit {0}} (k : Bool) (r b : Verdict) → x ≡ Ok u → verdict_of x ≡ refuse_if k 3 255
    → k ≡ bad_counts t → r ≡ (refuse_lowest 3 (length t.kinds) (bad_type t) then b) → r ≡ (BAD_TYPES t then b)
unfolding BAD_TYPES
types_tested t x k r b was e h rest = rw then_assoc (goes x _ was (e ∙ ap (λ (y : Bool). refuse_if y 3 255) h) rest)

third : (a b : Bool) → not (a && b) ≡ not (a && b && true)
third true true = refl
third true false = refl
third false b = refl

number_tested : (d e : Triple) (v : Verdict) (x y : Bool) → v ≡ refuse_if (not (x && y)) 4 0 → x ≡ finite3 d → y ≡ finite3 e → v ≡ BAD_NUMBER d e 0
unfolding BAD_NUMBER
number_tested d e v x y h p q = h ∙ rw (p, q, third (finite3 d) (finite3 e))

counts : (c : In_ok-refuse_if) → bad_counts (types_in c.args.types) ≡ false
counts c = sym c.has_bad_counts.ensures ∙ not_refused _ _ _ (passes _ _ c.in_ok-refuse_if.was c.refuse_if.ensures)

pub returns-in_err-refuse_if : goal.returns-in_err-refuse_if
unfolding BAD_TYPES
returns-in_err-refuse_if c =
    rw then_assoc (stops _ _ _ _ c.in_err-refuse_if.was c.from_residual.ensures.1 (c.refuse_if.ensures ∙ ap (λ (x : Bool). refuse_if x 3 255) c.has_bad_counts.ensures))

pub kinds_verdict-requires : goal.kinds_verdict-requires
kinds_verdict-requires c = (counted (types_in c.args.types) (counts c)).0

pub returns-in_err-kinds_verdict : goal.returns-in_err-kinds_verdict
returns-in_err-kinds_verdict c =
    types_tested _ _ _ _ _ c.in_ok-refuse_if.was c.refuse_if.ensures c.has_bad_counts.ensures
    (stops _ _ _ _ c.in_err-kinds_verdict.was c.from_residual-in_err-kinds_verdict.ensures.1 c.kinds_verdict.ensures)

pub returns-in_err-refuse_if-2 : goal.returns-in_err-refuse_if-2
returns-in_err-refuse_if-2 c =
    types_tested _ _ _ _ _ c.in_ok-refuse_if.was c.refuse_if.ensures c.has_bad_counts.ensures
    (goes _ _ c.in_ok-kinds_verdict.was c.kinds_verdict.ensures
    (stops _ _ _ _ c.in_err-refuse_if-2.was c.from_residual-in_err-refuse_if-2.ensures.1
    (number_tested _ _ _ _ _ c.refuse_if-2.ensures c.is_finite.ensures c.is_finite-2.ensures)))

pub cubes_verdict-requires : goal.cubes_verdict-requires
cubes_verdict-requires c =
    let n : not (c.is_finite.result && c.is_finite-2.result) ≡ false = not_refused _ _ _ (passes _ _ c.in_ok-refuse_if-2.was c.refuse_if-2.ensures) in (
      (counted (types_in c.args.types) (sym c.has_bad_counts.ensures ∙ not_refused _ _ _ (passes _ _ c.in_ok-refuse_if.was c.refuse_if.ensures))).1,
      subst T c.is_finite-2.ensures (and_r c.is_finite.result _ (subst T (sym (not-false _ n)) tt)),
    )

pub returns : goal.returns
returns c =
    types_tested _ _ _ _ _ c.in_ok-refuse_if.was c.refuse_if.ensures c.has_bad_counts.ensures
    (goes _ _ c.in_ok-kinds_verdict.was c.kinds_verdict.ensures
    (goes _ _ c.in_ok-refuse_if-2.was (number_tested _ _ _ _ _ c.refuse_if-2.ensures c.is_finite.ensures c.is_finite-2.ensures) c.cubes_verdict.ensures))
