use Rattle.std.proofs.Common.{rules, ◌+◌, get_or, ltb, eq-eqb, ne_eqb}
use Rattle.rules.specs.Answers.{bad_neighbour, bad_neighbours, bad_sides, bad_bytes}
use Rattle.entries.proofs.bad_bytes.Goals as goal

pub returns-then-log-at : goal.returns-then-log-at
unfolding bad_bytes bad_sides
returns-then-log-at c =
    let a = c.args in
    rw (eq-eqb (get_or a.log.now (a.at + 4) 0) 2 c.if-log-at.true) (c.any_bad.ensures (ltb 2) (λ x b l e. e))

pub returns : goal.returns
unfolding bad_bytes bad_neighbours
returns c =
    let a = c.args in
    rw (ne_eqb (get_or a.log.now (a.at + 4) 0) 2 c.if-log-at.false) (c.any_bad-2.ensures (bad_neighbour a.types) (λ x b l e. search rules))
