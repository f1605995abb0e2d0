-- `simple_behind`: what is left to show of its clauses.
use Rattle.std.proofs.Common.{ap, arith, sym, ℕ, ◌+◌, ◌∙◌, ◌≡◌}
use Rattle.gc0_base.specs.declared.place.Place.{Place}
use Rattle.parsed_tree.specs.Tree.{SimpleTree, StmtTree, simple_stmt}
use Rattle.parsed_tree.specs.Views.{simple_view}
use Rattle.c0_grammar.specs.Plan.{Plan, simple, simple_line}
use Rattle.c0_cursor.specs.Seen.{reading}
use Rattle.c0_cursor.specs.Laws.{fails_as}
use Rattle.c0_parse.proofs.statements.simple_behind.Goals as goal
use Rattle.gc0_base.specs.declared.limits.TheConstants.Limits as limits

abbrev made : (StmtTree → ℕ → Plan) → SimpleTree → ℕ → Place → Plan
made next s d e = next (simple_stmt s) (d + 1)

pub returns-then-up-ge-NESTING-clause-reads : goal.returns-then-up-ge-NESTING-clause-reads
returns-then-up-ge-NESTING-clause-reads c = λ next.
    let m : c.args.up + 1 ≡ limits.NESTING + 1 = omega arith in
    fails_as _ _ _ (ap (λ n. reading (simple c.args.names.now c.args.declares n (simple_line next)) c.args.tokens.now) m) (c.first_of_simple.ensures (simple_line next))

pub returns-in-Err-clause-reads : goal.returns-in-Err-clause-reads
returns-in-Err-clause-reads c = λ next.
    c.in-Err.ensures.reads (simple_line next)

pub returns-in-Err-expect-clause-reads : goal.returns-in-Err-expect-clause-reads
returns-in-Err-expect-clause-reads c = λ next.
    fails_as _ _ _ (c.in-Ok.ensures.reads (simple_line next))
    (c.in-Err-expect.ensures.reads (made next (simple_view c.in-Ok.value.0) c.in-Ok.value.1))

pub returns-clause-reads : goal.returns-clause-reads
returns-clause-reads c = λ next.
    c.in-Ok.ensures.reads (simple_line next)
    ∙ c.in-Ok-expect.ensures.reads (made next (simple_view c.in-Ok.value.0) c.in-Ok.value.1)
    ∙ ap (λ z. reading (next z (c.in-Ok.value.1 + 1)) c.in-Ok-expect.value.1.now) (sym c.simple_statement.ensures)
