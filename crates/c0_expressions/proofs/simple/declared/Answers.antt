-- `declared`: what is left to show of its clauses.
use Rattle.std.proofs.Common.{List, None, Some, ap, false, rules, sym, true, ℕ, ◌∙◌, ◌≡◌}
use Rattle.gc0_base.specs.declared.place.Place.{Place}
use Rattle.parsed_tree.specs.declared.expressions.Named.{Named}
use Rattle.parsed_tree.specs.declared.expressions.TypeName.{TypeName}
use Rattle.parsed_tree.specs.Tree.{ExprTree, SimpleTree, declare}
use Rattle.c0_grammar.specs.Tokens.{sign_mark}
use Rattle.c0_grammar.specs.Allowed.{code}
use Rattle.c0_grammar.specs.Plan.{Plan, expr, peek}
use Rattle.c0_cursor.specs.Seen.{reading, starts}
use Rattle.c0_cursor.specs.Laws.{fails_as, not_first, peek_await}
use Rattle.c0_lex.specs.declared.token.Symbol.TheVariants as mark
use Rattle.c0_expressions.proofs.simple.declared.Goals as goal

abbrev valued_by : TypeName → (SimpleTree → ℕ → Plan) → Named → Place → ExprTree → ℕ → Plan
valued_by t next n q e d = next (declare t n (Some (q, e))) d

abbrev equals : List (List ℕ) → ℕ → TypeName → (SimpleTree → ℕ → Plan) → Named → Place → Plan
equals names up t next n q = expr names code up (valued_by t next n q)

abbrev bare_of : TypeName → (SimpleTree → ℕ → Plan) → Named → Plan
bare_of t next n = next (declare t n None) 0

abbrev named : List (List ℕ) → ℕ → TypeName → (SimpleTree → ℕ → Plan) → Named → Plan
named names up t next n = peek 0 (sign_mark mark.Assign) (equals names up t next n) (bare_of t next n)

pub returns-in-Err-clause-reads : goal.returns-in-Err-clause-reads
returns-in-Err-clause-reads c = λ next. c.in-Err.ensures.reads (named c.args.names.now c.args.up c.args.typed next)

pub returns-then-not-begins-clause-reads : goal.returns-then-not-begins-clause-reads
returns-then-not-begins-clause-reads c = λ next.
    let names = c.args.names.now in
    let n = c.in-Ok.value.0 in
    let m : starts (sign_mark mark.Assign) c.in-Ok.value.1.now ≡ false = search rules in
    c.in-Ok.ensures.reads (named names c.args.up c.args.typed next)
    ∙ not_first 0 (sign_mark mark.Assign) (equals names c.args.up c.args.typed next n) (bare_of c.args.typed next n) c.in-Ok.value.1.now m
    ∙ ap (λ s. reading (next s 0) c.in-Ok.value.1.now) (sym c.in_ok-bare.ensures)

pub returns-in-Err-expect-clause-reads : goal.returns-in-Err-expect-clause-reads
returns-in-Err-expect-clause-reads c = λ next.
    let names = c.args.names.now in
    let n = c.in-Ok.value.0 in
    let y : starts (sign_mark mark.Assign) c.in-Ok.value.1.now ≡ true = search rules in
    fails_as _ _ _ (c.in-Ok.ensures.reads (named names c.args.up c.args.typed next)
    ∙ peek_await 0 (sign_mark mark.Assign) (equals names c.args.up c.args.typed next n) (bare_of c.args.typed next n) c.in-Ok.value.1.now y)
    (c.in-Err-expect.ensures.reads (equals names c.args.up c.args.typed next n))

pub returns-in-Err-expression-clause-reads : goal.returns-in-Err-expression-clause-reads
returns-in-Err-expression-clause-reads c = λ next.
    let names = c.args.names.now in
    let n = c.in-Ok.value.0 in
    let y : starts (sign_mark mark.Assign) c.in-Ok.value.1.now ≡ true = search rules in
    fails_as _ _ _ (c.in-Ok.ensures.reads (named names c.args.up c.args.typed next)
    ∙ peek_await 0 (sign_mark mark.Assign) (equals names c.args.up c.args.typed next n) (bare_of c.args.typed next n) c.in-Ok.value.1.now y
    ∙ c.in-Ok-expect.ensures.reads (equals names c.args.up c.args.typed next n))
    (c.in-Err-expression.ensures.reads (valued_by c.args.typed next n c.in-Ok-expect.value.0))

pub returns-clause-reads : goal.returns-clause-reads
returns-clause-reads c = λ next.
    let names = c.args.names.now in
    let n = c.in-Ok.value.0 in
    let y : starts (sign_mark mark.Assign) c.in-Ok.value.1.now ≡ true = search rules in
    c.in-Ok.ensures.reads (named names c.args.up c.args.typed next)
    ∙ peek_await 0 (sign_mark mark.Assign) (equals names c.args.up c.args.typed next n) (bare_of c.args.typed next n) c.in-Ok.value.1.now y
    ∙ c.in-Ok-expect.ensures.reads (equals names c.args.up c.args.typed next n)
    ∙ c.in-Ok-expression.ensures.reads (valued_by c.args.typed next n c.in-Ok-expect.value.0)
    ∙ ap (λ s. reading (next s c.in-Ok-expression.value.0.depth) c.in-Ok-expression.value.1.now) (sym c.in_ok-valued.ensures)
