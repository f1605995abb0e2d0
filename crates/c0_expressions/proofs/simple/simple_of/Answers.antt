-- `simple_of`: what is left to show of its clauses.
use Rattle.std.proofs.Common.{false, rules, true, ◌&&◌, ◌∙◌, ◌≡◌}
use Rattle.c0_grammar.specs.Plan.{declared}
use Rattle.c0_cursor.specs.Seen.{starts_type}
use Rattle.c0_cursor.specs.Laws.{along, fails_as}
use Rattle.c0_expressions.proofs.Simples.{begun_by, expression_first, type_first}
use Rattle.c0_expressions.proofs.simple.simple_of.Goals as goal

pub returns-in-Err-clause-reads : goal.returns-in-Err-clause-reads
returns-in-Err-clause-reads c = λ next.
    let names = c.args.names.now in
    let y : (c.args.declares && starts_type names c.args.tokens.now) ≡ true = search rules in
    fails_as _ _ _ (type_first names c.args.declares c.args.up next c.args.tokens.now c.requires y)
    (c.in-Err.ensures.reads (declared names c.args.up next))

pub returns-then-begins_declaration-clause-reads : goal.returns-then-begins_declaration-clause-reads
returns-then-begins_declaration-clause-reads c = λ next.
    let names = c.args.names.now in
    let y : (c.args.declares && starts_type names c.args.tokens.now) ≡ true = search rules in
    along _ _ _ _ (type_first names c.args.declares c.args.up next c.args.tokens.now c.requires y
    ∙ c.in-Ok.ensures.reads (declared names c.args.up next))
    (c.declared.ensures.reads next)

pub returns-in-Err-expression-clause-reads : goal.returns-in-Err-expression-clause-reads
returns-in-Err-expression-clause-reads c = λ next.
    let names = c.args.names.now in
    let n : (c.args.declares && starts_type names c.args.tokens.now) ≡ false = search rules in
    fails_as _ _ _ (expression_first names c.args.declares c.args.up next c.args.tokens.now n)
    (c.in-Err-expression.ensures.reads (begun_by names c.args.up next))

pub returns-clause-reads : goal.returns-clause-reads
returns-clause-reads c = λ next.
    let names = c.args.names.now in
    let n : (c.args.declares && starts_type names c.args.tokens.now) ≡ false = search rules in
    along _ _ _ _ (expression_first names c.args.declares c.args.up next c.args.tokens.now n
    ∙ c.in-Ok-expression.ensures.reads (begun_by names c.args.up next))
    (c.end_of_simple.ensures.reads next)
