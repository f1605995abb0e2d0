-- The cycle of `arrows_behind`: what is left to show of its clauses.
use Rattle.std.proofs.Common.{rules, ◌≡◌, ◌∙◌, ◌∷◌, ◌+◌, ap, sym, arith, true}
use Rattle.c0_lex.specs.declared.token.Symbol.TheVariants as mark
use Rattle.parsed_tree.specs.Views.{expr_view}
use Rattle.c0_grammar.specs.Tokens.{sign_mark}
use Rattle.c0_grammar.specs.Written.{pointed}
use Rattle.c0_grammar.specs.Plan.{is, arrows}
use Rattle.c0_cursor.specs.Seen.{reading}
use Rattle.c0_grammar.specs.Seen.{what_of}
use Rattle.c0_cursor.specs.Laws.{fails_as, along}
use Rattle.c0_expressions.proofs.Steps.{arrow_on, both}
use Rattle.c0_expressions.proofs.expressions.+arrows_behind.Goals as goal

pub returns-in-Err-clause-reads : goal.returns-in-Err-clause-reads
returns-in-Err-clause-reads t c = λ next.
    let token = c.in-Some.token.now in
    let e = expr_view c.args.e.expr in
    let d = c.args.e.depth in
    let s : c.args.tokens.now ≡ token ∷ c.in-Some.behind.now = search rules in
    let i : is (sign_mark mark.Arrow) (what_of token.kind token.text.now) ≡ true = search rules in
    fails_as _ _ _ (ap (reading (arrows c.args.up e d next)) s ∙ arrow_on c.args.up e d next token c.in-Some.behind.now i (omega arith))
    (c.in-Err.ensures.reads (λ n. arrows c.args.up (pointed token.place e n) (d + 1) next))

pub returns-clause-reads : goal.returns-clause-reads
returns-clause-reads t c = λ next.
    let token = c.in-Some.token.now in
    let e = expr_view c.args.e.expr in
    let d = c.args.e.depth in
    let s : c.args.tokens.now ≡ token ∷ c.in-Some.behind.now = search rules in
    let i : is (sign_mark mark.Arrow) (what_of token.kind token.text.now) ≡ true = search rules in
    along _ _ _ _
    (ap (reading (arrows c.args.up e d next)) s ∙ arrow_on c.args.up e d next token c.in-Some.behind.now i (omega arith)
    ∙ c.in-Ok.ensures.reads (λ n. arrows c.args.up (pointed token.place e n) (d + 1) next)
    ∙ both (λ x n. reading (arrows c.args.up x n next) c.in-Ok.value.1.now) _ _ _ _ (sym c.in_ok-longer.ensures.expr) (sym c.in_ok-longer.ensures.depth))
    (c.arrows_behind.ensures.reads next)
