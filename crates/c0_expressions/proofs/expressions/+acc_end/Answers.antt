-- The cycle of `acc_end`: what is left to show of its clauses.
use Rattle.std.proofs.Common.{rules, ◌≡◌, ◌∙◌, ◌∷◌, ◌+◌, ap, sym, arith}
use Rattle.c0_lex.specs.declared.token.TokenKind.TheVariants as kind
use Rattle.c0_lex.specs.declared.token.Symbol.TheVariants as mark
use Rattle.parsed_tree.specs.Views.{expr_view}
use Rattle.c0_grammar.specs.Written.{pointed}
use Rattle.c0_grammar.specs.Plan.{acc_arrows}
use Rattle.c0_cursor.specs.Seen.{reading}
use Rattle.c0_cursor.specs.Laws.{fails_as, along}
use Rattle.c0_expressions.proofs.Steps.{acc_on}
use Rattle.c0_expressions.proofs.expressions.+acc_end.Goals as goal

pub returns-in-Err-clause-reads : goal.returns-in-Err-clause-reads
returns-in-Err-clause-reads t c = λ next.
    let token = c.in-Some.token.now in
    let x = expr_view c.args.path in
    let s : c.args.tokens.now ≡ token ∷ c.in-Some.behind.now = search rules in
    let k : token.kind ≡ kind.Symbol mark.Arrow = search rules in
    fails_as _ _ _ (ap (reading (acc_arrows c.args.up x c.args.depth c.args.at c.args.field next)) s ∙ acc_on c.args.up x c.args.depth c.args.at c.args.field next token c.in-Some.behind.now k (omega arith))
    (c.in-Err.ensures.reads (λ g. acc_arrows c.args.up (pointed c.args.at x c.args.field) (c.args.depth + 1) token.place g next))

pub returns-in_ok-longer-in-Symbol-Arrow-clause-reads : goal.returns-in_ok-longer-in-Symbol-Arrow-clause-reads
returns-in_ok-longer-in-Symbol-Arrow-clause-reads t c = λ next.
    let token = c.in-Some.token.now in
    let x = expr_view c.args.path in
    let s : c.args.tokens.now ≡ token ∷ c.in-Some.behind.now = search rules in
    let k : token.kind ≡ kind.Symbol mark.Arrow = search rules in
    along _ _ _ _
    (ap (reading (acc_arrows c.args.up x c.args.depth c.args.at c.args.field next)) s ∙ acc_on c.args.up x c.args.depth c.args.at c.args.field next token c.in-Some.behind.now k (omega arith)
    ∙ c.in-Ok.ensures.reads (λ g. acc_arrows c.args.up (pointed c.args.at x c.args.field) (c.args.depth + 1) token.place g next)
    ∙ ap (λ y. reading (acc_arrows c.args.up y (c.args.depth + 1) token.place c.in-Ok.value.0 next) c.in-Ok.value.1.now) (sym c.in_ok-longer-in-Symbol-Arrow.ensures))
    (c.acc_end.ensures.reads next)
