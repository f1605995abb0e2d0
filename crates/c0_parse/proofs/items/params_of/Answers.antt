-- `params_of`: what is left to show of its clauses.
use Rattle.std.proofs.Common.{List, [], ap, false, rules, sym, true, ℕ, ◌∙◌, ◌∷◌, ◌≡◌}
use Rattle.gc0_base.specs.declared.place.Place.{Place}
use Rattle.parsed_tree.specs.declared.items.Param.{Param}
use Rattle.c0_grammar.specs.Tokens.{sign_mark}
use Rattle.c0_grammar.specs.Plan.{Plan, many, param_loop, param_plan}
use Rattle.c0_cursor.specs.Seen.{reading, starts}
use Rattle.c0_parse.specs.Read.{params_then}
use Rattle.c0_cursor.specs.Laws.{along, fails_as, not_first, peek_await}
use Rattle.c0_lex.specs.declared.token.Symbol.TheVariants as mark
use Rattle.c0_parse.proofs.items.params_of.Goals as goal

abbrev none_of : (List Param → Plan) → Place → Plan
none_of next b = next []

abbrev first_of : List (List ℕ) → (List Param → Plan) → Param → Plan
first_of names next p = many (param_loop names) (params_then (p ∷ []) next)

pub returns-in-Err-clause-reads : goal.returns-in-Err-clause-reads
returns-in-Err-clause-reads c = λ next.
    let names = c.args.names.now in
    let ts = c.args.tokens.now in
    let y : starts (sign_mark mark.CloseParen) ts ≡ true = search rules in
    fails_as _ _ _ (peek_await 0 (sign_mark mark.CloseParen) (none_of next) (param_plan names (first_of names next)) ts y)
    (c.in-Err.ensures.reads (none_of next))

pub returns-then-begins-clause-reads : goal.returns-then-begins-clause-reads
returns-then-begins-clause-reads c = λ next.
    let names = c.args.names.now in
    let ts = c.args.tokens.now in
    let y : starts (sign_mark mark.CloseParen) ts ≡ true = search rules in
    peek_await 0 (sign_mark mark.CloseParen) (none_of next) (param_plan names (first_of names next)) ts y
    ∙ c.in-Ok.ensures.reads (none_of next)
    ∙ ap (λ z. reading (next z) c.in-Ok.value.1.now) (sym c.new.ensures)

pub returns-in-Err-param_of-clause-reads : goal.returns-in-Err-param_of-clause-reads
returns-in-Err-param_of-clause-reads c = λ next.
    let names = c.args.names.now in
    let ts = c.args.tokens.now in
    let n : starts (sign_mark mark.CloseParen) ts ≡ false = search rules in
    fails_as _ _ _ (not_first 0 (sign_mark mark.CloseParen) (none_of next) (param_plan names (first_of names next)) ts n)
    (c.in-Err-param_of.ensures.reads (first_of names next))

pub returns-clause-reads : goal.returns-clause-reads
returns-clause-reads c = λ next.
    let names = c.args.names.now in
    let ts = c.args.tokens.now in
    let n : starts (sign_mark mark.CloseParen) ts ≡ false = search rules in
    along _ _ _ _ (not_first 0 (sign_mark mark.CloseParen) (none_of next) (param_plan names (first_of names next)) ts n
    ∙ c.in-Ok-param_of.ensures.reads (first_of names next)
    ∙ ap (λ z. reading (many (param_loop names) (params_then z next)) c.in-Ok-param_of.value.1.now) (sym c.in_ok-found.ensures))
    (c.params_behind.ensures.reads next)
