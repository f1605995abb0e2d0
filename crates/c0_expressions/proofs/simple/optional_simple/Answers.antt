-- `optional_simple`: what is left to show of its clauses.
use Rattle.std.proofs.Common.{Bool, List, None, Option, Some, false, rules, true, ℕ, ◌∙◌, ◌≡◌}
use Rattle.gc0_base.specs.declared.place.Place.{Place}
use Rattle.parsed_tree.specs.Tree.{SimpleTree}
use Rattle.parsed_tree.specs.Views.{simple_view}
use Rattle.c0_grammar.specs.Tokens.{sign_mark}
use Rattle.c0_grammar.specs.Plan.{Plan, await, simple}
use Rattle.c0_cursor.specs.Seen.{starts}
use Rattle.c0_cursor.specs.Laws.{fails_as, not_first, peek_await}
use Rattle.c0_lex.specs.declared.token.Symbol.{Symbol}
use Rattle.c0_expressions.proofs.simple.optional_simple.Goals as goal

abbrev none_of : (Option SimpleTree → ℕ → Plan) → Place → Plan
none_of next s = next None 0

abbrev one_of : (Option SimpleTree → ℕ → Plan) → SimpleTree → ℕ → Plan
one_of next x d = next (Some x) d

abbrev followed : Symbol → (Option SimpleTree → ℕ → Plan) → SimpleTree → ℕ → Plan
followed s next x d = await 0 (sign_mark s) (λ at. one_of next x d)

abbrev there : List (List ℕ) → Bool → ℕ → Symbol → (Option SimpleTree → ℕ → Plan) → Plan
there names declares up s next = simple names declares up (followed s next)

pub returns-in-Err-clause-reads : goal.returns-in-Err-clause-reads
returns-in-Err-clause-reads c = λ next.
    let names = c.args.names.now in
    let y : starts (sign_mark c.args.symbol) c.args.tokens.now ≡ true = search rules in
    fails_as _ _ _ (peek_await 0 (sign_mark c.args.symbol) (none_of next) (there names c.args.declares c.args.up c.args.symbol next) c.args.tokens.now y)
    (c.in-Err.ensures.reads (none_of next))

pub returns-then-begins-clause-reads : goal.returns-then-begins-clause-reads
returns-then-begins-clause-reads c = λ next.
    let names = c.args.names.now in
    let y : starts (sign_mark c.args.symbol) c.args.tokens.now ≡ true = search rules in
    peek_await 0 (sign_mark c.args.symbol) (none_of next) (there names c.args.declares c.args.up c.args.symbol next) c.args.tokens.now y
    ∙ c.in-Ok.ensures.reads (none_of next)

pub returns-in-Err-simple_of-clause-reads : goal.returns-in-Err-simple_of-clause-reads
returns-in-Err-simple_of-clause-reads c = λ next.
    let names = c.args.names.now in
    let n : starts (sign_mark c.args.symbol) c.args.tokens.now ≡ false = search rules in
    fails_as _ _ _ (not_first 0 (sign_mark c.args.symbol) (none_of next) (there names c.args.declares c.args.up c.args.symbol next) c.args.tokens.now n)
    (c.in-Err-simple_of.ensures.reads (followed c.args.symbol next))

pub returns-in-Err-expect-clause-reads : goal.returns-in-Err-expect-clause-reads
returns-in-Err-expect-clause-reads c = λ next.
    let names = c.args.names.now in
    let n : starts (sign_mark c.args.symbol) c.args.tokens.now ≡ false = search rules in
    let x = c.in-Ok-simple_of.value in
    fails_as _ _ _ (not_first 0 (sign_mark c.args.symbol) (none_of next) (there names c.args.declares c.args.up c.args.symbol next) c.args.tokens.now n
    ∙ c.in-Ok-simple_of.ensures.reads (followed c.args.symbol next))
    (c.in-Err-expect.ensures.reads (λ at. one_of next (simple_view x.0) x.1))

pub returns-clause-reads : goal.returns-clause-reads
returns-clause-reads c = λ next.
    let names = c.args.names.now in
    let n : starts (sign_mark c.args.symbol) c.args.tokens.now ≡ false = search rules in
    let x = c.in-Ok-simple_of.value in
    not_first 0 (sign_mark c.args.symbol) (none_of next) (there names c.args.declares c.args.up c.args.symbol next) c.args.tokens.now n
    ∙ c.in-Ok-simple_of.ensures.reads (followed c.args.symbol next)
    ∙ c.in-Ok-expect.ensures.reads (λ at. one_of next (simple_view x.0) x.1)
