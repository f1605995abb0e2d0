-- `clause_of`: what is left to show of its clauses.
use Rattle.std.proofs.Common.{List, false, rules, true, ℕ, ◌∙◌, ◌≡◌}
use Rattle.gc0_base.specs.declared.place.Place.{Place}
use Rattle.parsed_tree.specs.Tree.{ClauseTree}
use Rattle.c0_grammar.specs.Tokens.{word_mark}
use Rattle.c0_grammar.specs.Plan.{Plan, await, clause_plan}
use Rattle.c0_cursor.specs.Seen.{starts}
use Rattle.c0_cursor.specs.Laws.{along, fails_as, not_first, peek_await}
use Rattle.c0_lex.specs.declared.token.Keyword.TheVariants as key
use Rattle.parsed_tree.specs.declared.items.Side.TheVariants as side
use Rattle.c0_parse.proofs.items.clause_of.Goals as goal

abbrev these : List (List ℕ) → (ClauseTree → ℕ → Plan) → Place → Plan
these names next at = clause_plan names next side.Requires at

abbrev those : List (List ℕ) → (ClauseTree → ℕ → Plan) → Place → Plan
those names next at = clause_plan names next side.Ensures at

abbrev second : List (List ℕ) → (ClauseTree → ℕ → Plan) → Plan
second names next = await 0 (word_mark key.Ensures) (those names next)

pub returns-in-Err-clause-reads : goal.returns-in-Err-clause-reads
returns-in-Err-clause-reads c = λ next.
    let names = c.args.names.now in
    let y : starts (word_mark key.Requires) c.args.tokens.now ≡ true = search rules in
    fails_as _ _ _ (peek_await 0 (word_mark key.Requires) (these names next) (second names next) c.args.tokens.now y)
    (c.in-Err.ensures.reads (these names next))

pub returns-then-begins-clause-reads : goal.returns-then-begins-clause-reads
returns-then-begins-clause-reads c = λ next.
    let names = c.args.names.now in
    let y : starts (word_mark key.Requires) c.args.tokens.now ≡ true = search rules in
    along _ _ _ _ (peek_await 0 (word_mark key.Requires) (these names next) (second names next) c.args.tokens.now y
    ∙ c.in-Ok.ensures.reads (these names next))
    (c.stated_clause.ensures.reads next)

pub returns-in-Err-expect-clause-reads : goal.returns-in-Err-expect-clause-reads
returns-in-Err-expect-clause-reads c = λ next.
    let names = c.args.names.now in
    let n : starts (word_mark key.Requires) c.args.tokens.now ≡ false = search rules in
    fails_as _ _ _ (not_first 0 (word_mark key.Requires) (these names next) (second names next) c.args.tokens.now n)
    (c.in-Err-expect.ensures.reads (those names next))

pub returns-clause-reads : goal.returns-clause-reads
returns-clause-reads c = λ next.
    let names = c.args.names.now in
    let n : starts (word_mark key.Requires) c.args.tokens.now ≡ false = search rules in
    along _ _ _ _ (not_first 0 (word_mark key.Requires) (these names next) (second names next) c.args.tokens.now n
    ∙ c.in-Ok-expect.ensures.reads (those names next))
    (c.stated_clause-2.ensures.reads next)
