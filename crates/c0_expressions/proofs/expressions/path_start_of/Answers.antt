-- `path_start_of`: what is left to show of its clauses.
use Rattle.std.proofs.Common.{◌∙◌, ap, sym}
use Rattle.gc0_base.specs.declared.place.Place.{Place}
use Rattle.c0_lex.specs.declared.token.Keyword.TheVariants as key
use Rattle.parsed_tree.specs.declared.expressions.Named.{Named}
use Rattle.parsed_tree.specs.Tree.{ExprTree, local, outcome}
use Rattle.c0_grammar.specs.Tokens.{word_mark}
use Rattle.c0_grammar.specs.Written.{spot}
use Rattle.c0_grammar.specs.Plan.{Plan, name}
use Rattle.c0_cursor.specs.Seen.{reading}
use Rattle.c0_cursor.specs.Laws.{fails_as, peek_await, not_first}
use Rattle.c0_expressions.proofs.expressions.path_start_of.Goals as goal

abbrev result_at : (ExprTree → Plan) → Place → Plan
result_at next at = next (outcome (spot at))

abbrev local_at : (ExprTree → Plan) → Named → Plan
local_at next n = next (local (spot n.place) n.name)

pub returns-in-Err-clause-reads : goal.returns-in-Err-clause-reads
returns-in-Err-clause-reads c = λ next.
    fails_as _ _ _ (peek_await 0 (word_mark key.Outcome) (result_at next) (name c.args.names.now (local_at next)) c.args.tokens.now (sym c.begins.ensures ∙ c.if-begins.true)) (c.in-Err.ensures.reads (result_at next))

pub returns-then-begins-clause-reads : goal.returns-then-begins-clause-reads
returns-then-begins-clause-reads c = λ next.
    peek_await 0 (word_mark key.Outcome) (result_at next) (name c.args.names.now (local_at next)) c.args.tokens.now (sym c.begins.ensures ∙ c.if-begins.true)
    ∙ c.in-Ok.ensures.reads (result_at next)
    ∙ ap (λ x. reading (next x) c.in-Ok.value.1.now) (sym c.in_ok-outcome_path.ensures)

pub returns-in-Err-free_name-clause-reads : goal.returns-in-Err-free_name-clause-reads
returns-in-Err-free_name-clause-reads c = λ next.
    fails_as _ _ _ (not_first 0 (word_mark key.Outcome) (result_at next) (name c.args.names.now (local_at next)) c.args.tokens.now (sym c.begins.ensures ∙ c.if-begins.false)) (c.in-Err-free_name.ensures.reads (local_at next))

pub returns-clause-reads : goal.returns-clause-reads
returns-clause-reads c = λ next.
    not_first 0 (word_mark key.Outcome) (result_at next) (name c.args.names.now (local_at next)) c.args.tokens.now (sym c.begins.ensures ∙ c.if-begins.false)
    ∙ c.in-Ok-free_name.ensures.reads (local_at next)
    ∙ ap (λ x. reading (next x) c.in-Ok-free_name.value.1.now) (sym c.in_ok-local_path.ensures)
