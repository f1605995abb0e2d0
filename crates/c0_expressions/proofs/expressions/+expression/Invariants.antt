-- What gets less in the cycle of `expression`, and what holds at each turn of its loops.
use Rattle.std.proofs.Common.{◌≡◌, ◌+◌, ◌*◌, ◌≤◌, ℕ, length}
use Rattle.parsed_tree.specs.Tree.{ExprTrees}
use Rattle.parsed_tree.specs.Views.{exprs_view}
use Rattle.c0_grammar.specs.Plan.{Plan, more_args}
use Rattle.c0_cursor.specs.Seen.{reading, mode_view}
use Rattle.c0_expressions.specs.Read.{onto_args}
use Rattle.c0_expressions.proofs.expressions.+expression.Given as goal
use Rattle.gc0_base.specs.declared.limits.TheConstants.Limits as limits

abbrev pub decreases-expression : goal.decreases-expression
decreases-expression l = 16 * length l.tokens.now + 12

abbrev pub decreases-choice_behind : goal.decreases-choice_behind
decreases-choice_behind l = 16 * length l.tokens.now

abbrev pub decreases-choices : goal.decreases-choices
decreases-choices l = 16 * length l.tokens.now + 13

abbrev pub decreases-level : goal.decreases-level
decreases-level l = 16 * length l.tokens.now + 1 + l.rank

abbrev pub decreases-operators_behind : goal.decreases-operators_behind
decreases-operators_behind l = 16 * length l.tokens.now

abbrev pub decreases-unary_expression : goal.decreases-unary_expression
decreases-unary_expression l = 16 * length l.tokens.now

abbrev pub decreases-by_symbol : goal.decreases-by_symbol
decreases-by_symbol l = 16 * length l.tokens.now + 15

abbrev pub decreases-unary_behind : goal.decreases-unary_behind
decreases-unary_behind l = 16 * length l.tokens.now + 14

abbrev pub decreases-round_behind : goal.decreases-round_behind
decreases-round_behind l = 16 * length l.tokens.now + 13

abbrev pub decreases-by_name : goal.decreases-by_name
decreases-by_name l = 16 * length l.tokens.now + 1

abbrev pub decreases-called : goal.decreases-called
decreases-called l = 16 * length l.tokens.now

abbrev pub decreases-call_behind : goal.decreases-call_behind
decreases-call_behind l = 16 * length l.tokens.now + 14

abbrev pub decreases-arguments_of : goal.decreases-arguments_of
decreases-arguments_of l = 16 * length l.tokens.now + 13

abbrev pub decreases-more_arguments : goal.decreases-more_arguments
decreases-more_arguments l = 16 * length l.tokens.now

abbrev pub invariant-more_arguments-commas : goal.invariant-more_arguments-commas
invariant-more_arguments-commas l = record {
  reads : (next : ExprTrees → ℕ → Plan) → reading (more_args l.names (mode_view l.mode) l.up (onto_args (exprs_view l.fn.so_far) l.fn.depth next)) l.tokens ≡ reading (more_args l.names (mode_view l.mode) l.up (onto_args (exprs_view l.found) l.deepest next)) l.rest;
  room : l.up + l.deepest ≤ limits.NESTING;
  shorter : length l.rest ≤ length l.tokens;
}

abbrev pub decreases-more_arguments-commas : goal.decreases-more_arguments-commas
decreases-more_arguments-commas l = length l.rest
