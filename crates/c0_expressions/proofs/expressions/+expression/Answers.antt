-- The cycle of `expression`: what is left to show of its clauses.
use Rattle.std.proofs.Common.{rules, ◌≡◌, ◌∙◌, ◌∷◌, ℕ, ◌+◌, ◌-◌, max, ap, sym, arith, true, false, not, ◌&&◌, List, Some}
use Rattle.gc0_base.specs.declared.place.Place.{Place}
use Rattle.c0_lex.specs.declared.token.Token.{Token}
use Rattle.c0_lex.specs.declared.token.TokenKind.TheVariants as kind
use Rattle.c0_lex.specs.declared.token.Symbol.{Symbol}
use Rattle.c0_lex.specs.declared.token.Symbol.TheVariants as mark
use Rattle.parsed_tree.specs.Tree.{ExprTree, number, local, unary, from, call, ExprTrees, no_exprs, expr_and}
use Rattle.parsed_tree.specs.Views.{expr_view, exprs_view}
use Rattle.c0_grammar.specs.Tokens.{sign_mark, is_among}
use Rattle.c0_grammar.specs.Written.{spot, joined, chosen}
use Rattle.c0_grammar.specs.Allowed.{Mode, code, has_calls, inside, has, left_fits, condition_fits}
use Rattle.c0_grammar.specs.Plan.{is, of_rank, operator_at, Plan, await, operand, arrows, ops, quest, more_args, climb, expr, primary, argument, arguments, called_plan, behind_name, round_plan, sign_step, node, step_if}
use Rattle.c0_cursor.specs.Seen.{starts, mode_view, reading, stepping}
use Rattle.c0_grammar.specs.Seen.{what_of}
use Rattle.c0_expressions.specs.Read.{joins_args, onto_args, text_called}
use Rattle.c0_cursor.specs.Laws.{fails_as, along, step_on, peek_await, not_first, text_first, no_text}
use Rattle.c0_expressions.proofs.Steps.{climb_less, op_on, quest_on, operand_at, args_more, args_end, onto_more, onto_none, exprs_pushed, name_alone, instance_behind, name_calls, name_instance, both}
use Rattle.c0_expressions.proofs.expressions.+expression.Goals as goal

-- ---- a whole expression
abbrev chosen_behind : ExprTree → ℕ → (ExprTree → ℕ → Plan) → Place → ExprTree → ℕ → ExprTree → ℕ → Plan
chosen_behind e d next at y dy z dz = next (chosen at e y z) (max d (max dy dz) + 1)

pub expression-returns-in-Err-clause-reads : goal.expression-returns-in-Err-clause-reads
expression-returns-in-Err-clause-reads t c = λ next. c.in-Err.ensures.reads (λ e d. quest c.args.names.now (mode_view c.args.mode) c.args.up e d next)

pub expression-returns-clause-reads : goal.expression-returns-clause-reads
expression-returns-clause-reads t c = λ next.
    along _ _ _ _ (c.in-Ok.ensures.reads (λ e d. quest c.args.names.now (mode_view c.args.mode) c.args.up e d next)) (c.choice_behind.ensures.reads next)

pub choice_behind-returns-in-Err-clause-reads : goal.choice_behind-returns-in-Err-clause-reads
choice_behind-returns-in-Err-clause-reads t c = λ next.
    let names = c.args.names.now in
    let m = mode_view c.args.mode in
    let u = c.args.up in
    let e = expr_view c.args.test.expr in
    let d = c.args.test.depth in
    let token = c.in-Some.token.now in
    let M : ExprTree → ℕ → ExprTree → ℕ → Plan = chosen_behind e d next token.place in
    let s : c.args.tokens.now ≡ token ∷ c.in-Some.behind.now = search rules in
    let i : is (sign_mark mark.Question) (what_of token.kind token.text.now) ≡ true = search rules in
    let f : condition_fits m e ≡ true = search rules in
    fails_as _ _ _ (ap (reading (quest names m u e d next)) s ∙ quest_on names m u e d next token c.in-Some.behind.now i f (omega arith)) (c.in-Err.ensures.reads M)

pub choice_behind-returns-clause-reads : goal.choice_behind-returns-clause-reads
choice_behind-returns-clause-reads t c = λ next.
    let names = c.args.names.now in
    let m = mode_view c.args.mode in
    let u = c.args.up in
    let e = expr_view c.args.test.expr in
    let d = c.args.test.depth in
    let token = c.in-Some.token.now in
    let M : ExprTree → ℕ → ExprTree → ℕ → Plan = chosen_behind e d next token.place in
    let s : c.args.tokens.now ≡ token ∷ c.in-Some.behind.now = search rules in
    let i : is (sign_mark mark.Question) (what_of token.kind token.text.now) ≡ true = search rules in
    let f : condition_fits m e ≡ true = search rules in
    ap (reading (quest names m u e d next)) s ∙ quest_on names m u e d next token c.in-Some.behind.now i f (omega arith)
    ∙ c.in-Ok.ensures.reads M
    ∙ both (λ w n. reading (next w n) c.in-Ok.value.2.now) _ _ _ _ (sym c.in_ok-choose.ensures.expr) (sym c.in_ok-choose.ensures.depth)

pub choices-returns-in-Err-clause-reads : goal.choices-returns-in-Err-clause-reads
choices-returns-in-Err-clause-reads t c = λ next.
    let names = c.args.names.now in
    let m = mode_view c.args.mode in
    let u = c.args.up in
    let N : ExprTree → ℕ → Plan = λ y dy. await 0 (sign_mark mark.Colon) (λ p. expr names m u (next y dy)) in
    c.in-Err.ensures.reads N

pub choices-returns-in-Err-expect-clause-reads : goal.choices-returns-in-Err-expect-clause-reads
choices-returns-in-Err-expect-clause-reads t c = λ next.
    let names = c.args.names.now in
    let m = mode_view c.args.mode in
    let u = c.args.up in
    let N : ExprTree → ℕ → Plan = λ y dy. await 0 (sign_mark mark.Colon) (λ p. expr names m u (next y dy)) in
    let y = c.in-Ok.value.0 in
    fails_as _ _ _ (c.in-Ok.ensures.reads N) (c.in-Err-expect.ensures.reads (λ p. expr names m u (next (expr_view y.expr) y.depth)))

pub choices-returns-in-Err-expression-clause-reads : goal.choices-returns-in-Err-expression-clause-reads
choices-returns-in-Err-expression-clause-reads t c = λ next.
    let names = c.args.names.now in
    let m = mode_view c.args.mode in
    let u = c.args.up in
    let N : ExprTree → ℕ → Plan = λ y dy. await 0 (sign_mark mark.Colon) (λ p. expr names m u (next y dy)) in
    let y = c.in-Ok.value.0 in
    fails_as _ _ _ (c.in-Ok.ensures.reads N ∙ c.in-Ok-expect.ensures.reads (λ p. expr names m u (next (expr_view y.expr) y.depth)))
    (c.in-Err-expression.ensures.reads (next (expr_view y.expr) y.depth))

pub choices-returns-clause-reads : goal.choices-returns-clause-reads
choices-returns-clause-reads t c = λ next.
    let names = c.args.names.now in
    let m = mode_view c.args.mode in
    let u = c.args.up in
    let N : ExprTree → ℕ → Plan = λ y dy. await 0 (sign_mark mark.Colon) (λ p. expr names m u (next y dy)) in
    let y = c.in-Ok.value.0 in
    c.in-Ok.ensures.reads N ∙ c.in-Ok-expect.ensures.reads (λ p. expr names m u (next (expr_view y.expr) y.depth))
    ∙ c.in-Ok-expression.ensures.reads (next (expr_view y.expr) y.depth)

-- ---- operators
pub level-returns-then-rank-eq0-clause-reads : goal.level-returns-then-rank-eq0-clause-reads
level-returns-then-rank-eq0-clause-reads t c = λ next.
    along _ _ _ _ (ap (λ r. reading (climb r c.args.names.now (mode_view c.args.mode) c.args.up next) c.args.tokens.now) c.if-rank-eq0.true) (c.unary_expression.ensures.reads next)

pub level-returns-in-Err-clause-reads : goal.level-returns-in-Err-clause-reads
level-returns-in-Err-clause-reads t c = λ next.
    fails_as _ _ _ (ap (λ q. reading q c.args.tokens.now) (climb_less c.args.rank c.args.names.now (mode_view c.args.mode) c.args.up next c.if-rank-eq0.false))
    (c.in-Err.ensures.reads (λ e d. ops (c.args.rank - 1) c.args.names.now (mode_view c.args.mode) c.args.up e d next))

pub level-returns-clause-reads : goal.level-returns-clause-reads
level-returns-clause-reads t c = λ next.
    along _ _ _ _
    (ap (λ q. reading q c.args.tokens.now) (climb_less c.args.rank c.args.names.now (mode_view c.args.mode) c.args.up next c.if-rank-eq0.false)
    ∙ c.in-Ok.ensures.reads (λ e d. ops (c.args.rank - 1) c.args.names.now (mode_view c.args.mode) c.args.up e d next))
    (c.operators_behind.ensures.reads next)

pub operators_behind-returns-in-Err-clause-reads : goal.operators_behind-returns-in-Err-clause-reads
operators_behind-returns-in-Err-clause-reads t c = λ next.
    let names = c.args.names.now in
    let m = mode_view c.args.mode in
    let r = c.args.rank in
    let u = c.args.up in
    let e = expr_view c.args.left.expr in
    let d = c.args.left.depth in
    let o = c.in-Some-operator_of_rank.operator in
    let token = c.in-Some.token.now in
    let N : ExprTree → ℕ → Plan = λ e' d'. ops r names m u (joined token.place o e e') (max d d' + 1) next in
    let s : c.args.tokens.now ≡ token ∷ c.in-Some.behind.now = search rules in
    let i : of_rank r (operator_at (what_of token.kind token.text.now)) ≡ Some o = search rules in
    let f : (has m o && left_fits m o e) ≡ true = search rules in
    fails_as _ _ _
    (ap (reading (ops r names m u e d next)) s ∙ op_on r names m u e d next o token c.in-Some.behind.now i f (omega arith)
    ∙ ap (λ n. reading (climb r names n (u + 1) N) c.in-Some.behind.now) (sym c.right_of.ensures))
    (c.in-Err.ensures.reads N)

pub operators_behind-returns-clause-reads : goal.operators_behind-returns-clause-reads
operators_behind-returns-clause-reads t c = λ next.
    let names = c.args.names.now in
    let m = mode_view c.args.mode in
    let r = c.args.rank in
    let u = c.args.up in
    let e = expr_view c.args.left.expr in
    let d = c.args.left.depth in
    let o = c.in-Some-operator_of_rank.operator in
    let token = c.in-Some.token.now in
    let N : ExprTree → ℕ → Plan = λ e' d'. ops r names m u (joined token.place o e e') (max d d' + 1) next in
    let s : c.args.tokens.now ≡ token ∷ c.in-Some.behind.now = search rules in
    let i : of_rank r (operator_at (what_of token.kind token.text.now)) ≡ Some o = search rules in
    let f : (has m o && left_fits m o e) ≡ true = search rules in
    along _ _ _ _
    (ap (reading (ops r names m u e d next)) s ∙ op_on r names m u e d next o token c.in-Some.behind.now i f (omega arith)
    ∙ ap (λ n. reading (climb r names n (u + 1) N) c.in-Some.behind.now) (sym c.right_of.ensures)
    ∙ c.in-Ok.ensures.reads N
    ∙ both (λ x n. reading (ops r names m u x n next) c.in-Ok.value.1.now) _ _ _ _ (sym c.in_ok-joined.ensures.expr) (sym c.in_ok-joined.ensures.depth))
    (c.operators_behind.ensures.reads next)

-- ---- an operand by its first token
pub unary_expression-returns-in_ok-number-in-Number-clause-reads : goal.unary_expression-returns-in_ok-number-in-Number-clause-reads
unary_expression-returns-in_ok-number-in-Number-clause-reads t c = λ next.
    let names = c.args.names.now in
    let m = mode_view c.args.mode in
    let u = c.args.up in
    let token = c.in-Some.token.now in
    let ts = c.in-Some.rest.now in
    let s : c.args.tokens.now ≡ token ∷ ts = search rules in
    let k : token.kind ≡ kind.Number c.in-Number.word = search rules in
    along _ _ _ _
    (ap (reading (operand names m u next)) s ∙ operand_at names m u next token ts (kind.Number c.in-Number.word) k ∙ step_on u (primary m u next (number (spot token.place) c.in-Number.word) 0) token.place ts c.requires
    ∙ both (λ x d. reading (primary m u next x d) ts) _ _ _ _ (sym c.in_ok-number-in-Number.ensures.expr) (sym c.in_ok-number-in-Number.ensures.depth))
    (c.primary_behind.ensures.reads next)

pub unary_expression-returns-in-Name-clause-reads : goal.unary_expression-returns-in-Name-clause-reads
unary_expression-returns-in-Name-clause-reads t c = λ next.
    let names = c.args.names.now in
    let m = mode_view c.args.mode in
    let u = c.args.up in
    let token = c.in-Some.token.now in
    let ts = c.in-Some.rest.now in
    let s : c.args.tokens.now ≡ token ∷ ts = search rules in
    let k : token.kind ≡ kind.Name = search rules in
    let f : is_among names token.text.now ≡ false = search rules in
    along _ _ _ _
    (ap (reading (operand names m u next)) s ∙ operand_at names m u next token ts (kind.Name) k
    ∙ ap (λ b. stepping (step_if (not b) (node u (behind_name names m u next token.place token.text.now))) token.place ts) f
    ∙ step_on u (behind_name names m u next token.place token.text.now) token.place ts c.requires)
    (c.by_name.ensures.reads next)

pub unary_expression-returns-in-Keyword-clause-reads : goal.unary_expression-returns-in-Keyword-clause-reads
unary_expression-returns-in-Keyword-clause-reads t c = λ next.
    let names = c.args.names.now in
    let m = mode_view c.args.mode in
    let u = c.args.up in
    let token = c.in-Some.token.now in
    let ts = c.in-Some.rest.now in
    let s : c.args.tokens.now ≡ token ∷ ts = search rules in
    let k : token.kind ≡ kind.Keyword c.in-Keyword.keyword = search rules in
    along _ _ _ _ (ap (reading (operand names m u next)) s ∙ operand_at names m u next token ts (kind.Keyword c.in-Keyword.keyword) k) (c.by_keyword.ensures.reads next)

pub unary_expression-returns-in-Symbol-clause-reads : goal.unary_expression-returns-in-Symbol-clause-reads
unary_expression-returns-in-Symbol-clause-reads t c = λ next.
    let names = c.args.names.now in
    let m = mode_view c.args.mode in
    let u = c.args.up in
    let token = c.in-Some.token.now in
    let ts = c.in-Some.rest.now in
    let s : c.args.tokens.now ≡ token ∷ ts = search rules in
    let k : token.kind ≡ kind.Symbol c.in-Symbol.symbol = search rules in
    along _ _ _ _ (ap (reading (operand names m u next)) s ∙ operand_at names m u next token ts (kind.Symbol c.in-Symbol.symbol) k) (c.by_symbol.ensures.reads next)

-- ---- a symbol
by_symbol_is : (names : List (List ℕ)) (m : Mode) (up : ℕ) (next : ExprTree → ℕ → Plan) (at : Place) (ts : List Token) (s s' : Symbol) → s ≡ s' → stepping (sign_step names m up next s at) at ts ≡ stepping (sign_step names m up next s' at) at ts
by_symbol_is names m up next at ts s s' e = ap (λ z. stepping (sign_step names m up next z at) at ts) e

pub by_symbol-returns-in-Minus-clause-reads : goal.by_symbol-returns-in-Minus-clause-reads
by_symbol-returns-in-Minus-clause-reads t c = λ next.
    along _ _ _ _ (by_symbol_is c.args.names.now (mode_view c.args.mode) c.args.up next c.args.place c.args.tokens.now c.args.symbol mark.Minus c.in-Minus.is) (c.unary_behind.ensures.reads next)

pub by_symbol-returns-in-Tilde-clause-reads : goal.by_symbol-returns-in-Tilde-clause-reads
by_symbol-returns-in-Tilde-clause-reads t c = λ next.
    along _ _ _ _ (by_symbol_is c.args.names.now (mode_view c.args.mode) c.args.up next c.args.place c.args.tokens.now c.args.symbol mark.Tilde c.in-Tilde.is) (c.unary_behind-in-Tilde.ensures.reads next)

pub by_symbol-returns-in-Not-clause-reads : goal.by_symbol-returns-in-Not-clause-reads
by_symbol-returns-in-Not-clause-reads t c = λ next.
    along _ _ _ _ (by_symbol_is c.args.names.now (mode_view c.args.mode) c.args.up next c.args.place c.args.tokens.now c.args.symbol mark.Not c.in-Not.is) (c.unary_behind-in-Not.ensures.reads next)

pub by_symbol-returns-in-OpenParen-clause-reads : goal.by_symbol-returns-in-OpenParen-clause-reads
by_symbol-returns-in-OpenParen-clause-reads t c = λ next.
    along _ _ _ _ (by_symbol_is c.args.names.now (mode_view c.args.mode) c.args.up next c.args.place c.args.tokens.now c.args.symbol mark.OpenParen c.in-OpenParen.is) (c.round_behind.ensures.reads next)

-- ---- a unary operator, and parentheses
pub unary_behind-returns-in-Err-clause-reads : goal.unary_behind-returns-in-Err-clause-reads
unary_behind-returns-in-Err-clause-reads t c = λ next.
    let names = c.args.names.now in
    let m = mode_view c.args.mode in
    let u = c.args.up in
    let N : ExprTree → ℕ → Plan = λ e d. next (unary (spot c.args.place) c.args.operator e) (d + 1) in
    fails_as _ _ _
    (step_on (u + 1) (operand names (inside m) (u + 1) N) c.args.place c.args.tokens.now (omega arith) ∙ ap (λ n. reading (operand names n (u + 1) N) c.args.tokens.now) (sym c.inside.ensures))
    (c.in-Err.ensures.reads N)

pub unary_behind-returns-clause-reads : goal.unary_behind-returns-clause-reads
unary_behind-returns-clause-reads t c = λ next.
    let names = c.args.names.now in
    let m = mode_view c.args.mode in
    let u = c.args.up in
    let N : ExprTree → ℕ → Plan = λ e d. next (unary (spot c.args.place) c.args.operator e) (d + 1) in
    step_on (u + 1) (operand names (inside m) (u + 1) N) c.args.place c.args.tokens.now (omega arith) ∙ ap (λ n. reading (operand names n (u + 1) N) c.args.tokens.now) (sym c.inside.ensures)
    ∙ c.in-Ok.ensures.reads N
    ∙ both (λ x d. reading (next x d) c.in-Ok.value.1.now) _ _ _ _ (sym c.in_ok-apply.ensures.expr) (sym c.in_ok-apply.ensures.depth)

pub round_behind-returns-in-Err-clause-reads : goal.round_behind-returns-in-Err-clause-reads
round_behind-returns-in-Err-clause-reads t c = λ next.
    let names = c.args.names.now in
    let m = mode_view c.args.mode in
    let N : ExprTree → ℕ → Plan = λ e d. await 0 (sign_mark mark.CloseParen) (λ b. primary m c.args.up next (from c.args.place e) (d + 1)) in
    fails_as _ _ _ (step_on (c.args.up + 1) (round_plan names m c.args.up next c.args.place) c.args.place c.args.tokens.now (omega arith)) (c.in-Err.ensures.reads N)

pub round_behind-returns-in-Err-expect-clause-reads : goal.round_behind-returns-in-Err-expect-clause-reads
round_behind-returns-in-Err-expect-clause-reads t c = λ next.
    let names = c.args.names.now in
    let m = mode_view c.args.mode in
    let x = c.in-Ok.value.0 in
    let N : ExprTree → ℕ → Plan = λ e d. await 0 (sign_mark mark.CloseParen) (λ b. primary m c.args.up next (from c.args.place e) (d + 1)) in
    fails_as _ _ _ (step_on (c.args.up + 1) (round_plan names m c.args.up next c.args.place) c.args.place c.args.tokens.now (omega arith) ∙ c.in-Ok.ensures.reads N)
    (c.in-Err-expect.ensures.reads (λ b. primary m c.args.up next (from c.args.place (expr_view x.expr)) (x.depth + 1)))

pub round_behind-returns-clause-reads : goal.round_behind-returns-clause-reads
round_behind-returns-clause-reads t c = λ next.
    let names = c.args.names.now in
    let m = mode_view c.args.mode in
    let x = c.in-Ok.value.0 in
    let N : ExprTree → ℕ → Plan = λ e d. await 0 (sign_mark mark.CloseParen) (λ b. primary m c.args.up next (from c.args.place e) (d + 1)) in
    along _ _ _ _
    (step_on (c.args.up + 1) (round_plan names m c.args.up next c.args.place) c.args.place c.args.tokens.now (omega arith) ∙ c.in-Ok.ensures.reads N
    ∙ c.in-Ok-expect.ensures.reads (λ b. primary m c.args.up next (from c.args.place (expr_view x.expr)) (x.depth + 1))
    ∙ both (λ y d. reading (primary m c.args.up next y d) c.in-Ok-expect.value.1.now) _ _ _ _ (sym c.in_ok-starting_at.ensures.expr) (sym c.in_ok-starting_at.ensures.depth))
    (c.primary_behind.ensures.reads next)

-- ---- names and calls
pub by_name-returns-clause-reads : goal.by_name-returns-clause-reads
by_name-returns-clause-reads t c = λ next.
    let at = c.args.place in
    let f : (has_calls (mode_view c.args.mode) && starts (sign_mark mark.OpenParen) c.args.tokens.now) ≡ false = sym c.begins_call.ensures ∙ c.if-begins_call.false in
    let v : c.in_ok-name.name ≡ c.args.name.now = search rules in
    along _ _ _ _
    (name_alone c.args.names.now (mode_view c.args.mode) c.args.up next at c.args.name.now c.args.tokens.now f
    ∙ both (λ x d. reading (arrows c.args.up x d next) c.args.tokens.now) _ _ _ _ (ap (local (spot at)) (sym v) ∙ sym c.in_ok-local.ensures.expr) (sym c.in_ok-local.ensures.depth))
    (c.arrows_behind.ensures.reads next)

pub called-returns-then-is_code-clause-reads : goal.called-returns-then-is_code-clause-reads
called-returns-then-is_code-clause-reads t c = λ next.
    let names = c.args.names.now in
    let m = mode_view c.args.mode in
    let n = c.args.name.now in
    let token = c.in-Some.token.now in
    let s : c.args.tokens.now ≡ token ∷ c.in-Some.rest.now = search rules in
    let i : (has_calls m && is (sign_mark mark.OpenParen) (what_of token.kind token.text.now)) ≡ true = sym (ap (λ ts. has_calls m && starts (sign_mark mark.OpenParen) ts) s) ∙ c.requires.begins in
    let v : c.in_ok-name.name ≡ n = search rules in
    along _ _ _ _
    (ap (reading (behind_name names m c.args.up next c.args.place n)) s
    ∙ name_calls names m c.args.up next c.args.place n token c.in-Some.rest.now i (sym c.is_code.ensures ∙ c.if-is_code.true) (omega arith)
    ∙ ap (λ l. reading (called_plan names c.args.up next c.args.place l) c.in-Some.rest.now) (sym v))
    (c.call_behind.ensures.reads next)

pub called-returns-in-Err-clause-reads : goal.called-returns-in-Err-clause-reads
called-returns-in-Err-clause-reads t c = λ next.
    let names = c.args.names.now in
    let m = mode_view c.args.mode in
    let n = c.args.name.now in
    let token = c.in-Some.token.now in
    let s : c.args.tokens.now ≡ token ∷ c.in-Some.rest.now = search rules in
    let i : (has_calls m && is (sign_mark mark.OpenParen) (what_of token.kind token.text.now)) ≡ true = sym (ap (λ ts. has_calls m && starts (sign_mark mark.OpenParen) ts) s) ∙ c.requires.begins in
    fails_as _ _ _
    (ap (reading (behind_name names m c.args.up next c.args.place n)) s
    ∙ name_instance names m c.args.up next c.args.place n token c.in-Some.rest.now i (sym c.is_code.ensures ∙ c.if-is_code.false) (omega arith))
    (c.in-Err.ensures.reads (instance_behind names c.args.up next c.args.place n))

pub called-returns-clause-reads : goal.called-returns-clause-reads
called-returns-clause-reads t c = λ next.
    let names = c.args.names.now in
    let m = mode_view c.args.mode in
    let n = c.args.name.now in
    let token = c.in-Some.token.now in
    let s : c.args.tokens.now ≡ token ∷ c.in-Some.rest.now = search rules in
    let i : (has_calls m && is (sign_mark mark.OpenParen) (what_of token.kind token.text.now)) ≡ true = sym (ap (λ ts. has_calls m && starts (sign_mark mark.OpenParen) ts) s) ∙ c.requires.begins in
    let v : c.in_ok-name.name ≡ n = search rules in
    ap (reading (behind_name names m c.args.up next c.args.place n)) s
    ∙ name_instance names m c.args.up next c.args.place n token c.in-Some.rest.now i (sym c.is_code.ensures ∙ c.if-is_code.false) (omega arith)
    ∙ c.in-Ok.ensures.reads (instance_behind names c.args.up next c.args.place n)
    ∙ both (λ x d. reading (next x d) c.in-Ok.value.2.now) _ _ _ _ (ap (λ l. call (spot c.args.place) l (exprs_view c.in-Ok.value.0)) (sym v) ∙ sym c.in_ok-call.ensures.expr) (sym c.in_ok-call.ensures.depth)

abbrev called_behind : ℕ → (ExprTree → ℕ → Plan) → Place → List ℕ → ExprTrees → ℕ → Plan
called_behind up next at n es d = arrows up (call (spot at) n es) (d + 1) next

pub call_behind-returns-then-begins_string-clause-reads : goal.call_behind-returns-then-begins_string-clause-reads
call_behind-returns-then-begins_string-clause-reads t c = λ next.
    let A : ExprTrees → ℕ → Plan = called_behind c.args.up next c.args.place c.args.name in
    along _ _ _ _
    (text_first (text_called c.args.up next c.args.place c.args.name) (arguments c.args.names.now code (c.args.up + 1) A) c.args.tokens.now (sym c.begins_string.ensures ∙ c.if-begins_string.true))
    (c.text_behind.ensures.reads next)

pub call_behind-returns-in-Err-clause-reads : goal.call_behind-returns-in-Err-clause-reads
call_behind-returns-in-Err-clause-reads t c = λ next.
    let A : ExprTrees → ℕ → Plan = called_behind c.args.up next c.args.place c.args.name in
    fails_as _ _ _
    (no_text (text_called c.args.up next c.args.place c.args.name) (arguments c.args.names.now code (c.args.up + 1) A) c.args.tokens.now (sym c.begins_string.ensures ∙ c.if-begins_string.false))
    (c.in-Err.ensures.reads A)

pub call_behind-returns-clause-reads : goal.call_behind-returns-clause-reads
call_behind-returns-clause-reads t c = λ next.
    let A : ExprTrees → ℕ → Plan = called_behind c.args.up next c.args.place c.args.name in
    along _ _ _ _
    (no_text (text_called c.args.up next c.args.place c.args.name) (arguments c.args.names.now code (c.args.up + 1) A) c.args.tokens.now (sym c.begins_string.ensures ∙ c.if-begins_string.false)
    ∙ c.in-Ok.ensures.reads A
    ∙ both (λ x d. reading (arrows c.args.up x d next) c.in-Ok.value.2.now) _ _ _ _ (sym c.in_ok-e.ensures.expr) (sym c.in_ok-e.ensures.depth))
    (c.arrows_behind.ensures.reads next)

-- ---- arguments
abbrev no_arguments : (ExprTrees → ℕ → Plan) → Place → Plan
no_arguments next b = next no_exprs 0

pub arguments_of-returns-in-Err-clause-reads : goal.arguments_of-returns-in-Err-clause-reads
arguments_of-returns-in-Err-clause-reads t c = λ next.
    let names = c.args.names.now in
    let m = mode_view c.args.mode in
    fails_as _ _ _
    (peek_await 0 (sign_mark mark.CloseParen) (no_arguments next) (expr names m c.args.up (argument names m c.args.up next)) c.args.tokens.now (sym c.begins.ensures ∙ c.if-begins.true))
    (c.in-Err.ensures.reads (no_arguments next))

pub arguments_of-returns-then-begins-clause-reads : goal.arguments_of-returns-then-begins-clause-reads
arguments_of-returns-then-begins-clause-reads t c = λ next.
    let names = c.args.names.now in
    let m = mode_view c.args.mode in
    peek_await 0 (sign_mark mark.CloseParen) (no_arguments next) (expr names m c.args.up (argument names m c.args.up next)) c.args.tokens.now (sym c.begins.ensures ∙ c.if-begins.true)
    ∙ c.in-Ok.ensures.reads (no_arguments next)
    ∙ ap (λ l. reading (next (exprs_view l) 0) c.in-Ok.value.1.now) (sym c.new.ensures)

pub arguments_of-returns-in-Err-expression-clause-reads : goal.arguments_of-returns-in-Err-expression-clause-reads
arguments_of-returns-in-Err-expression-clause-reads t c = λ next.
    let names = c.args.names.now in
    let m = mode_view c.args.mode in
    fails_as _ _ _
    (not_first 0 (sign_mark mark.CloseParen) (no_arguments next) (expr names m c.args.up (argument names m c.args.up next)) c.args.tokens.now (sym c.begins.ensures ∙ c.if-begins.false))
    (c.in-Err-expression.ensures.reads (argument names m c.args.up next))

pub arguments_of-returns-clause-reads : goal.arguments_of-returns-clause-reads
arguments_of-returns-clause-reads t c = λ next.
    let names = c.args.names.now in
    let m = mode_view c.args.mode in
    let x = c.in-Ok-expression.value.0 in
    along _ _ _ _
    (not_first 0 (sign_mark mark.CloseParen) (no_arguments next) (expr names m c.args.up (argument names m c.args.up next)) c.args.tokens.now (sym c.begins.ensures ∙ c.if-begins.false)
    ∙ c.in-Ok-expression.ensures.reads (argument names m c.args.up next)
    ∙ ap (λ l. reading (more_args names m c.args.up (onto_args l x.depth next)) c.in-Ok-expression.value.1.now) (sym c.in_ok-found.ensures))
    (c.more_arguments.ensures.reads next)

pub more_arguments-returns-in-Err-clause-reads : goal.more_arguments-returns-in-Err-clause-reads
more_arguments-returns-in-Err-clause-reads t c = λ next.
    let names = c.args.names.now in
    let m = mode_view c.args.mode in
    let K : ExprTrees → ℕ → Plan = onto_args (exprs_view c.commas.found) c.commas.deepest next in
    let b : starts (sign_mark mark.Comma) c.commas.rest.now ≡ true = search rules in
    fails_as _ _ _ (c.commas.invariant.reads next ∙ args_more names m c.args.up K c.commas.rest.now b)
    (c.in-Err.ensures.reads (λ p. expr names m c.args.up (argument names m c.args.up K)))

pub more_arguments-returns-in-Err-expression-clause-reads : goal.more_arguments-returns-in-Err-expression-clause-reads
more_arguments-returns-in-Err-expression-clause-reads t c = λ next.
    let names = c.args.names.now in
    let m = mode_view c.args.mode in
    let K : ExprTrees → ℕ → Plan = onto_args (exprs_view c.commas.found) c.commas.deepest next in
    let b : starts (sign_mark mark.Comma) c.commas.rest.now ≡ true = search rules in
    fails_as _ _ _ (c.commas.invariant.reads next ∙ args_more names m c.args.up K c.commas.rest.now b ∙ c.in-Ok.ensures.reads (λ p. expr names m c.args.up (argument names m c.args.up K)))
    (c.in-Err-expression.ensures.reads (argument names m c.args.up K))

pub more_arguments-commas-preserved : goal.more_arguments-commas-preserved
more_arguments-commas-preserved t c = record {
  reads = λ next.
      let names = c.args.names.now in
      let m = mode_view c.args.mode in
      let x = c.in-Ok-expression.value.0 in
      let es = exprs_view c.commas.found in
      let d = c.commas.deepest in
      let K : ExprTrees → ℕ → Plan = onto_args es d next in
      let ts = c.in-Ok-expression.value.1.now in
      let b : starts (sign_mark mark.Comma) c.commas.rest.now ≡ true = search rules in
      let v = exprs_pushed _ _ _ c.in_ok-push.ensures.ok ∙ ap (λ z. joins_args es (expr_and (expr_view z) no_exprs)) c.into_inner.ensures in
      c.commas.invariant.reads next ∙ args_more names m c.args.up K c.commas.rest.now b
      ∙ c.in-Ok.ensures.reads (λ p. expr names m c.args.up (argument names m c.args.up K))
      ∙ c.in-Ok-expression.ensures.reads (argument names m c.args.up K)
      ∙ ap (λ k. reading (more_args names m c.args.up k) ts) (onto_more es d next (expr_view x.expr) x.depth)
      ∙ ap (λ l. reading (more_args names m c.args.up (onto_args l (max d x.depth) next)) ts) (sym v)
      ∙ ap (λ n. reading (more_args names m c.args.up (onto_args (exprs_view c.push.new.self) n next)) ts) (sym c.deeper-deepest.ensures)
      ∙ ap (reading (more_args names m c.args.up (onto_args (exprs_view c.push.new.self) c.deeper-deepest.result next))) (sym c.remaining-rest.ensures);
  room = search rules;
  shorter = search rules;
}

pub more_arguments-returns-in-Err-expect-clause-reads : goal.more_arguments-returns-in-Err-expect-clause-reads
more_arguments-returns-in-Err-expect-clause-reads t c = λ next.
    let names = c.args.names.now in
    let m = mode_view c.args.mode in
    let K : ExprTrees → ℕ → Plan = onto_args (exprs_view c.commas.found) c.commas.deepest next in
    let b : starts (sign_mark mark.Comma) c.commas.rest.now ≡ false = search rules in
    fails_as _ _ _ (c.commas.invariant.reads next ∙ args_end names m c.args.up K c.commas.rest.now b) (c.in-Err-expect.ensures.reads (λ p. K no_exprs 0))

pub more_arguments-returns-clause-reads : goal.more_arguments-returns-clause-reads
more_arguments-returns-clause-reads t c = λ next.
    let names = c.args.names.now in
    let m = mode_view c.args.mode in
    let es = exprs_view c.commas.found in
    let d = c.commas.deepest in
    let K : ExprTrees → ℕ → Plan = onto_args es d next in
    let b : starts (sign_mark mark.Comma) c.commas.rest.now ≡ false = search rules in
    c.commas.invariant.reads next ∙ args_end names m c.args.up K c.commas.rest.now b
    ∙ c.in-Ok-expect.ensures.reads (λ p. K no_exprs 0)
    ∙ ap (λ q. reading q c.in-Ok-expect.value.1.now) (onto_none es d next)
