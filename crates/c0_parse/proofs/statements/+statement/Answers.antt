-- The cycle of `statement`: what is left to show of its clauses.
use Rattle.std.proofs.Common.{List, None, Option, ap, arith, false, map, max, rules, sym, true, ℕ, ◌+◌, ◌∙◌, ◌∷◌, ◌≡◌}
use Rattle.gc0_base.specs.declared.place.Place.{Place}
use Rattle.std.specs.Option.{option_map}
use Rattle.parsed_tree.specs.Tree.{ExprTree, InvariantsTree, SimpleTree, StmtTree, StmtTrees, block_stmt, for_stmt, if_stmt, no_stmts, stmt_and, while_stmt}
use Rattle.parsed_tree.specs.Views.{expr_view, invariants_view, simple_view, stmt_view, stmts_view}
use Rattle.c0_grammar.specs.Tokens.{sign_mark, word_mark}
use Rattle.c0_grammar.specs.Allowed.{code}
use Rattle.c0_grammar.specs.Plan.{Plan, after_line, await, block_plan, body, compound_step, expr, for_plan, if_plan, is, lines, loop_body, optional_simple, peek, simple, simple_line, while_plan}
use Rattle.c0_parse.specs.Seen.{line_reading}
use Rattle.c0_cursor.specs.Seen.{reading, starts}
use Rattle.c0_grammar.specs.Seen.{what_of}
use Rattle.c0_parse.specs.Read.{onto_loop}
use Rattle.c0_cursor.specs.Laws.{along, fails_as, not_first, peek_await, step_on}
use Rattle.c0_parse.proofs.Lines.{body_line, ended, line_at, line_simple, lines_done, lines_end, lines_more, lines_on, lines_start, loop_done, onto_lines, same_lines, stmts_pushed}
use Rattle.c0_lex.specs.declared.token.Symbol.TheVariants as mark
use Rattle.c0_lex.specs.declared.token.Keyword.TheVariants as key
use Rattle.c0_lex.specs.declared.token.TokenKind.TheVariants as kind
use Rattle.c0_parse.proofs.Lines.{loop_off}
use Rattle.c0_expressions.specs.Laws.{same}
use Rattle.c0_parse.proofs.statements.+statement.Goals as goal

pub statement-returns-in-Keyword-If-clause-reads : goal.statement-returns-in-Keyword-If-clause-reads
statement-returns-in-Keyword-If-clause-reads t c = λ next.
    let names = c.args.names.now in
    let token = c.in-Some.token.now in
    let rest = c.in-Some.rest.now in
    let s : c.args.tokens.now ≡ token ∷ rest = search rules in
    let k : token.kind ≡ kind.Keyword key.If = search rules in
    along _ _ _ _ (ap (line_reading names c.args.whole c.args.up next) s ∙ line_at names c.args.whole c.args.up next token rest (kind.Keyword key.If) k) (c.if_behind.ensures.reads next)

pub statement-returns-in-Keyword-While-clause-reads : goal.statement-returns-in-Keyword-While-clause-reads
statement-returns-in-Keyword-While-clause-reads t c = λ next.
    let names = c.args.names.now in
    let token = c.in-Some.token.now in
    let rest = c.in-Some.rest.now in
    let s : c.args.tokens.now ≡ token ∷ rest = search rules in
    let k : token.kind ≡ kind.Keyword key.While = search rules in
    along _ _ _ _ (ap (line_reading names c.args.whole c.args.up next) s ∙ line_at names c.args.whole c.args.up next token rest (kind.Keyword key.While) k) (c.while_behind.ensures.reads next)

pub statement-returns-in-Keyword-For-clause-reads : goal.statement-returns-in-Keyword-For-clause-reads
statement-returns-in-Keyword-For-clause-reads t c = λ next.
    let names = c.args.names.now in
    let token = c.in-Some.token.now in
    let rest = c.in-Some.rest.now in
    let s : c.args.tokens.now ≡ token ∷ rest = search rules in
    let k : token.kind ≡ kind.Keyword key.For = search rules in
    along _ _ _ _ (ap (line_reading names c.args.whole c.args.up next) s ∙ line_at names c.args.whole c.args.up next token rest (kind.Keyword key.For) k) (c.for_behind.ensures.reads next)

pub statement-returns-in-Keyword-Return-clause-reads : goal.statement-returns-in-Keyword-Return-clause-reads
statement-returns-in-Keyword-Return-clause-reads t c = λ next.
    let names = c.args.names.now in
    let token = c.in-Some.token.now in
    let rest = c.in-Some.rest.now in
    let s : c.args.tokens.now ≡ token ∷ rest = search rules in
    let k : token.kind ≡ kind.Keyword key.Return = search rules in
    along _ _ _ _ (ap (line_reading names c.args.whole c.args.up next) s ∙ line_at names c.args.whole c.args.up next token rest (kind.Keyword key.Return) k) (c.return_behind.ensures.reads next)

pub statement-returns-in-Keyword-Assert-clause-reads : goal.statement-returns-in-Keyword-Assert-clause-reads
statement-returns-in-Keyword-Assert-clause-reads t c = λ next.
    let names = c.args.names.now in
    let token = c.in-Some.token.now in
    let rest = c.in-Some.rest.now in
    let s : c.args.tokens.now ≡ token ∷ rest = search rules in
    let k : token.kind ≡ kind.Keyword key.Assert = search rules in
    along _ _ _ _ (ap (line_reading names c.args.whole c.args.up next) s ∙ line_at names c.args.whole c.args.up next token rest (kind.Keyword key.Assert) k) (c.assert_behind.ensures.reads next)

pub statement-returns-in-Keyword-Error-clause-reads : goal.statement-returns-in-Keyword-Error-clause-reads
statement-returns-in-Keyword-Error-clause-reads t c = λ next.
    let names = c.args.names.now in
    let token = c.in-Some.token.now in
    let rest = c.in-Some.rest.now in
    let s : c.args.tokens.now ≡ token ∷ rest = search rules in
    let k : token.kind ≡ kind.Keyword key.Error = search rules in
    along _ _ _ _ (ap (line_reading names c.args.whole c.args.up next) s ∙ line_at names c.args.whole c.args.up next token rest (kind.Keyword key.Error) k) (c.error_behind.ensures.reads next)

pub statement-returns-in-Symbol-OpenBrace-clause-reads : goal.statement-returns-in-Symbol-OpenBrace-clause-reads
statement-returns-in-Symbol-OpenBrace-clause-reads t c = λ next.
    let names = c.args.names.now in
    let token = c.in-Some.token.now in
    let rest = c.in-Some.rest.now in
    let s : c.args.tokens.now ≡ token ∷ rest = search rules in
    let k : token.kind ≡ kind.Symbol mark.OpenBrace = search rules in
    along _ _ _ _ (ap (line_reading names c.args.whole c.args.up next) s ∙ line_at names c.args.whole c.args.up next token rest (kind.Symbol mark.OpenBrace) k) (c.block_behind.ensures.reads next)

pub statement-returns-in-AnnotationBegin-clause-reads : goal.statement-returns-in-AnnotationBegin-clause-reads
statement-returns-in-AnnotationBegin-clause-reads t c = λ next.
    let names = c.args.names.now in
    let token = c.in-Some.token.now in
    let rest = c.in-Some.rest.now in
    let s : c.args.tokens.now ≡ token ∷ rest = search rules in
    let k : token.kind ≡ kind.AnnotationBegin = search rules in
    along _ _ _ _ (ap (line_reading names c.args.whole c.args.up next) s ∙ line_at names c.args.whole c.args.up next token rest (kind.AnnotationBegin) k) (c.notes_of.ensures.reads next)

pub statement-returns-in_default-kind-clause-reads : goal.statement-returns-in_default-kind-clause-reads
statement-returns-in_default-kind-clause-reads t c = λ next.
    let names = c.args.names.now in
    let token = c.in-Some.token.now in
    let rest = c.in-Some.rest.now in
    let s : c.args.tokens.now ≡ token ∷ rest = search rules in
    let n : compound_step names c.args.whole c.args.up next (what_of token.kind token.text.now) token.place ≡ None = search rules in
    along _ _ _ _ (ap (line_reading names c.args.whole c.args.up next) s
    ∙ line_simple names c.args.whole c.args.up next token rest n
    ∙ ap (reading (simple names c.args.whole (c.args.up + 1) (simple_line next))) (sym s))
    (c.simple_behind.ensures.reads next)

pub body_of-returns-in-Err-clause-reads : goal.body_of-returns-in-Err-clause-reads
body_of-returns-in-Err-clause-reads t c = λ next. fails_as _ _ _ (body_line c.args.names.now c.args.up next c.args.tokens.now) (c.in-Err.ensures.reads next)

pub body_of-returns-clause-reads : goal.body_of-returns-clause-reads
body_of-returns-clause-reads t c = λ next.
    body_line c.args.names.now c.args.up next c.args.tokens.now
    ∙ c.in-Ok.ensures.reads next
    ∙ ap (λ s. reading (next (stmt_view s) c.in-Ok.value.1) c.in-Ok.value.2.now) (sym c.in_ok-new.ensures)

abbrev blocked : (StmtTree → ℕ → Plan) → Place → StmtTrees → ℕ → Place → Plan
blocked next at ss d e = next (block_stmt at ss) (d + 1)

pub block_behind-returns-in-Err-clause-reads : goal.block_behind-returns-in-Err-clause-reads
block_behind-returns-in-Err-clause-reads t c = λ next.
    fails_as _ _ _ (step_on (c.args.up + 1) (block_plan c.args.names.now c.args.up next c.args.place) c.args.place c.args.tokens.now (omega arith))
    (c.in-Err.ensures.reads (blocked next c.args.place))

pub block_behind-returns-clause-reads : goal.block_behind-returns-clause-reads
block_behind-returns-clause-reads t c = λ next.
    step_on (c.args.up + 1) (block_plan c.args.names.now c.args.up next c.args.place) c.args.place c.args.tokens.now (omega arith)
    ∙ c.in-Ok.ensures.reads (blocked next c.args.place)
    ∙ ap (λ s. reading (next s (c.in-Ok.value.1 + 1)) c.in-Ok.value.3.now) (sym c.block.ensures)

abbrev if_both : (StmtTree → ℕ → Plan) → Place → ExprTree → ℕ → StmtTree → ℕ → StmtTree → ℕ → Plan
if_both next at e d s d1 o d2 = next (if_stmt at e s (stmt_and o no_stmts)) (max d (max d1 d2) + 1)

abbrev if_alone : (StmtTree → ℕ → Plan) → Place → ExprTree → ℕ → StmtTree → ℕ → Plan
if_alone next at e d s d1 = next (if_stmt at e s no_stmts) (max d d1 + 1)

abbrev if_else : List (List ℕ) → ℕ → (StmtTree → ℕ → Plan) → Place → ExprTree → ℕ → StmtTree → ℕ → Place → Plan
if_else names up next at e d s d1 w = body names (up + 1) (if_both next at e d s d1)

abbrev if_more : List (List ℕ) → ℕ → (StmtTree → ℕ → Plan) → Place → ExprTree → ℕ → StmtTree → ℕ → Plan
if_more names up next at e d s d1 = peek 0 (word_mark key.Else) (if_else names up next at e d s d1) (if_alone next at e d s d1)

abbrev if_body : List (List ℕ) → ℕ → (StmtTree → ℕ → Plan) → Place → ExprTree → ℕ → Plan
if_body names up next at e d = body names (up + 1) (if_more names up next at e d)

pub if_behind-returns-in-Err-clause-reads : goal.if_behind-returns-in-Err-clause-reads
if_behind-returns-in-Err-clause-reads t c = λ next.
    let names = c.args.names.now in
    let up = c.args.up in
    let at = c.args.place in
    fails_as _ _ _ (step_on (up + 2) (if_plan names up next at) at c.args.tokens.now (omega arith))
    (c.in-Err.ensures.reads (if_body names up next at))

pub if_behind-returns-in-Err-body_of-clause-reads : goal.if_behind-returns-in-Err-body_of-clause-reads
if_behind-returns-in-Err-body_of-clause-reads t c = λ next.
    let names = c.args.names.now in
    let up = c.args.up in
    let at = c.args.place in
    let e = expr_view c.in-Ok.value.0 in
    let d = c.in-Ok.value.1 in
    fails_as _ _ _ (step_on (up + 2) (if_plan names up next at) at c.args.tokens.now (omega arith)
    ∙ c.in-Ok.ensures.reads (if_body names up next at))
    (c.in-Err-body_of.ensures.reads (if_more names up next at e d))

pub if_behind-returns-then-not-begins-clause-reads : goal.if_behind-returns-then-not-begins-clause-reads
if_behind-returns-then-not-begins-clause-reads t c = λ next.
    let names = c.args.names.now in
    let up = c.args.up in
    let at = c.args.place in
    let e = expr_view c.in-Ok.value.0 in
    let d = c.in-Ok.value.1 in
    let s = stmt_view c.in-Ok-body_of.value.0 in
    let ds = c.in-Ok-body_of.value.1 in
    let ts = c.in-Ok-body_of.value.2.now in
    let n : starts (word_mark key.Else) ts ≡ false = search rules in
    let m : max d ds + 1 ≡ c.deeper-depth.result + 1 = omega arith in
    step_on (up + 2) (if_plan names up next at) at c.args.tokens.now (omega arith)
    ∙ c.in-Ok.ensures.reads (if_body names up next at)
    ∙ c.in-Ok-body_of.ensures.reads (if_more names up next at e d)
    ∙ not_first 0 (word_mark key.Else) (if_else names up next at e d s ds) (if_alone next at e d s ds) ts n
    ∙ same (λ z k. reading (next z k) ts) _ _ _ _ (sym c.when.ensures) m

pub if_behind-returns-in-Err-expect-clause-reads : goal.if_behind-returns-in-Err-expect-clause-reads
if_behind-returns-in-Err-expect-clause-reads t c = λ next.
    let names = c.args.names.now in
    let up = c.args.up in
    let at = c.args.place in
    let e = expr_view c.in-Ok.value.0 in
    let d = c.in-Ok.value.1 in
    let s = stmt_view c.in-Ok-body_of.value.0 in
    let ds = c.in-Ok-body_of.value.1 in
    let ts = c.in-Ok-body_of.value.2.now in
    let y : starts (word_mark key.Else) ts ≡ true = search rules in
    fails_as _ _ _ (step_on (up + 2) (if_plan names up next at) at c.args.tokens.now (omega arith)
    ∙ c.in-Ok.ensures.reads (if_body names up next at)
    ∙ c.in-Ok-body_of.ensures.reads (if_more names up next at e d)
    ∙ peek_await 0 (word_mark key.Else) (if_else names up next at e d s ds) (if_alone next at e d s ds) ts y)
    (c.in-Err-expect.ensures.reads (if_else names up next at e d s ds))

pub if_behind-returns-in-Err-body_of-2-clause-reads : goal.if_behind-returns-in-Err-body_of-2-clause-reads
if_behind-returns-in-Err-body_of-2-clause-reads t c = λ next.
    let names = c.args.names.now in
    let up = c.args.up in
    let at = c.args.place in
    let e = expr_view c.in-Ok.value.0 in
    let d = c.in-Ok.value.1 in
    let s = stmt_view c.in-Ok-body_of.value.0 in
    let ds = c.in-Ok-body_of.value.1 in
    let ts = c.in-Ok-body_of.value.2.now in
    let y : starts (word_mark key.Else) ts ≡ true = search rules in
    fails_as _ _ _ (step_on (up + 2) (if_plan names up next at) at c.args.tokens.now (omega arith)
    ∙ c.in-Ok.ensures.reads (if_body names up next at)
    ∙ c.in-Ok-body_of.ensures.reads (if_more names up next at e d)
    ∙ peek_await 0 (word_mark key.Else) (if_else names up next at e d s ds) (if_alone next at e d s ds) ts y
    ∙ c.in-Ok-expect.ensures.reads (if_else names up next at e d s ds))
    (c.in-Err-body_of-2.ensures.reads (if_both next at e d s ds))

pub if_behind-returns-clause-reads : goal.if_behind-returns-clause-reads
if_behind-returns-clause-reads t c = λ next.
    let names = c.args.names.now in
    let up = c.args.up in
    let at = c.args.place in
    let e = expr_view c.in-Ok.value.0 in
    let d = c.in-Ok.value.1 in
    let s = stmt_view c.in-Ok-body_of.value.0 in
    let ds = c.in-Ok-body_of.value.1 in
    let ts = c.in-Ok-body_of.value.2.now in
    let y : starts (word_mark key.Else) ts ≡ true = search rules in
    let o = c.in-Ok-body_of-2.value in
    let m : max d (max ds o.1) + 1 ≡ c.deeper-depth-2.result + 1 = omega arith in
    step_on (up + 2) (if_plan names up next at) at c.args.tokens.now (omega arith)
    ∙ c.in-Ok.ensures.reads (if_body names up next at)
    ∙ c.in-Ok-body_of.ensures.reads (if_more names up next at e d)
    ∙ peek_await 0 (word_mark key.Else) (if_else names up next at e d s ds) (if_alone next at e d s ds) ts y
    ∙ c.in-Ok-expect.ensures.reads (if_else names up next at e d s ds)
    ∙ c.in-Ok-body_of-2.ensures.reads (if_both next at e d s ds)
    ∙ same (λ z k. reading (next z k) o.2.now) _ _ _ _ (sym c.when_else.ensures) m

abbrev while_made : (StmtTree → ℕ → Plan) → Place → ExprTree → ℕ → List InvariantsTree → ℕ → StmtTree → ℕ → Plan
while_made next at e d is di s ds = next (while_stmt at e is s) (max d (max di ds) + 1)

abbrev while_rest : List (List ℕ) → ℕ → (StmtTree → ℕ → Plan) → Place → ExprTree → ℕ → Plan
while_rest names up next at e d = loop_body names (up + 1) (while_made next at e d)

pub while_behind-returns-in-Err-clause-reads : goal.while_behind-returns-in-Err-clause-reads
while_behind-returns-in-Err-clause-reads t c = λ next.
    let names = c.args.names.now in
    let up = c.args.up in
    let at = c.args.place in
    fails_as _ _ _ (step_on (up + 2) (while_plan names up next at) at c.args.tokens.now (omega arith))
    (c.in-Err.ensures.reads (while_rest names up next at))

pub while_behind-returns-in-Err-loop_of-clause-reads : goal.while_behind-returns-in-Err-loop_of-clause-reads
while_behind-returns-in-Err-loop_of-clause-reads t c = λ next.
    let names = c.args.names.now in
    let up = c.args.up in
    let at = c.args.place in
    let e = expr_view c.in-Ok.value.0 in
    let d = c.in-Ok.value.1 in
    fails_as _ _ _ (step_on (up + 2) (while_plan names up next at) at c.args.tokens.now (omega arith)
    ∙ c.in-Ok.ensures.reads (while_rest names up next at))
    (c.in-Err-loop_of.ensures.reads (while_made next at e d))

pub while_behind-returns-clause-reads : goal.while_behind-returns-clause-reads
while_behind-returns-clause-reads t c = λ next.
    let names = c.args.names.now in
    let up = c.args.up in
    let at = c.args.place in
    let e = expr_view c.in-Ok.value.0 in
    let d = c.in-Ok.value.1 in
    let x = c.in-Ok-loop_of.value in
    let m : max d (max x.0.above x.0.below) + 1 ≡ c.deeper-depth.result + 1 = omega arith in
    step_on (up + 2) (while_plan names up next at) at c.args.tokens.now (omega arith)
    ∙ c.in-Ok.ensures.reads (while_rest names up next at)
    ∙ c.in-Ok-loop_of.ensures.reads (while_made next at e d)
    ∙ same (λ z k. reading (next z k) x.1.now) _ _ _ _ (sym c.while_loop.ensures) m

abbrev for_made : (StmtTree → ℕ → Plan) → Place → Option SimpleTree → ℕ → ExprTree → ℕ → Option SimpleTree → ℕ → List InvariantsTree → ℕ → StmtTree → ℕ → Plan
for_made next at x dx e d y dy is di s ds = next (for_stmt at x e y is s) (max dx (max d (max dy (max di ds))) + 1)

abbrev for_rest : List (List ℕ) → ℕ → (StmtTree → ℕ → Plan) → Place → Option SimpleTree → ℕ → ExprTree → ℕ → Option SimpleTree → ℕ → Plan
for_rest names up next at x dx e d y dy = loop_body names (up + 1) (for_made next at x dx e d y dy)

abbrev for_last : List (List ℕ) → ℕ → (StmtTree → ℕ → Plan) → Place → Option SimpleTree → ℕ → ExprTree → ℕ → Place → Plan
for_last names up next at x dx e d c = optional_simple names false (up + 1) mark.CloseParen (for_rest names up next at x dx e d)

abbrev for_tested : List (List ℕ) → ℕ → (StmtTree → ℕ → Plan) → Place → Option SimpleTree → ℕ → ExprTree → ℕ → Plan
for_tested names up next at x dx e d = await 0 (sign_mark mark.Semicolon) (for_last names up next at x dx e d)

abbrev for_test : List (List ℕ) → ℕ → (StmtTree → ℕ → Plan) → Place → Option SimpleTree → ℕ → Plan
for_test names up next at x dx = expr names code (up + 1) (for_tested names up next at x dx)

abbrev for_first : List (List ℕ) → ℕ → (StmtTree → ℕ → Plan) → Place → Place → Plan
for_first names up next at a = optional_simple names true (up + 1) mark.Semicolon (for_test names up next at)

pub for_behind-returns-in-Err-clause-reads : goal.for_behind-returns-in-Err-clause-reads
for_behind-returns-in-Err-clause-reads t c = λ next.
    let names = c.args.names.now in
    let up = c.args.up in
    let at = c.args.place in
    fails_as _ _ _ (step_on (up + 2) (for_plan names up next at) at c.args.tokens.now (omega arith))
    (c.in-Err.ensures.reads (for_first names up next at))

pub for_behind-returns-in-Err-optional_simple-clause-reads : goal.for_behind-returns-in-Err-optional_simple-clause-reads
for_behind-returns-in-Err-optional_simple-clause-reads t c = λ next.
    let names = c.args.names.now in
    let up = c.args.up in
    let at = c.args.place in
    fails_as _ _ _ (step_on (up + 2) (for_plan names up next at) at c.args.tokens.now (omega arith)
    ∙ c.in-Ok.ensures.reads (for_first names up next at))
    (c.in-Err-optional_simple.ensures.reads (for_test names up next at))

pub for_behind-returns-in-Err-expression-clause-reads : goal.for_behind-returns-in-Err-expression-clause-reads
for_behind-returns-in-Err-expression-clause-reads t c = λ next.
    let names = c.args.names.now in
    let up = c.args.up in
    let at = c.args.place in
    let x = option_map simple_view c.in-Ok-optional_simple.value.0 in
    let dx = c.in-Ok-optional_simple.value.1 in
    fails_as _ _ _ (step_on (up + 2) (for_plan names up next at) at c.args.tokens.now (omega arith)
    ∙ c.in-Ok.ensures.reads (for_first names up next at)
    ∙ c.in-Ok-optional_simple.ensures.reads (for_test names up next at))
    (c.in-Err-expression.ensures.reads (for_tested names up next at x dx))

pub for_behind-returns-in-Err-expect-clause-reads : goal.for_behind-returns-in-Err-expect-clause-reads
for_behind-returns-in-Err-expect-clause-reads t c = λ next.
    let names = c.args.names.now in
    let up = c.args.up in
    let at = c.args.place in
    let x = option_map simple_view c.in-Ok-optional_simple.value.0 in
    let dx = c.in-Ok-optional_simple.value.1 in
    let e = expr_view c.in-Ok-expression.value.0.expr in
    let d = c.in-Ok-expression.value.0.depth in
    fails_as _ _ _ (step_on (up + 2) (for_plan names up next at) at c.args.tokens.now (omega arith)
    ∙ c.in-Ok.ensures.reads (for_first names up next at)
    ∙ c.in-Ok-optional_simple.ensures.reads (for_test names up next at)
    ∙ c.in-Ok-expression.ensures.reads (for_tested names up next at x dx))
    (c.in-Err-expect.ensures.reads (for_last names up next at x dx e d))

pub for_behind-returns-in-Err-optional_simple-2-clause-reads : goal.for_behind-returns-in-Err-optional_simple-2-clause-reads
for_behind-returns-in-Err-optional_simple-2-clause-reads t c = λ next.
    let names = c.args.names.now in
    let up = c.args.up in
    let at = c.args.place in
    let x = option_map simple_view c.in-Ok-optional_simple.value.0 in
    let dx = c.in-Ok-optional_simple.value.1 in
    let e = expr_view c.in-Ok-expression.value.0.expr in
    let d = c.in-Ok-expression.value.0.depth in
    fails_as _ _ _ (step_on (up + 2) (for_plan names up next at) at c.args.tokens.now (omega arith)
    ∙ c.in-Ok.ensures.reads (for_first names up next at)
    ∙ c.in-Ok-optional_simple.ensures.reads (for_test names up next at)
    ∙ c.in-Ok-expression.ensures.reads (for_tested names up next at x dx)
    ∙ c.in-Ok-expect.ensures.reads (for_last names up next at x dx e d))
    (c.in-Err-optional_simple-2.ensures.reads (for_rest names up next at x dx e d))

pub for_behind-returns-in-Err-loop_of-clause-reads : goal.for_behind-returns-in-Err-loop_of-clause-reads
for_behind-returns-in-Err-loop_of-clause-reads t c = λ next.
    let names = c.args.names.now in
    let up = c.args.up in
    let at = c.args.place in
    let x = option_map simple_view c.in-Ok-optional_simple.value.0 in
    let dx = c.in-Ok-optional_simple.value.1 in
    let e = expr_view c.in-Ok-expression.value.0.expr in
    let d = c.in-Ok-expression.value.0.depth in
    let y = option_map simple_view c.in-Ok-optional_simple-2.value.0 in
    let dy = c.in-Ok-optional_simple-2.value.1 in
    fails_as _ _ _ (step_on (up + 2) (for_plan names up next at) at c.args.tokens.now (omega arith)
    ∙ c.in-Ok.ensures.reads (for_first names up next at)
    ∙ c.in-Ok-optional_simple.ensures.reads (for_test names up next at)
    ∙ c.in-Ok-expression.ensures.reads (for_tested names up next at x dx)
    ∙ c.in-Ok-expect.ensures.reads (for_last names up next at x dx e d)
    ∙ c.in-Ok-optional_simple-2.ensures.reads (for_rest names up next at x dx e d))
    (c.in-Err-loop_of.ensures.reads (for_made next at x dx e d y dy))

pub for_behind-returns-clause-reads : goal.for_behind-returns-clause-reads
for_behind-returns-clause-reads t c = λ next.
    let names = c.args.names.now in
    let up = c.args.up in
    let at = c.args.place in
    let x = option_map simple_view c.in-Ok-optional_simple.value.0 in
    let dx = c.in-Ok-optional_simple.value.1 in
    let e = expr_view c.in-Ok-expression.value.0.expr in
    let d = c.in-Ok-expression.value.0.depth in
    let y = option_map simple_view c.in-Ok-optional_simple-2.value.0 in
    let dy = c.in-Ok-optional_simple-2.value.1 in
    let z = c.in-Ok-loop_of.value in
    let m : max dx (max d (max dy (max z.0.above z.0.below))) + 1 ≡ c.deeper-depth.result + 1 = omega arith in
    step_on (up + 2) (for_plan names up next at) at c.args.tokens.now (omega arith)
    ∙ c.in-Ok.ensures.reads (for_first names up next at)
    ∙ c.in-Ok-optional_simple.ensures.reads (for_test names up next at)
    ∙ c.in-Ok-expression.ensures.reads (for_tested names up next at x dx)
    ∙ c.in-Ok-expect.ensures.reads (for_last names up next at x dx e d)
    ∙ c.in-Ok-optional_simple-2.ensures.reads (for_rest names up next at x dx e d)
    ∙ c.in-Ok-loop_of.ensures.reads (for_made next at x dx e d y dy)
    ∙ same (λ t k. reading (next t k) z.1.now) _ _ _ _ (sym c.for_loop.ensures) m

pub loop_of-returns-in-Err-body_of-clause-reads : goal.loop_of-returns-in-Err-body_of-clause-reads
loop_of-returns-in-Err-body_of-clause-reads t c = λ next.
    let names = c.args.names.now in
    let is = map invariants_view c.in-Ok.value.0 in
    let d = c.in-Ok.value.1 in
    let ts = c.in-Ok.value.2.now in
    fails_as _ _ _ (c.in-Ok.ensures.reads next
    ∙ loop_off names c.args.up (onto_loop is d next) ts c.in-Ok.ensures.over
    ∙ ap (λ k. line_reading names false c.args.up k ts) (loop_done is d next)
    ∙ sym (body_line names c.args.up (next is d) ts))
    (c.in-Err-body_of.ensures.reads (next is d))

pub loop_of-returns-clause-reads : goal.loop_of-returns-clause-reads
loop_of-returns-clause-reads t c = λ next.
    let names = c.args.names.now in
    let is = map invariants_view c.in-Ok.value.0 in
    let d = c.in-Ok.value.1 in
    let ts = c.in-Ok.value.2.now in
    c.in-Ok.ensures.reads next
    ∙ loop_off names c.args.up (onto_loop is d next) ts c.in-Ok.ensures.over
    ∙ ap (λ k. line_reading names false c.args.up k ts) (loop_done is d next)
    ∙ sym (body_line names c.args.up (next is d) ts)
    ∙ c.in-Ok-body_of.ensures.reads (next is d)

pub lines_of-lines-init : goal.lines_of-lines-init
lines_of-lines-init t c = record {
  reads = λ next. ap (λ k. reading (lines c.args.names.now c.args.up k) c.args.tokens.now) (lines_start next)
      ∙ ap (λ l. reading (lines c.args.names.now c.args.up (onto_lines (stmts_view l) 0 next)) c.args.tokens.now) (sym c.new-found.ensures);
  room = search rules;
  shorter = search rules;
}

pub lines_of-returns-in-Err-clause-reads : goal.lines_of-returns-in-Err-clause-reads
lines_of-returns-in-Err-clause-reads t c = λ next.
    let names = c.args.names.now in
    let up = c.args.up in
    let ss = stmts_view c.lines.found in
    let d = c.lines.deepest in
    let ts = c.lines.rest.now in
    let N : StmtTrees → ℕ → Place → Plan = onto_lines ss d next in
    let n : starts (sign_mark mark.CloseBrace) ts ≡ false = search rules in
    fails_as _ _ _ (c.lines.invariant.reads next ∙ lines_on names up N ts n)
    (c.in-Err.ensures.reads (after_line names up N))

pub lines_of-lines-preserved : goal.lines_of-lines-preserved
lines_of-lines-preserved t c = record {
  reads = λ next.
      let names = c.args.names.now in
      let up = c.args.up in
      let ss = stmts_view c.lines.found in
      let d = c.lines.deepest in
      let ts = c.lines.rest.now in
      let N : StmtTrees → ℕ → Place → Plan = onto_lines ss d next in
      let n : starts (sign_mark mark.CloseBrace) ts ≡ false = search rules in
      let x = c.in-Ok.value in
      c.lines.invariant.reads next ∙ lines_on names up N ts n
      ∙ c.in-Ok.ensures.reads (after_line names up N)
      ∙ ap (reading (after_line names up N (stmt_view x.0) x.1)) (sym c.remaining-rest.ensures)
      ∙ ap (λ k. reading (lines names up k) c.remaining-rest.result.now) (lines_more ss d next (stmt_view x.0) x.1)
      ∙ same_lines (λ l k. reading (lines names up (onto_lines l k next)) c.remaining-rest.result.now) _ _ _ _ (sym (stmts_pushed _ _ _ c.in_ok-push.ensures.ok)) (sym c.deeper-deepest.ensures);
  room = search rules;
  shorter = search rules;
}

pub lines_of-returns-in-Err-expect-clause-reads : goal.lines_of-returns-in-Err-expect-clause-reads
lines_of-returns-in-Err-expect-clause-reads t c = λ next.
    let names = c.args.names.now in
    let up = c.args.up in
    let ss = stmts_view c.lines.found in
    let d = c.lines.deepest in
    let ts = c.lines.rest.now in
    let N : StmtTrees → ℕ → Place → Plan = onto_lines ss d next in
    let y : starts (sign_mark mark.CloseBrace) ts ≡ true = search rules in
    fails_as _ _ _ (c.lines.invariant.reads next ∙ lines_end names up N ts y)
    (c.in-Err-expect.ensures.reads (ended N))

pub lines_of-returns-clause-reads : goal.lines_of-returns-clause-reads
lines_of-returns-clause-reads t c = λ next.
    let names = c.args.names.now in
    let up = c.args.up in
    let ss = stmts_view c.lines.found in
    let d = c.lines.deepest in
    let ts = c.lines.rest.now in
    let N : StmtTrees → ℕ → Place → Plan = onto_lines ss d next in
    let y : starts (sign_mark mark.CloseBrace) ts ≡ true = search rules in
    c.lines.invariant.reads next ∙ lines_end names up N ts y
    ∙ c.in-Ok-expect.ensures.reads (ended N)
    ∙ ap (λ q. reading q c.in-Ok-expect.value.1.now) (lines_done ss d next c.in-Ok-expect.value.0)
