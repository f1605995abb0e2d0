-- What is answered by hand of the proofs of the cycle `statement`.
use Rattle.std.proofs.Common.{rules, ◌≡◌, ◌-◌, ◌∙◌, ◌∷◌, ℕ, List, ap, sym, true, false, cond}
use Rattle.gc0_base.specs.declared.place.Place.{Place}
use Rattle.built_text.specs.declared.token.Kind.TheVariants.{Known}
use Rattle.built_text.specs.declared.token.Fixed.TheVariants as mark
use Rattle.built_text.specs.Tree.{ExprTree, NoteTree, StmtTree, if_stmt, while_stmt, StmtTrees, no_stmts}
use Rattle.built_text.specs.Grammar.{is_return}
use Rattle.built_text.specs.Views.{expr_view, notes_view, stmt_view, stmts_view}
use Rattle.built_text.specs.Plan.{Plan, notes, lines, block, otherwise, after_line, line_run, run}
use Rattle.built_text.proofs.Failing.{fails_as, along}
use Rattle.built_text.specs.Plan.{is, starts}
use Rattle.built_text.proofs.Marks.{is_token}
use Rattle.built_text.proofs.Loops.{stmts_pushed, line_at, if_at, while_at, behind_stmts, stmts_more, stmts_none, peek_await, brace_or_line, brace_ends}
use Rattle.built_text.proofs.statements.+statement.Goals as goal

pub statement-returns-in-Known-Int-clause-reads : goal.statement-returns-in-Known-Int-clause-reads
statement-returns-in-Known-Int-clause-reads t c = λ next.
    let s : c.args.tokens.now ≡ c.in-Some.token.now ∷ c.in-Some.rest.now = search rules in
    let k : c.in-Some.token.now.kind ≡ Known mark.Int = search rules in
    along _ _ _ _ (ap (line_run c.args.room next) s ∙ line_at c.args.room next c.in-Some.token.now c.in-Some.rest.now (Known mark.Int) k) (c.declaration.ensures.reads next)

pub statement-returns-in-Known-Bool-clause-reads : goal.statement-returns-in-Known-Bool-clause-reads
statement-returns-in-Known-Bool-clause-reads t c = λ next.
    let s : c.args.tokens.now ≡ c.in-Some.token.now ∷ c.in-Some.rest.now = search rules in
    let k : c.in-Some.token.now.kind ≡ Known mark.Bool = search rules in
    along _ _ _ _ (ap (line_run c.args.room next) s ∙ line_at c.args.room next c.in-Some.token.now c.in-Some.rest.now (Known mark.Bool) k) (c.declaration-in-Known-Bool.ensures.reads next)

pub statement-returns-in-Known-PrintInt-clause-reads : goal.statement-returns-in-Known-PrintInt-clause-reads
statement-returns-in-Known-PrintInt-clause-reads t c = λ next.
    let s : c.args.tokens.now ≡ c.in-Some.token.now ∷ c.in-Some.rest.now = search rules in
    let k : c.in-Some.token.now.kind ≡ Known mark.PrintInt = search rules in
    along _ _ _ _ (ap (line_run c.args.room next) s ∙ line_at c.args.room next c.in-Some.token.now c.in-Some.rest.now (Known mark.PrintInt) k) (c.print.ensures.reads next)

pub statement-returns-in-Known-PrintBool-clause-reads : goal.statement-returns-in-Known-PrintBool-clause-reads
statement-returns-in-Known-PrintBool-clause-reads t c = λ next.
    let s : c.args.tokens.now ≡ c.in-Some.token.now ∷ c.in-Some.rest.now = search rules in
    let k : c.in-Some.token.now.kind ≡ Known mark.PrintBool = search rules in
    along _ _ _ _ (ap (line_run c.args.room next) s ∙ line_at c.args.room next c.in-Some.token.now c.in-Some.rest.now (Known mark.PrintBool) k) (c.print-in-Known-PrintBool.ensures.reads next)

pub statement-returns-in-Known-Return-clause-reads : goal.statement-returns-in-Known-Return-clause-reads
statement-returns-in-Known-Return-clause-reads t c = λ next.
    let s : c.args.tokens.now ≡ c.in-Some.token.now ∷ c.in-Some.rest.now = search rules in
    let k : c.in-Some.token.now.kind ≡ Known mark.Return = search rules in
    along _ _ _ _ (ap (line_run c.args.room next) s ∙ line_at c.args.room next c.in-Some.token.now c.in-Some.rest.now (Known mark.Return) k) (c.return_behind.ensures.reads next)

pub statement-returns-in-Known-Annotation-clause-reads : goal.statement-returns-in-Known-Annotation-clause-reads
statement-returns-in-Known-Annotation-clause-reads t c = λ next.
    let s : c.args.tokens.now ≡ c.in-Some.token.now ∷ c.in-Some.rest.now = search rules in
    let k : c.in-Some.token.now.kind ≡ Known mark.Annotation = search rules in
    along _ _ _ _ (ap (line_run c.args.room next) s ∙ line_at c.args.room next c.in-Some.token.now c.in-Some.rest.now (Known mark.Annotation) k) (c.assert_behind.ensures.reads next)

pub statement-returns-in-Known-If-clause-reads : goal.statement-returns-in-Known-If-clause-reads
statement-returns-in-Known-If-clause-reads t c = λ next.
    let s : c.args.tokens.now ≡ c.in-Some.token.now ∷ c.in-Some.rest.now = search rules in
    let k : c.in-Some.token.now.kind ≡ Known mark.If = search rules in
    along _ _ _ _ (ap (line_run c.args.room next) s ∙ if_at c.args.room next c.in-Some.token.now c.in-Some.rest.now k c.if-room-gt0.true) (c.if_behind.ensures.reads next)

pub statement-returns-in-Known-While-clause-reads : goal.statement-returns-in-Known-While-clause-reads
statement-returns-in-Known-While-clause-reads t c = λ next.
    let s : c.args.tokens.now ≡ c.in-Some.token.now ∷ c.in-Some.rest.now = search rules in
    let k : c.in-Some.token.now.kind ≡ Known mark.While = search rules in
    along _ _ _ _ (ap (line_run c.args.room next) s ∙ while_at c.args.room next c.in-Some.token.now c.in-Some.rest.now k c.if-room-gt0-2.true) (c.while_behind.ensures.reads next)

pub block_of-returns-in-Err-clause-reads : goal.block_of-returns-in-Err-clause-reads
block_of-returns-in-Err-clause-reads t c = λ next. c.in-Err.ensures.reads (λ o. lines c.args.room true true (λ ss e. next ss))

pub block_of-returns-in-Err-statements-clause-reads : goal.block_of-returns-in-Err-statements-clause-reads
block_of-returns-in-Err-statements-clause-reads t c = λ next.
    fails_as _ _ _ (c.in-Ok.ensures.reads (λ o. lines c.args.room true true (λ ss e. next ss))) (c.in-Err-statements.ensures.reads (λ ss e. next ss))

pub otherwise_of-returns-in-Err-clause-reads : goal.otherwise_of-returns-in-Err-clause-reads
otherwise_of-returns-in-Err-clause-reads t c = λ next.
    let n : starts mark.Else c.args.tokens.now ≡ true = search rules in
    fails_as _ _ _ (peek_await mark.Else (λ s. block c.args.room next) (next no_stmts) c.args.tokens.now n) (c.in-Err.ensures.reads (λ s. block c.args.room next))

pub otherwise_of-returns-clause-reads : goal.otherwise_of-returns-clause-reads
otherwise_of-returns-clause-reads t c = λ next.
    let n : starts mark.Else c.args.tokens.now ≡ true = search rules in
    along _ _ _ _ (peek_await mark.Else (λ s. block c.args.room next) (next no_stmts) c.args.tokens.now n ∙ c.in-Ok.ensures.reads (λ s. block c.args.room next)) (c.block_of.ensures.reads next)

abbrev if_made : ℕ → (StmtTree → Plan) → Place → ExprTree → StmtTrees → StmtTrees → Plan
if_made r next at e ss os = next (if_stmt at e ss os)

abbrev if_other : ℕ → (StmtTree → Plan) → Place → ExprTree → StmtTrees → Plan
if_other r next at e ss = otherwise r (if_made r next at e ss)

abbrev if_rest : ℕ → (StmtTree → Plan) → Place → ExprTree → Plan
if_rest r next at e = block r (if_other r next at e)

pub if_behind-returns-in-Err-clause-reads : goal.if_behind-returns-in-Err-clause-reads
if_behind-returns-in-Err-clause-reads t c = λ next. c.in-Err.ensures.reads (if_rest (c.args.room - 1) next c.args.place)

pub if_behind-returns-in-Err-block_of-clause-reads : goal.if_behind-returns-in-Err-block_of-clause-reads
if_behind-returns-in-Err-block_of-clause-reads t c = λ next.
    let r = c.args.room - 1 in
    let e = expr_view c.in-Ok.value.0 in
    fails_as _ _ _ (c.in-Ok.ensures.reads (if_rest r next c.args.place)) (c.in-Err-block_of.ensures.reads (if_other r next c.args.place e))

pub if_behind-returns-in-Err-otherwise_of-clause-reads : goal.if_behind-returns-in-Err-otherwise_of-clause-reads
if_behind-returns-in-Err-otherwise_of-clause-reads t c = λ next.
    let r = c.args.room - 1 in
    let e = expr_view c.in-Ok.value.0 in
    let ss = stmts_view c.in-Ok-block_of.value.0 in
    fails_as _ _ _ (c.in-Ok.ensures.reads (if_rest r next c.args.place) ∙ c.in-Ok-block_of.ensures.reads (if_other r next c.args.place e)) (c.in-Err-otherwise_of.ensures.reads (if_made r next c.args.place e ss))

pub if_behind-returns-clause-reads : goal.if_behind-returns-clause-reads
if_behind-returns-clause-reads t c = λ next.
    let r = c.args.room - 1 in
    let e = expr_view c.in-Ok.value.0 in
    let ss = stmts_view c.in-Ok-block_of.value.0 in
    c.in-Ok.ensures.reads (if_rest r next c.args.place) ∙ c.in-Ok-block_of.ensures.reads (if_other r next c.args.place e) ∙ c.in-Ok-otherwise_of.ensures.reads (if_made r next c.args.place e ss)
    ∙ ap (λ s. run (next s) c.in-Ok-otherwise_of.value.1.now) (sym c.if_statement.ensures)

abbrev while_made : (StmtTree → Plan) → Place → ExprTree → List NoteTree → StmtTrees → Plan
while_made next at e ns ss = next (while_stmt at e ns ss)

abbrev while_block : ℕ → (StmtTree → Plan) → Place → ExprTree → List NoteTree → Plan
while_block r next at e ns = block r (while_made next at e ns)

abbrev while_rest : ℕ → ℕ → (StmtTree → Plan) → Place → ExprTree → Plan
while_rest room r next at e = notes room (while_block r next at e)

pub while_behind-returns-in-Err-clause-reads : goal.while_behind-returns-in-Err-clause-reads
while_behind-returns-in-Err-clause-reads t c = λ next. c.in-Err.ensures.reads (while_rest c.args.room (c.args.room - 1) next c.args.place)

pub while_behind-returns-in-Err-invariants_of-clause-reads : goal.while_behind-returns-in-Err-invariants_of-clause-reads
while_behind-returns-in-Err-invariants_of-clause-reads t c = λ next.
    let r = c.args.room - 1 in
    let e = expr_view c.in-Ok.value.0 in
    fails_as _ _ _ (c.in-Ok.ensures.reads (while_rest c.args.room r next c.args.place)) (c.in-Err-invariants_of.ensures.reads (while_block r next c.args.place e))

pub while_behind-returns-in-Err-block_of-clause-reads : goal.while_behind-returns-in-Err-block_of-clause-reads
while_behind-returns-in-Err-block_of-clause-reads t c = λ next.
    let r = c.args.room - 1 in
    let e = expr_view c.in-Ok.value.0 in
    fails_as _ _ _ (c.in-Ok.ensures.reads (while_rest c.args.room r next c.args.place) ∙ c.in-Ok-invariants_of.ensures.reads (while_block r next c.args.place e)) (c.in-Err-block_of.ensures.reads (while_made next c.args.place e (notes_view c.in-Ok-invariants_of.value.0)))

pub statements-returns-then-closes-clause-reads : goal.statements-returns-then-closes-clause-reads
statements-returns-then-closes-clause-reads t c = λ next.
    let N : StmtTrees → Place → Plan = behind_stmts (stmts_view c.loop-token.found) next in
    let s : c.loop-token.rest.now ≡ c.in-Some.token.now ∷ c.in-Some.behind.now = search rules in
    let n : is mark.CloseBrace c.in-Some.token.now.kind ≡ true = search rules in
    let m : c.loop-token.closes ≡ true = search rules in
    c.loop-token.invariant.reads next ∙ ap (run (lines c.args.room c.args.any c.loop-token.closes N)) (s ∙ is_token mark.CloseBrace c.in-Some.token.now c.in-Some.behind.now n)
    ∙ brace_ends c.args.room c.args.any c.loop-token.closes N c.in-Some.token.now.place c.in-Some.behind.now m
    ∙ ap (λ q. run q c.in-Some.behind.now) (stmts_none (stmts_view c.loop-token.found) next c.in-Some.token.now.place)

pub statements-returns-in-Err-clause-reads : goal.statements-returns-in-Err-clause-reads
statements-returns-in-Err-clause-reads t c = λ next.
    let N : StmtTrees → Place → Plan = behind_stmts (stmts_view c.loop-token.found) next in
    let s : c.loop-token.rest.now ≡ c.in-Some.token.now ∷ c.in-Some.behind.now = search rules in
    let n : is mark.CloseBrace c.in-Some.token.now.kind ≡ false = search rules in
    fails_as _ _ _ (c.loop-token.invariant.reads next ∙ ap (run (lines c.args.room c.args.any c.loop-token.closes N)) s ∙ brace_or_line c.args.room c.args.any c.loop-token.closes N c.in-Some.token.now c.in-Some.behind.now n ∙ ap (line_run c.args.room (after_line c.args.room c.args.any N)) (sym s)) (c.in-Err.ensures.reads (after_line c.args.room c.args.any N))

pub statements-loop-token-preserved : goal.statements-loop-token-preserved
statements-loop-token-preserved t c = record {
  reads = λ next.
      let N : StmtTrees → Place → Plan = behind_stmts (stmts_view c.loop-token.found) next in
      let s : c.loop-token.rest.now ≡ c.in-Some.token.now ∷ c.in-Some.behind.now = search rules in
      let n : is mark.CloseBrace c.in-Some.token.now.kind ≡ false = search rules in
      let ts = c.in-Ok.value.1.now in
      let x = stmt_view c.in-Ok.value.0 in
      let v = stmts_pushed _ _ _ c.in_ok-push.ensures.ok in
      c.loop-token.invariant.reads next ∙ ap (run (lines c.args.room c.args.any c.loop-token.closes N)) s ∙ brace_or_line c.args.room c.args.any c.loop-token.closes N c.in-Some.token.now c.in-Some.behind.now n ∙ ap (line_run c.args.room (after_line c.args.room c.args.any N)) (sym s)
      ∙ c.in-Ok.ensures.reads (after_line c.args.room c.args.any N)
      ∙ ap (λ k. run (lines c.args.room c.args.any (cond c.args.any true (is_return x)) k) ts) (stmts_more (stmts_view c.loop-token.found) next x)
      ∙ ap (λ l. run (lines c.args.room c.args.any (cond c.args.any true (is_return x)) (behind_stmts l next)) ts) (sym v)
      ∙ ap (λ b. run (lines c.args.room c.args.any b (behind_stmts (stmts_view c.push.new.self) next)) ts) (sym c.may_close-closes.ensures);
  shorter = search rules;
}
