-- What is answered by hand of the proofs of the cycle `expression`.
use Rattle.std.proofs.Common.{rules, ◌≡◌, ◌-◌, ◌∙◌, ◌∷◌, ℕ, ap, sym, Some}
use Rattle.built_text.specs.declared.token.Kind.TheVariants.{Known}
use Rattle.built_text.specs.declared.token.Fixed.TheVariants as mark
use Rattle.built_text.specs.declared.tree.UnaryOperator.TheVariants as unary_op
use Rattle.built_text.specs.Tree.{ExprTree, unary, from}
use Rattle.built_text.specs.Grammar.{spot, joined}
use Rattle.built_text.specs.Views.{expr_view}
use Rattle.built_text.specs.Plan.{Plan, of_rank, operator_at, await, operand, ops, climb, run}
use Rattle.built_text.proofs.Failing.{fails_as, along}
use Rattle.built_text.proofs.Loops.{climb_less, op_step, round_step}
use Rattle.built_text.proofs.expressions.+expression.Goals as goal

pub level-returns-then-rank-eq0-clause-reads : goal.level-returns-then-rank-eq0-clause-reads
level-returns-then-rank-eq0-clause-reads t c = λ next. along _ _ _ _ (ap (λ z. run (climb z c.args.outcome c.args.room c.args.left next) c.args.tokens.now) c.if-rank-eq0.true) (c.primary.ensures.reads next)

pub level-returns-in-Err-clause-reads : goal.level-returns-in-Err-clause-reads
level-returns-in-Err-clause-reads t c = λ next.
    fails_as _ _ _ (ap (λ q. run q c.args.tokens.now) (climb_less c.args.rank c.args.outcome c.args.room c.args.left next c.if-rank-eq0.false))
    (c.in-Err.ensures.reads (λ e l. ops (c.args.rank - 1) c.args.outcome c.args.room l e next))

pub level-returns-in-Err-level-clause-reads : goal.level-returns-in-Err-level-clause-reads
level-returns-in-Err-level-clause-reads t c = λ next.
    let r = c.args.rank - 1 in
    let x = expr_view c.loop-token.e in
    let N : ExprTree → ℕ → Plan = λ e l. ops r c.args.outcome c.args.room l (joined c.in-Some.token.now.place c.in-Some-operator_of_rank.operator x e) next in
    let s : c.loop-token.rest.now ≡ c.in-Some.token.now ∷ c.in-Some.behind.now = search rules in
    let o : of_rank r (operator_at c.in-Some.token.now.kind) ≡ Some c.in-Some-operator_of_rank.operator = search rules in
    let e = ap (run (ops r c.args.outcome c.args.room c.loop-token.left x next)) s ∙ op_step r c.args.outcome c.args.room c.loop-token.left x next c.in-Some-operator_of_rank.operator c.in-Some.token.now c.in-Some.behind.now o c.if-left-eq0.false in
    fails_as _ _ _ (c.loop-token.invariant.reads next ∙ e) (c.in-Err-level.ensures.reads N)

pub primary-returns-in-Err-clause-reads : goal.primary-returns-in-Err-clause-reads
primary-returns-in-Err-clause-reads t c = λ next.
    let N : ExprTree → ℕ → Plan = λ e l. next (unary (spot c.in-Some.token.now.place) unary_op.Not e) l in
    let e : run (operand c.args.outcome c.args.room c.args.left next) c.args.tokens.now ≡ run (operand c.args.outcome (c.args.room - 1) c.args.left N) c.in-Some.rest.now = search rules in
    fails_as _ _ _ e (c.in-Err.ensures.reads N)

pub primary-returns-in-Err-primary-clause-reads : goal.primary-returns-in-Err-primary-clause-reads
primary-returns-in-Err-primary-clause-reads t c = λ next.
    let N : ExprTree → ℕ → Plan = λ e l. next (unary (spot c.in-Some.token.now.place) unary_op.Negate e) l in
    let e : run (operand c.args.outcome c.args.room c.args.left next) c.args.tokens.now ≡ run (operand c.args.outcome (c.args.room - 1) c.args.left N) c.in-Some.rest.now = search rules in
    fails_as _ _ _ e (c.in-Err-primary.ensures.reads N)

pub primary-returns-in-Err-level-clause-reads : goal.primary-returns-in-Err-level-clause-reads
primary-returns-in-Err-level-clause-reads t c = λ next.
    let N : ExprTree → ℕ → Plan = λ e l. await mark.Close (λ b. next (from c.in-Some.token.now.place e) l) in
    let s : c.args.tokens.now ≡ c.in-Some.token.now ∷ c.in-Some.rest.now = search rules in
    let k : c.in-Some.token.now.kind ≡ Known mark.Open = search rules in
    let e = ap (run (operand c.args.outcome c.args.room c.args.left next)) s ∙ round_step c.args.outcome c.args.room c.args.left next c.in-Some.token.now c.in-Some.rest.now k c.if-room-gt0-3.true in
    fails_as _ _ _ e (c.in-Err-level.ensures.reads N)

pub primary-returns-in-Err-expect-clause-reads : goal.primary-returns-in-Err-expect-clause-reads
primary-returns-in-Err-expect-clause-reads t c = λ next.
    let N : ExprTree → ℕ → Plan = λ e l. await mark.Close (λ b. next (from c.in-Some.token.now.place e) l) in
    let s : c.args.tokens.now ≡ c.in-Some.token.now ∷ c.in-Some.rest.now = search rules in
    let k : c.in-Some.token.now.kind ≡ Known mark.Open = search rules in
    let e = ap (run (operand c.args.outcome c.args.room c.args.left next)) s ∙ round_step c.args.outcome c.args.room c.args.left next c.in-Some.token.now c.in-Some.rest.now k c.if-room-gt0-3.true in
    fails_as _ _ _ (e ∙ c.in-Ok-level.ensures.reads N) (c.in-Err-expect.ensures.reads (λ b. next (from c.in-Some.token.now.place (expr_view c.in-Ok-level.value.0)) c.in-Ok-level.value.1))

pub primary-returns-in-Ok-expect-clause-reads : goal.primary-returns-in-Ok-expect-clause-reads
primary-returns-in-Ok-expect-clause-reads t c = λ next.
    let N : ExprTree → ℕ → Plan = λ e l. await mark.Close (λ b. next (from c.in-Some.token.now.place e) l) in
    let s : c.args.tokens.now ≡ c.in-Some.token.now ∷ c.in-Some.rest.now = search rules in
    let k : c.in-Some.token.now.kind ≡ Known mark.Open = search rules in
    let e = ap (run (operand c.args.outcome c.args.room c.args.left next)) s ∙ round_step c.args.outcome c.args.room c.args.left next c.in-Some.token.now c.in-Some.rest.now k c.if-room-gt0-3.true in
    e ∙ c.in-Ok-level.ensures.reads N
    ∙ c.in-Ok-expect.ensures.reads (λ b. next (from c.in-Some.token.now.place (expr_view c.in-Ok-level.value.0)) c.in-Ok-level.value.1)
    ∙ ap (λ x. run (next x c.in-Ok-level.value.1) c.in-Ok-expect.value.1.now) (sym c.starting_at.ensures)
