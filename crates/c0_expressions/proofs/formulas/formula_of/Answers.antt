-- `formula_of`: what is left to show of its clauses.
use Rattle.std.proofs.Common.{ap, sym, rules, ◌≡◌, ◌∙◌, ℕ, Bool, List, true, false, Some, None}
use Rattle.gc0_base.specs.declared.place.Place.{Place}
use Rattle.c0_lex.specs.declared.token.Symbol.TheVariants as mark
use Rattle.parsed_tree.specs.Tree.{ExprTree, FormulaTree}
use Rattle.c0_grammar.specs.Tokens.{sign_mark}
use Rattle.c0_grammar.specs.Allowed.{conjunct}
use Rattle.c0_grammar.specs.Plan.{Plan, peek, expr}
use Rattle.c0_cursor.specs.Seen.{reading, starts}
use Rattle.c0_cursor.specs.Laws.{fails_as, peek_await, not_first}
use Rattle.c0_expressions.proofs.formulas.formula_of.Goals as goal

abbrev stating : Bool → (FormulaTree → ℕ → Plan) → ExprTree → ℕ → Plan
stating b next e d = next (record { imprecise = b; parts = Some e }) d

abbrev alone : (FormulaTree → ℕ → Plan) → Plan
alone next = next (record { imprecise = true; parts = None }) 0

abbrev parts_behind : List (List ℕ) → ℕ → (FormulaTree → ℕ → Plan) → Place → Plan
parts_behind names up next a = expr names conjunct up (stating true next)

abbrev behind_mark : List (List ℕ) → ℕ → (FormulaTree → ℕ → Plan) → Place → Plan
behind_mark names up next q = peek 0 (sign_mark mark.Both) (parts_behind names up next) (alone next)

abbrev precise : List (List ℕ) → ℕ → (FormulaTree → ℕ → Plan) → Plan
precise names up next = expr names conjunct up (stating false next)

pub returns-in-Err-clause-reads : goal.returns-in-Err-clause-reads
returns-in-Err-clause-reads c = λ next.
    let names = c.args.names.now in
    let n : starts (sign_mark mark.Question) c.args.tokens.now ≡ false = search rules in
    fails_as _ _ _ (not_first 0 (sign_mark mark.Question) (behind_mark names c.args.up next) (precise names c.args.up next) c.args.tokens.now n)
    (c.in-Err.ensures.reads (stating false next))

pub returns-then-not-begins-clause-reads : goal.returns-then-not-begins-clause-reads
returns-then-not-begins-clause-reads c = λ next.
    let names = c.args.names.now in
    let n : starts (sign_mark mark.Question) c.args.tokens.now ≡ false = search rules in
    not_first 0 (sign_mark mark.Question) (behind_mark names c.args.up next) (precise names c.args.up next) c.args.tokens.now n
    ∙ c.in-Ok.ensures.reads (stating false next)
    ∙ ap (λ f. reading (next f c.in-Ok.value.0.depth) c.in-Ok.value.1.now) (sym c.with_parts.ensures)

pub returns-in-Err-expect-clause-reads : goal.returns-in-Err-expect-clause-reads
returns-in-Err-expect-clause-reads c = λ next.
    let names = c.args.names.now in
    let y : starts (sign_mark mark.Question) c.args.tokens.now ≡ true = search rules in
    fails_as _ _ _ (peek_await 0 (sign_mark mark.Question) (behind_mark names c.args.up next) (precise names c.args.up next) c.args.tokens.now y)
    (c.in-Err-expect.ensures.reads (behind_mark names c.args.up next))

pub returns-then-not-begins-2-clause-reads : goal.returns-then-not-begins-2-clause-reads
returns-then-not-begins-2-clause-reads c = λ next.
    let names = c.args.names.now in
    let y : starts (sign_mark mark.Question) c.args.tokens.now ≡ true = search rules in
    let n : starts (sign_mark mark.Both) c.in-Ok-expect.value.1.now ≡ false = search rules in
    peek_await 0 (sign_mark mark.Question) (behind_mark names c.args.up next) (precise names c.args.up next) c.args.tokens.now y
    ∙ c.in-Ok-expect.ensures.reads (behind_mark names c.args.up next)
    ∙ not_first 0 (sign_mark mark.Both) (parts_behind names c.args.up next) (alone next) c.in-Ok-expect.value.1.now n

pub returns-in-Err-expect-2-clause-reads : goal.returns-in-Err-expect-2-clause-reads
returns-in-Err-expect-2-clause-reads c = λ next.
    let names = c.args.names.now in
    let y : starts (sign_mark mark.Question) c.args.tokens.now ≡ true = search rules in
    let z : starts (sign_mark mark.Both) c.in-Ok-expect.value.1.now ≡ true = search rules in
    fails_as _ _ _
    (peek_await 0 (sign_mark mark.Question) (behind_mark names c.args.up next) (precise names c.args.up next) c.args.tokens.now y
    ∙ c.in-Ok-expect.ensures.reads (behind_mark names c.args.up next)
    ∙ peek_await 0 (sign_mark mark.Both) (parts_behind names c.args.up next) (alone next) c.in-Ok-expect.value.1.now z)
    (c.in-Err-expect-2.ensures.reads (parts_behind names c.args.up next))

pub returns-in-Err-expression-clause-reads : goal.returns-in-Err-expression-clause-reads
returns-in-Err-expression-clause-reads c = λ next.
    let names = c.args.names.now in
    let y : starts (sign_mark mark.Question) c.args.tokens.now ≡ true = search rules in
    let z : starts (sign_mark mark.Both) c.in-Ok-expect.value.1.now ≡ true = search rules in
    fails_as _ _ _
    (peek_await 0 (sign_mark mark.Question) (behind_mark names c.args.up next) (precise names c.args.up next) c.args.tokens.now y
    ∙ c.in-Ok-expect.ensures.reads (behind_mark names c.args.up next)
    ∙ peek_await 0 (sign_mark mark.Both) (parts_behind names c.args.up next) (alone next) c.in-Ok-expect.value.1.now z
    ∙ c.in-Ok-expect-2.ensures.reads (parts_behind names c.args.up next))
    (c.in-Err-expression.ensures.reads (stating true next))

pub returns-clause-reads : goal.returns-clause-reads
returns-clause-reads c = λ next.
    let names = c.args.names.now in
    let y : starts (sign_mark mark.Question) c.args.tokens.now ≡ true = search rules in
    let z : starts (sign_mark mark.Both) c.in-Ok-expect.value.1.now ≡ true = search rules in
    peek_await 0 (sign_mark mark.Question) (behind_mark names c.args.up next) (precise names c.args.up next) c.args.tokens.now y
    ∙ c.in-Ok-expect.ensures.reads (behind_mark names c.args.up next)
    ∙ peek_await 0 (sign_mark mark.Both) (parts_behind names c.args.up next) (alone next) c.in-Ok-expect.value.1.now z
    ∙ c.in-Ok-expect-2.ensures.reads (parts_behind names c.args.up next)
    ∙ c.in-Ok-expression.ensures.reads (stating true next)
    ∙ ap (λ f. reading (next f c.in-Ok-expression.value.0.depth) c.in-Ok-expression.value.1.now) (sym c.with_parts-2.ensures)
