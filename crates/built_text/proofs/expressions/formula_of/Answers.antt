-- What is answered by hand of the proof of `formula_of`.
use Rattle.std.proofs.Common.{◌∙◌, ◌∷◌, ◌++◌, List, ap, sym, true, false}
use Rattle.gc0_base.specs.declared.place.Place.{Place}
use Rattle.built_text.specs.declared.token.Fixed.TheVariants as mark
use Rattle.built_text.specs.Tree.{ExprTree, FormulaTree}
use Rattle.built_text.specs.Views.{exprs_view}
use Rattle.built_text.specs.Plan.{Plan, expr, chain, run}
use Rattle.built_text.proofs.Failing.{fails_as}
use Rattle.built_text.proofs.Loops.{peek_await, not_first}
use Rattle.built_text.proofs.expressions.formula_of.Goals as goal

abbrev loose : (FormulaTree → Plan) → List ExprTree → Plan
loose next es = next (record { imprecise = true; conjuncts = es })

abbrev strict : (FormulaTree → Plan) → List ExprTree → Plan
strict next es = next (record { imprecise = false; conjuncts = es })

pub returns-in-Err-clause-reads : goal.returns-in-Err-clause-reads
returns-in-Err-clause-reads c = λ next.
    let L : Place → Plan = λ at. chain mark.And c.args.outcome c.args.room (loose next) in
    let S : Plan = expr c.args.outcome c.args.room (λ e. chain mark.And c.args.outcome c.args.room (λ es. strict next (e ∷ es))) in
    fails_as _ _ _ (peek_await mark.Question L S c.args.tokens.now (sym c.begins.ensures ∙ c.if-begins.true)) (c.in-Err.ensures.reads L)

pub returns-in-Err-more-clause-reads : goal.returns-in-Err-more-clause-reads
returns-in-Err-more-clause-reads c = λ next.
    let L : Place → Plan = λ at. chain mark.And c.args.outcome c.args.room (loose next) in
    let S : Plan = expr c.args.outcome c.args.room (λ e. chain mark.And c.args.outcome c.args.room (λ es. strict next (e ∷ es))) in
    fails_as _ _ _
    (peek_await mark.Question L S c.args.tokens.now (sym c.begins.ensures ∙ c.if-begins.true) ∙ c.in-Ok.ensures.reads L
    ∙ ap (λ l. run (chain mark.And c.args.outcome c.args.room (λ es. loose next (exprs_view l ++ es))) c.in-Ok.value.1.now) (sym c.new-none.ensures))
    (c.in-Err-more.ensures.reads (loose next))

pub returns-in-Err-list_of-clause-reads : goal.returns-in-Err-list_of-clause-reads
returns-in-Err-list_of-clause-reads c = λ next.
    let L : Place → Plan = λ at. chain mark.And c.args.outcome c.args.room (loose next) in
    let S : Plan = expr c.args.outcome c.args.room (λ e. chain mark.And c.args.outcome c.args.room (λ es. strict next (e ∷ es))) in
    fails_as _ _ _ (not_first mark.Question L S c.args.tokens.now (sym c.begins.ensures ∙ c.if-begins.false)) (c.in-Err-list_of.ensures.reads (strict next))

pub returns-then-begins-clause-reads : goal.returns-then-begins-clause-reads
returns-then-begins-clause-reads c = λ next.
    let L : Place → Plan = λ at. chain mark.And c.args.outcome c.args.room (loose next) in
    let S : Plan = expr c.args.outcome c.args.room (λ e. chain mark.And c.args.outcome c.args.room (λ es. strict next (e ∷ es))) in
    peek_await mark.Question L S c.args.tokens.now (sym c.begins.ensures ∙ c.if-begins.true) ∙ c.in-Ok.ensures.reads L
    ∙ ap (λ l. run (chain mark.And c.args.outcome c.args.room (λ es. loose next (exprs_view l ++ es))) c.in-Ok.value.1.now) (sym c.new-none.ensures)
    ∙ c.in-Ok-more.ensures.reads (loose next)

pub returns-clause-reads : goal.returns-clause-reads
returns-clause-reads c = λ next.
    let L : Place → Plan = λ at. chain mark.And c.args.outcome c.args.room (loose next) in
    let S : Plan = expr c.args.outcome c.args.room (λ e. chain mark.And c.args.outcome c.args.room (λ es. strict next (e ∷ es))) in
    not_first mark.Question L S c.args.tokens.now (sym c.begins.ensures ∙ c.if-begins.false) ∙ c.in-Ok-list_of.ensures.reads (strict next)
