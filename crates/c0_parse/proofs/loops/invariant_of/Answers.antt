-- `invariant_of`: what is left to show of its clauses.
use Rattle.std.proofs.Common.{ℕ, ◌∙◌}
use Rattle.gc0_base.specs.declared.place.Place.{Place}
use Rattle.parsed_tree.specs.Tree.{FormulaTree, InvariantTree}
use Rattle.c0_grammar.specs.Plan.{Plan, invariant_at, invariant_plan}
use Rattle.c0_cursor.specs.Laws.{fails_as}
use Rattle.c0_parse.proofs.loops.invariant_of.Goals as goal

abbrev framed : (InvariantTree → ℕ → Plan) → Place → FormulaTree → ℕ → Plan
framed next at f d = next (invariant_at at f) d

pub returns-in-Err-clause-reads : goal.returns-in-Err-clause-reads
returns-in-Err-clause-reads c = λ next.
    let names = c.args.names.now in
    c.in-Err.ensures.reads (invariant_plan names c.args.up next)

pub returns-in-Err-stated-clause-reads : goal.returns-in-Err-stated-clause-reads
returns-in-Err-stated-clause-reads c = λ next.
    let names = c.args.names.now in
    fails_as _ _ _ (c.in-Ok.ensures.reads (invariant_plan names c.args.up next))
    (c.in-Err-stated.ensures.reads (framed next c.in-Ok.value.0))

pub returns-clause-reads : goal.returns-clause-reads
returns-clause-reads c = λ next.
    let names = c.args.names.now in
    c.in-Ok.ensures.reads (invariant_plan names c.args.up next)
    ∙ c.in-Ok-stated.ensures.reads (framed next c.in-Ok.value.0)
