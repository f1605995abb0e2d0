-- `param_of`: what is left to show of its clauses.
use Rattle.std.proofs.Common.{List, ℕ, ◌∙◌}
use Rattle.parsed_tree.specs.declared.expressions.TypeName.{TypeName}
use Rattle.parsed_tree.specs.declared.items.Param.{Param}
use Rattle.c0_grammar.specs.Plan.{Plan, name}
use Rattle.c0_cursor.specs.Laws.{fails_as}
use Rattle.c0_parse.proofs.items.param_of.Goals as goal

abbrev named : List (List ℕ) → (Param → Plan) → TypeName → Plan
named names next t = name names (λ n. next (record { typed = t; name = n }))

pub returns-in-Err-clause-reads : goal.returns-in-Err-clause-reads
returns-in-Err-clause-reads c = λ next.
    c.in-Err.ensures.reads (named c.args.names.now next)

pub returns-in-Err-free_name-clause-reads : goal.returns-in-Err-free_name-clause-reads
returns-in-Err-free_name-clause-reads c = λ next.
    fails_as _ _ _ (c.in-Ok.ensures.reads (named c.args.names.now next))
    (c.in-Err-free_name.ensures.reads (λ n. next (record { typed = c.in-Ok.value.0; name = n })))

pub returns-clause-reads : goal.returns-clause-reads
returns-clause-reads c = λ next.
    c.in-Ok.ensures.reads (named c.args.names.now next)
    ∙ c.in-Ok-free_name.ensures.reads (λ n. next (record { typed = c.in-Ok.value.0; name = n }))
