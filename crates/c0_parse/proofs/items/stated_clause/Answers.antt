-- `stated_clause`: what is left to show of its clauses.
use Rattle.std.proofs.Common.{ℕ}
use Rattle.gc0_base.specs.declared.place.Place.{Place}
use Rattle.parsed_tree.specs.Tree.{ClauseTree, FormulaTree}
use Rattle.c0_grammar.specs.Plan.{Plan, clause_at}
use Rattle.parsed_tree.specs.declared.items.Side.{Side}
use Rattle.c0_parse.proofs.items.stated_clause.Goals as goal

abbrev framed : (ClauseTree → ℕ → Plan) → Side → Place → FormulaTree → ℕ → Plan
framed next s at f d = next (clause_at at s f) d

pub returns-in-Err-clause-reads : goal.returns-in-Err-clause-reads
returns-in-Err-clause-reads c = λ next.
    c.in-Err.ensures.reads (framed next c.args.side c.args.place)

pub returns-clause-reads : goal.returns-clause-reads
returns-clause-reads c = λ next.
    c.in-Ok.ensures.reads (framed next c.args.side c.args.place)
