-- `tree_of`: what is left to show of its clauses.
use Rattle.std.proofs.Common.{List, ℕ}
use Rattle.parsed_tree.specs.declared.items.Library.{Library}
use Rattle.parsed_tree.specs.Tree.{ItemTree}
use Rattle.c0_grammar.specs.Plan.{Plan, finished, program_plan}
use Rattle.c0_cursor.specs.Laws.{fails_as}
use Rattle.c0_parse.proofs.reader.tree_of.Goals as goal

abbrev behind_all : List Library → ℕ → Plan
behind_all us d = program_plan us

abbrev whole : List Library → List ItemTree → ℕ → Plan
whole us is d = finished (record { uses = us; items = is }) d

pub returns-in-Err : goal.returns-in-Err
returns-in-Err c = c.in-Err.ensures.reads behind_all

pub returns-in-Err-items_of : goal.returns-in-Err-items_of
returns-in-Err-items_of c = fails_as _ _ _ (c.in-Ok.ensures.reads behind_all) (c.in-Err-items_of.ensures.reads (whole c.in-Ok.value.0))
