-- `parse`: what is left to show of its clauses.
use Rattle.std.proofs.Common.{◌≡◌, [], IfOk, IfErr, sym, subst}
use Rattle.parsed_tree.specs.Views.{program_view}
use Rattle.c0_grammar.specs.Reads.{Reads}
use Rattle.c0_grammar.specs.Seen.{all_seen}
use Rattle.parse_faults.specs.TreeFaults.{tree_faults}
use Rattle.c0_parse.specs.Causes.{HasCause}
use Rattle.c0_parse.specs.Answers.{AnswersTree}
use Rattle.c0_parse.proofs.Answering.{tree, faultless, cause, complete}
use Rattle.c0_parse.proofs.reader.parse.Goals as goal
use Rattle.gc0_base.specs.declared.limits.TheConstants.Limits as limits

pub returns-clause-tree : goal.returns-clause-tree
returns-clause-tree c = λ ends.
    subst (λ r. IfOk r (λ p. Reads limits.NESTING (all_seen c.args.tokens.now) (program_view p))) (sym c.answer_of.ensures)
    (tree c.run_is_exact.ensures c.args.tokens.now c.tree_of.result c.tree_of.ensures ends)

pub returns-clause-faultless : goal.returns-clause-faultless
returns-clause-faultless c = subst (λ r. IfOk r (λ p. tree_faults (program_view p) ≡ [])) (sym c.answer_of.ensures) (faultless c.tree_of.result)

pub returns-clause-cause : goal.returns-clause-cause
returns-clause-cause c = λ ends.
    subst (λ r. IfErr r (λ e. HasCause (all_seen c.args.tokens.now) e)) (sym c.answer_of.ensures)
    (cause c.run_is_exact.ensures c.args.tokens.now c.tree_of.result c.tree_of.ensures ends)

pub returns-clause-complete : goal.returns-clause-complete
returns-clause-complete c = λ p x.
    subst (AnswersTree p) (sym c.answer_of.ensures) (complete c.run_is_complete.ensures c.args.tokens.now c.tree_of.result c.tree_of.ensures p x)
