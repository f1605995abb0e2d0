-- `when_else`: what is left to show of its clauses.
use Rattle.std.proofs.Common.{rules, ◌≡◌, sym, subst, Some}
use Rattle.parsed_tree.specs.declared.statements.Stmt.TheVariants as stmt
use Rattle.parsed_tree.specs.declared.statements.Stmt.TheViews.{the_lemmas}
use Rattle.parsed_tree.specs.declared.statements.Stmt.TheFolds.{fold_out-Stmt}
use Rattle.parsed_tree.specs.Tree.{if_stmt, no_stmts, stmt_and}
use Rattle.parsed_tree.specs.Views.{expr_view, stmt_view}
use Rattle.c0_parse.proofs.made.when_else.Goals as goal

pub returns : goal.returns
returns c =
    subst (λ x. stmt_view (stmt.If c.args.place x c.args.yes (Some c.args.no)) ≡ if_stmt c.args.place (expr_view c.args.test) (stmt_view c.args.yes) (stmt_and (stmt_view c.args.no) no_stmts)) (sym c.into_inner.ensures)
    (search (rules, the_lemmas, fold_out-Stmt))
