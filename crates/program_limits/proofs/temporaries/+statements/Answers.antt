-- What is answered by hand of the proofs of the cycle `statements`.
use Rattle.std.proofs.Common.{◌≡◌, ℕ, ◌+◌, min, max, rules, arith}
use Rattle.std.specs.Option.{option_map}
use Rattle.gc0_base.specs.declared.limits.TheConstants.Limits as limits
use Rattle.gc0_tree.specs.Views.{expr_view, stmt_view, stmts_in}
use Rattle.gc0_tree.specs.declared.StmtForm.TheViews.{the_lemmas}
use Rattle.gc0_tree.specs.declared.StmtForm.TheFolds.{fold_out-Stmt, fold_out-StmtForm}
use Rattle.program_limits.specs.Counts.{temporaries, stmt_temporaries, stmts_temporaries}
use Rattle.program_limits.proofs.temporaries.+statements.Goals as goal

pub in_statement-returns-in-For : goal.in_statement-returns-in-For
in_statement-returns-in-For t c =
    let first : ℕ = stmts_temporaries (stmts_in (option_map stmt_view c.in-For.first)) in
    let test : ℕ = temporaries (expr_view c.in-For.test) in
    let last : ℕ = stmts_temporaries (stmts_in (option_map stmt_view c.in-For.last)) in
    let body : ℕ = stmt_temporaries (stmt_view c.in-For.body) in
    let view : stmt_temporaries (stmt_view c.args.s.now) ≡ max first (max test (max last body)) = search (rules, the_lemmas, fold_out-Stmt, fold_out-StmtForm) in
    let ran : c.in_statement-in-For.result ≡ min body (limits.TEMPORARIES + 1) = search rules in
    omega arith
