-- What is answered by hand of the proofs of the cycle `statements`.
use Rattle.std.proofs.Common.{◌≡◌, ℕ, sym, ap, ◌∙◌, rules}
use Rattle.std.specs.Option.{option_map}
use Rattle.gc0_tree.specs.Tree.{Stmt, Stmts, if_at, while_at, for_at}
use Rattle.gc0_tree.specs.Views.{expr_view, conjuncts_view, formula_view, stmt_view, stmts_in, program_view}
use Rattle.gc0_tree.specs.declared.StmtForm.TheViews.{the_lemmas}
use Rattle.gc0_tree.specs.declared.StmtForm.TheFolds.{fold_out-Stmt, fold_out-StmtForm}
use Rattle.self_framing.specs.Capped.{capped, ways_capped}
use Rattle.self_framing.specs.Paths.{Ways, followed, looped, parts_paths, tree_paths, stmt_ways, stmts_ways}
use Rattle.self_framing.proofs.paths.+statements.Goals as goal

pub stmt_ways-returns-in-If : goal.stmt_ways-returns-in-If
stmt_ways-returns-in-If t c =
    let p = program_view c.args.program.now in
    let n : ℕ = parts_paths (conjuncts_view c.args.f.now.after.parts) in
    let yes : Stmt = stmt_view c.in-If.yes in
    let no : Stmts = stmts_in (option_map stmt_view c.in-If.no) in
    let view : stmt_view c.args.s.now ≡ if_at c.args.s.now.place (expr_view c.in-If.condition) yes no = search (rules, the_lemmas, fold_out-Stmt, fold_out-StmtForm) in
    let in_yes : c.stmt_ways.result ≡ ways_capped (stmt_ways p n yes) = search rules in
    c.branched.ensures (tree_paths p (expr_view c.in-If.condition)) (stmt_ways p n yes) (stmts_ways p n no) c.tree_paths-in-If.ensures in_yes c.part_ways.ensures
    ∙ ap (λ s. ways_capped (stmt_ways p n s)) (sym view)

pub stmt_ways-returns-in-While : goal.stmt_ways-returns-in-While
stmt_ways-returns-in-While t c =
    let p = program_view c.args.program.now in
    let n : ℕ = parts_paths (conjuncts_view c.args.f.now.after.parts) in
    let invariant : ℕ = parts_paths (conjuncts_view c.in-While.invariant.parts) in
    let body : Stmt = stmt_view c.in-While.body in
    let view : stmt_view c.args.s.now ≡ while_at c.args.s.now.place (formula_view c.in-While.invariant) (expr_view c.in-While.test) body = search (rules, the_lemmas, fold_out-Stmt, fold_out-StmtForm) in
    let in_invariant : c.parts_paths.result ≡ capped invariant = search rules in
    let in_body : c.stmt_ways-in-While.result ≡ ways_capped (stmt_ways p n body) = search rules in
    c.looped.ensures invariant (tree_paths p (expr_view c.in-While.test)) (stmt_ways p n body) in_invariant c.tree_paths-in-While.ensures in_body
    ∙ ap (λ s. ways_capped (stmt_ways p n s)) (sym view)

pub stmt_ways-returns-in-For : goal.stmt_ways-returns-in-For
stmt_ways-returns-in-For t c =
    let p = program_view c.args.program.now in
    let n : ℕ = parts_paths (conjuncts_view c.args.f.now.after.parts) in
    let first : Stmts = stmts_in (option_map stmt_view c.in-For.first) in
    let last : Stmts = stmts_in (option_map stmt_view c.in-For.last) in
    let invariant : ℕ = parts_paths (conjuncts_view c.in-For.invariant.parts) in
    let test : ℕ = tree_paths p (expr_view c.in-For.test) in
    let body : Stmt = stmt_view c.in-For.body in
    let view : stmt_view c.args.s.now ≡ for_at c.args.s.now.place first (expr_view c.in-For.test) last (formula_view c.in-For.invariant) body = search (rules, the_lemmas, fold_out-Stmt, fold_out-StmtForm) in
    let in_invariant : c.parts_paths-in-For.result ≡ capped invariant = search rules in
    let in_body : c.stmt_ways-in-For.result ≡ ways_capped (stmt_ways p n body) = search rules in
    let turn : Ways = followed (stmt_ways p n body) (stmts_ways p n last) in
    let in_turn : c.followed-turn.result ≡ ways_capped turn = c.followed-turn.ensures (stmt_ways p n body) (stmts_ways p n last) in_body c.part_ways-in-For.ensures in
    let in_turns : c.looped-turns.result ≡ ways_capped (looped invariant test turn) = c.looped-turns.ensures invariant test turn in_invariant c.tree_paths-in-For.ensures in_turn in
    c.followed.ensures (stmts_ways p n first) (looped invariant test turn) c.part_ways-in-For-2.ensures in_turns
    ∙ ap (λ s. ways_capped (stmt_ways p n s)) (sym view)
