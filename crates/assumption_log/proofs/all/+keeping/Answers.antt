-- What the search leaves of the proofs of the walks over statements.
use Rattle.std.proofs.Common.{rules, ◌≡◌, ◌+◌, ◌++◌, ◌∷◌, OnOk, drop, sym, ap, subst, ◌∙◌}
use Rattle.std.specs.Prelude.{false}
use Rattle.std.proofs.lemmas.List.{drop_more}
use Rattle.std.proofs.lemmas.Result.{on_ok_weaker}
use Rattle.core_tree.specs.declared.CoreStmt.TheViews.{the_lemmas}
use Rattle.core_tree.specs.declared.CoreStmt.TheFolds.{fold_out-CoreStmt}
use Rattle.gc0_tree.specs.Views.{formula_view}
use Rattle.core_tree.specs.CoreTree.{CoreStmt, do_if, do_loop, do_return}
use Rattle.core_tree.specs.CoreViews.{core_view, core_function_view, core_stmt_view, code_view}
use Rattle.core_checks.specs.Subjects.{of_formula, subject_at_one, stmt_subjects, code_subjects}
use Rattle.assumption_log.specs.Keeping.{kept_of, Adds}
use Rattle.assumption_log.proofs.Keeping.{adds_two, kept_next}
use Rattle.assumption_log.proofs.all.+keeping.Goals as goal

pub keep_stmt-returns-in_ok-keep_code-in-If : goal.keep_stmt-returns-in_ok-keep_code-in-If
keep_stmt-returns-in_ok-keep_code-in-If t c =
    let r = c.args.how.reason in
    let p = core_view c.args.core.now in
    let f = core_function_view c.args.function.now in
    let these = code_view c.in-If.yes in
    let those = code_view c.in-If.no in
    let old = c.args.entries.now in
    let mid = c.keep_code.new.entries in
    let new = c.keep_code-in-If.new.entries in
    let view : core_stmt_view c.args.s.now ≡ do_if c.in-If.decision c.in-If.condition these those = search (rules, the_lemmas, fold_out-CoreStmt) in
    let first : Adds r old (code_subjects p f these) mid = search rules in
    let second : OnOk c.keep_code-in-If.result (Adds r mid (code_subjects p f those) new) = search rules in
    subst (λ (s : CoreStmt). OnOk c.keep_code-in-If.result (Adds r old (stmt_subjects p f s) new)) (sym view)
    (on_ok_weaker c.keep_code-in-If.result (λ end. adds_two r old mid new (code_subjects p f these) (code_subjects p f those) first end) second)

pub keep_stmt-returns-in_ok-keep_code-in-Loop : goal.keep_stmt-returns-in_ok-keep_code-in-Loop
keep_stmt-returns-in_ok-keep_code-in-Loop t c =
    let r = c.args.how.reason in
    let p = core_view c.args.core.now in
    let f = core_function_view c.args.function.now in
    let inv = formula_view c.in-Loop.invariant in
    let entry = subject_at_one c.in-Loop.entry (of_formula false inv) in
    let again = subject_at_one c.in-Loop.again (of_formula false inv) in
    let test = code_subjects p f (code_view c.in-Loop.test) in
    let body = code_subjects p f (code_view c.in-Loop.body) in
    let old = c.args.entries.now in
    let one = c.keep_formula.new.entries in
    let two = c.keep_formula-in-Loop.new.entries in
    let three = c.keep_code-in-Loop.new.entries in
    let new = c.keep_code-in-Loop-2.new.entries in
    let view : core_stmt_view c.args.s.now ≡ do_loop c.in-Loop.entry c.in-Loop.again inv c.in-Loop.decision (code_view c.in-Loop.test) c.in-Loop.condition (code_view c.in-Loop.body) =
    search (rules, the_lemmas, fold_out-CoreStmt) in
    let first : Adds r old entry one = c.in_ok-keep_formula-in-Loop.ensures in
    let second : Adds r one again two = c.in_ok-keep_formula-in-Loop-2.ensures in
    let third : Adds r two test three = search rules in
    let fourth : OnOk c.keep_code-in-Loop-2.result (Adds r three body new) = search rules in
    subst (λ (s : CoreStmt). OnOk c.keep_code-in-Loop-2.result (Adds r old (stmt_subjects p f s) new)) (sym view)
    (on_ok_weaker c.keep_code-in-Loop-2.result
    (λ end. adds_two r old one new entry (again ++ (test ++ body)) first
    (adds_two r one two new again (test ++ body) second (adds_two r two three new test body third end))) fourth)

pub keep_stmt-returns-in-Return : goal.keep_stmt-returns-in-Return
keep_stmt-returns-in-Return t c =
    let r = c.args.how.reason in
    let view : core_stmt_view c.args.s.now ≡ do_return c.in-Return.value c.in-Return.site = search (rules, the_lemmas, fold_out-CoreStmt) in
    subst (λ (s : CoreStmt). OnOk c.keep_formula-in-Return.result
    (Adds r c.args.entries.now (stmt_subjects (core_view c.args.core.now) (core_function_view c.args.function.now) s) c.keep_formula-in-Return.new.entries))
    (sym view) c.keep_formula-in-Return.ensures

pub keep_code-loop-s-preserved : goal.keep_code-loop-s-preserved
keep_code-loop-s-preserved t c =
    let r = c.args.how.reason in
    let p = core_view c.args.core.now in
    let f = core_function_view c.args.function.now in
    let ss = c.args.code.now in
    let i = c.loop-s.s-index in
    let first : drop i ss ≡ c.s-item.result ∷ drop (i + 1) ss = drop_more ss i c.s-item.result c.loop-s-test.true ∙ ap (λ x. x ∷ drop (i + 1) ss) (sym c.s-item.is) in
    let added : Adds r c.loop-s.entries (stmt_subjects p f (core_stmt_view c.s-item.result)) c.keep_stmt.new.entries = search rules in
    kept_next r c.loop-s.entries c.keep_stmt.new.entries _ (stmt_subjects p f (core_stmt_view c.s-item.result)) (code_subjects p f (code_view (drop (i + 1) ss))) added
    (subst (λ l. c.loop-s.entries ++ kept_of r (code_subjects p f (code_view l)) ≡ c.args.entries.now ++ kept_of r (code_subjects p f (code_view ss))) first c.loop-s.invariant)
