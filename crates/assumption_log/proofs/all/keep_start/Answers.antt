-- What the search leaves of the proof of `keep_start`.
use Rattle.std.proofs.Common.{rules, ◌≡◌, ℕ, Bool, false, OnOk, [], if◌then◌else◌, sym, subst}
use Rattle.std.proofs.lemmas.Bool.{eq-eqb}
use Rattle.gc0_tree.specs.Views.{formula_view}
use Rattle.core_meaning.specs.CoreRunning.{start_at}
use Rattle.core_checks.specs.Subjects.{of_formula, subject_at_one}
use Rattle.assumption_log.specs.Keeping.{Adds}
use Rattle.assumption_log.proofs.all.keep_start.Goals as goal

pub returns : goal.returns
returns c =
    let main : c.args.number ≡ c.args.core.now.main = search rules in
    subst (λ (b : Bool). OnOk c.keep_formula.result (Adds c.args.how.reason c.args.entries.now
    (if b then subject_at_one (start_at c.args.number) (of_formula false (formula_view c.args.function.now.before)) else []) c.keep_formula.new.entries))
    (sym (eq-eqb c.args.number c.args.core.now.main main))
    (subst (λ (n : ℕ). OnOk c.keep_formula.result (Adds c.args.how.reason c.args.entries.now
    (subject_at_one (start_at n) (of_formula false (formula_view c.args.function.now.before))) c.keep_formula.new.entries))
    (sym main) c.keep_formula.ensures)
