-- What the search leaves of the proof of `keep_before`.
use Rattle.std.proofs.Common.{rules, ◌≡◌, Option, Some, None, OnOk, map, sym, ap, subst, ◌∙◌}
use Rattle.std.specs.Prelude.{false, slice_get}
use Rattle.std.specs.Option.{option_map}
use Rattle.std.proofs.lemmas.Option.{slice_get-map}
use Rattle.core_tree.specs.CoreTree.{CoreFunction}
use Rattle.core_tree.specs.CoreViews.{core_function_view}
use Rattle.core_meaning.specs.CoreRunning.{before_of}
use Rattle.core_checks.specs.Subjects.{of_formula, subject_at_one}
use Rattle.assumption_log.specs.Keeping.{Adds}
use Rattle.assumption_log.proofs.Keeping.{adds_none}
use Rattle.assumption_log.proofs.all.keep_before.Goals as goal

pub returns-in-None : goal.returns-in-None
returns-in-None c =
    let here : slice_get c.args.core.now.functions c.args.callee ≡ None = search rules in
    let seen : slice_get (map core_function_view c.args.core.now.functions) c.args.callee ≡ None =
    slice_get-map core_function_view c.args.core.now.functions c.args.callee ∙ ap (option_map core_function_view) here in
    subst (λ (o : Option CoreFunction). Adds c.args.how.reason c.args.entries.now (subject_at_one c.args.site (of_formula false (before_of o))) c.args.entries.now)
    (sym seen) (adds_none c.args.how.reason c.args.entries.now)

pub returns-in-Some : goal.returns-in-Some
returns-in-Some c =
    let here : slice_get c.args.core.now.functions c.args.callee ≡ Some c.in-Some.function.now = search rules in
    let seen : slice_get (map core_function_view c.args.core.now.functions) c.args.callee ≡ Some (core_function_view c.in-Some.function.now) =
    slice_get-map core_function_view c.args.core.now.functions c.args.callee ∙ ap (option_map core_function_view) here in
    subst (λ (o : Option CoreFunction). OnOk c.keep_formula.result (Adds c.args.how.reason c.args.entries.now (subject_at_one c.args.site (of_formula false (before_of o))) c.keep_formula.new.entries))
    (sym seen) c.keep_formula.ensures
