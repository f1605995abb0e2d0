-- What holds in the loop of `keep_code`.
use Rattle.std.proofs.Common.{◌≡◌, ◌++◌, drop}
use Rattle.core_tree.specs.CoreViews.{core_view, core_function_view, code_view}
use Rattle.core_checks.specs.Subjects.{code_subjects}
use Rattle.assumption_log.specs.Keeping.{kept_of}
use Rattle.assumption_log.proofs.all.+keeping.Given as goal

abbrev pub invariant-keep_code-loop-s : goal.invariant-keep_code-loop-s
invariant-keep_code-loop-s l =
    l.entries ++ kept_of l.how.reason (code_subjects (core_view l.core) (core_function_view l.function) (code_view (drop l.s-index l.code)))
    ≡ l.initial.entries ++ kept_of l.how.reason (code_subjects (core_view l.core) (core_function_view l.function) (code_view l.code))
