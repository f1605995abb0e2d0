-- What holds in the loop of `kept_entries`.
use Rattle.std.proofs.Common.{◌≡◌, ◌++◌, drop, map}
use Rattle.core_tree.specs.CoreViews.{core_view, core_function_view}
use Rattle.assumption_log.specs.AllKept.{entries_from, all_entries}
use Rattle.assumption_log.specs.Keeping.{with_reason}
use Rattle.assumption_log.proofs.all.kept_entries.Given as goal

abbrev pub invariant-loop-number : goal.invariant-loop-number
invariant-loop-number l =
    l.entries ++ map (with_reason l.how.reason) (entries_from (core_view l.core) l.number (map core_function_view (drop l.number l.function-items)))
    ≡ map (with_reason l.how.reason) (all_entries (core_view l.core))
