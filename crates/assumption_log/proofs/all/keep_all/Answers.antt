-- What the search leaves of the proof of `keep_all`.
use Rattle.std.proofs.Common.{◌≡◌, List, map, sym, ap, subst, ◌∙◌}
use Rattle.std.specs.Prelude.{All}
use Rattle.core_tree.specs.CoreViews.{core_view}
use Rattle.assumption_log.specs.declared.Kept.{Kept}
use Rattle.assumption_log.specs.Records.{kept_view}
use Rattle.assumption_log.specs.AllKept.{all_entries}
use Rattle.assumption_log.proofs.Keeping.{view_reasons, all_reasons}
use Rattle.assumption_log.proofs.all.keep_all.Goals as goal

pub returns-clause-entries : goal.returns-clause-entries
returns-clause-entries c = ap (map kept_view) c.in_ok-entries.ensures ∙ view_reasons c.args.reason (all_entries (core_view c.args.core.now))

pub returns-clause-reasons : goal.returns-clause-reasons
returns-clause-reasons c =
    subst (λ (l : List Kept). All (λ (k : Kept). k.reason ≡ c.args.reason) l) (sym c.in_ok-entries.ensures)
    (all_reasons c.args.reason (all_entries (core_view c.args.core.now)))
