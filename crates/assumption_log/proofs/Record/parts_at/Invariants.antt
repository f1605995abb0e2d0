-- What holds in the loop of `parts_at`.
use Rattle.std.proofs.Common.{◌≡◌, ◌++◌, drop, map}
use Rattle.assumption_log.specs.Records.{kept_view, parts_besides, parts_at}
use Rattle.assumption_log.proofs.Record.parts_at.Given as goal

abbrev pub invariant-loop-entry : goal.invariant-loop-entry
invariant-loop-entry l =
    l.found ++ parts_besides l.found (map kept_view (drop l.entry-index l.entry-items)) l.site l.known ≡ parts_at (map kept_view l.entry-items) l.site l.known
