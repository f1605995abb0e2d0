use Rattle.std.proofs.Common.{length}
use Rattle.sat_check.specs.Logs.{known_before}
use Rattle.sat_check.specs.Laws.{known_below, below_at}
use Rattle.search_state.proofs.shelf.Shelf.has_marked.Goals as goal

pub are_marked-requires-clause-below : goal.are_marked-requires-clause-below
are_marked-requires-clause-below c =
    let known = known_before c.args.clauses.now c.args.entries.now in
    let n = length c.args.self.now.positive.items in
    let all = known_below n c.args.clauses.now c.args.entries.now c.requires.clauses_below c.requires.entries_below in
    below_at n known c.args.index (record { lits = c.in-Some.lits.now }) all c.in-Some.ensures
