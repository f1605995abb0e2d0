use Rattle.std.proofs.Common.{inl}
use Rattle.sat_search.proofs.Keeping.{Restarts}
use Rattle.sat_search.proofs.solver.Solver.restart.Goals as goal

pub returns-clause-learned : goal.returns-clause-learned
returns-clause-learned c =
    let mid = c.keep_entry.new.self in
    let kept = c.in_ok-_index.ensures in (
      record { holds = record { state = kept.holds.state; ready = kept.holds.ready; shelf = kept.holds.shelf; carded = kept.holds.carded }; len = kept.len; nearer = inl kept.more },
      Restarts c.args.clauses.now c.args.self.now mid c.args.asserting c.args.keep c.args.base c.in_ok-_index._index kept c.requires.two,
    )
