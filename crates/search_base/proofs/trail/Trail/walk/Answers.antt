use Rattle.sat_check.specs.Logs.{known_before}
use Rattle.search_base.proofs.trail.Trail.walk.Goals as goal

pub returns-then-not-branch-clause-keeps : goal.returns-then-not-branch-clause-keeps
returns-then-not-branch-clause-keeps c = c.in_ok-take_all.ensures.keeps (known_before c.args.clauses.now c.args.entries.now)

pub follow_all-requires-clause-keeps : goal.follow_all-requires-clause-keeps
follow_all-requires-clause-keeps c = c.in_ok-take_all.ensures.keeps (known_before c.args.clauses.now c.args.entries.now)
