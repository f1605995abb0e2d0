use Rattle.sat_check.specs.Logs.{known_before}
use Rattle.sat_search.proofs.Adapting.{Learns-adapted, leveled}
use Rattle.sat_search.proofs.analysis.analyze_plainly.Goals as goal

pub returns-clause-learns : goal.returns-clause-learns
returns-clause-learns c =
    let entry = c.in_ok-entry.field-0.entry in
    Learns-adapted (known_before c.args.clauses.now c.args.entries.now) c.args.placed.now.trail.steps.items c.args.levels.start c.args.levels.base entry.clause.lits c.as_slice.result.now entry.hints
    c.in_ok-entry.field-0.keep c.decision_among-asserting.result c.in_ok-entry.ensures c.requires.base c.as_slice.ensures c.decision_among-asserting.ensures.some c.decision_among-asserting.ensures.none

pub returns-clause-leveled : goal.returns-clause-leveled
returns-clause-leveled c is =
    leveled c.args.placed.now.trail.steps.items c.args.levels.start c.args.levels.base c.as_slice.result.now c.decision_among-asserting.result c.decision_among-asserting.ensures.some is
