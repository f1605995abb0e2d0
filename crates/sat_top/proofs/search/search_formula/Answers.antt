use Rattle.std.proofs.Common.{refl}
use Rattle.sat_top.proofs.Ended.{says_unknown, unknown_ends}
use Rattle.sat_top.proofs.search.search_formula.Goals as goal

pub returns-in-Ok-Spent-clause-ends : goal.returns-in-Ok-Spent-clause-ends
returns-in-Ok-Spent-clause-ends g c =
    let e = c.in-Ok-Spent.ensures in
    let says = says_unknown c.args.formula.now c.args.request.conflicts _ _ c.in-Ok-Spent.field-0-0 c.as_slice-clauses.ensures c.in-Ok-Spent.field-0-is e.spent e.never_spent e.never_spent_by_propagation in
    unknown_ends _ _ _ _ says refl c.answer-in-Ok-Spent.ensures.answers
