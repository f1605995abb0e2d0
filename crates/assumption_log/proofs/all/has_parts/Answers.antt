-- What the search leaves of the proof of `has_parts`.
use Rattle.assumption_log.proofs.Parts.{parts_told}
use Rattle.assumption_log.proofs.all.has_parts.Goals as goal

pub returns : goal.returns
returns c = parts_told c.args.formula.now.parts c.is_empty.result c.is_empty.ensures
