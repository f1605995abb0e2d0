-- What the search leaves of the proof of `push`.
use Rattle.std.proofs.Common.{◌∙◌, ap}
use Rattle.tree_copies.proofs.Fronts.{parts_before, part_pushed}
use Rattle.tree_copies.proofs.conjuncts.push.Goals as goal

pub returns : goal.returns
returns c rest = ap (λ cs. parts_before cs rest) c.in_ok-push.ensures.ok ∙ part_pushed c.args.parts.now c.args.part rest
