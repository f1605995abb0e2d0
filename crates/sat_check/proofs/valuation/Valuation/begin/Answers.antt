use Rattle.std.proofs.Common.{arith}
use Rattle.sat_check.proofs.Walks.{Shows-none}
use Rattle.sat_check.proofs.valuation.Valuation.begin.Goals as goal
use Rattle.sat_check.proofs.valuation.Valuation.begin.Goals.{then-self, else-self}

pub returns-clause-shows : goal.returns-clause-shows
returns-clause-shows c =
    Shows-none _ _
    (λ k d within.
    elim c.if-self.branch [
      | then-self w ↦ grind (arith, w.forget.ensures.rounds k d)
      | else-self w ↦ grind (arith, c.requires k d)
    ])
