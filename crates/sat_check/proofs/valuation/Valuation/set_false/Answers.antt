use Rattle.sat_check.proofs.Walks.{Shows-set}
use Rattle.sat_check.proofs.valuation.Valuation.set_false.Goals as goal

pub returns-clause-shows : goal.returns-clause-shows
returns-clause-shows c = Shows-set c.args.self.now.round c.args.self.now.marks.items c.args.lit c.requires
