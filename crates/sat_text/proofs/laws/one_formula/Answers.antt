use Rattle.sat_text.proofs.Saying.{one_formula}
use Rattle.sat_text.proofs.laws.one_formula.Goals as goal

pub returns : goal.returns
returns c = one_formula
