use Rattle.resolved_laws.proofs.FormulaPrograms.{formulas_fit}
use Rattle.resolved_laws.proofs.resolved_formulas_fit.Goals as goal

pub returns : goal.returns
returns c = formulas_fit
