use Rattle.sat_text.proofs.Saying.{says_found, says_only, says_complete, first_fault}
use Rattle.sat_text.proofs.reading.read.Goals as goal

pub returns-clause-formula : goal.returns-clause-formula
returns-clause-formula c = says_found _ _ c.read_lines.ensures.formula

pub returns-clause-only : goal.returns-clause-only
returns-clause-only c = λ f d. says_only _ f _ d c.read_lines.ensures.formula

pub returns-clause-complete : goal.returns-clause-complete
returns-clause-complete c = λ f d. says_complete _ f _ d c.read_lines.ensures.fault

pub returns-clause-fault : goal.returns-clause-fault
returns-clause-fault c = λ line e. first_fault _ line (c.read_lines.ensures.fault line e)
