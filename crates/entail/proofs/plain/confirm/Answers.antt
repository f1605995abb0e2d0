use Rattle.std.proofs.Common.{List, refl, subst}
use Rattle.sat_check.specs.declared.clause.Clause.{Clause}
use Rattle.sat_check.specs.Clauses.{IsUnsatisfiable}
use Rattle.entail.proofs.plain.confirm.Goals as goal

pub returns : goal.returns
returns c = subst (λ (cs : List Clause). IsUnsatisfiable cs) c.as_slice.ensures (c.in-Refuted.ensures.sound refl)
