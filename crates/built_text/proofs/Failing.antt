-- A part of the reading and the whole.
use Rattle.std.proofs.Common.{◌≡◌, Result, sym, subst}
use Rattle.gc0_base.specs.declared.place.Place.{Place}
use Rattle.built_text.specs.declared.tree.ReadFault.{ReadFault}
use Rattle.built_text.specs.Tree.{ProgramTree}
use Rattle.built_text.specs.Plan.{FailsAs, Answers}

-- a fault of a part is the fault of the whole
pub fails_as : (whole part : Result ProgramTree Place) (e : ReadFault) → whole ≡ part → FailsAs part e → FailsAs whole e
fails_as whole part e same f = subst (λ r. FailsAs r e) (sym same) f

-- what a part answers, the whole answers
pub along : {X : Type 0} (rest : X → Result ProgramTree Place) (whole part : Result ProgramTree Place) (r : Result X ReadFault) → whole ≡ part → Answers rest part r → Answers rest whole r
along rest whole part r same f = subst (λ w. Answers rest w r) (sym same) f
