-- What is answered by hand of the proof of `declaration`.
use Rattle.gc0_base.specs.declared.place.Place.{Place}
use Rattle.built_text.specs.declared.tree.Named.{Named}
use Rattle.built_text.specs.declared.tree.Typed.{Typed}
use Rattle.built_text.specs.Tree.{RightTree, StmtTree, declare}
use Rattle.built_text.specs.Plan.{Plan, assigned}
use Rattle.built_text.proofs.Failing.{fails_as}
use Rattle.built_text.proofs.statements.declaration.Goals as goal

abbrev made : Typed → (StmtTree → Plan) → Named → Place → RightTree → Plan
made t next n q r = next (declare t n q r)

pub returns-in-Err-clause-reads : goal.returns-in-Err-clause-reads
returns-in-Err-clause-reads c = λ next. c.in-Err.ensures.reads (λ n. assigned c.args.room (made c.args.typed next n))

pub returns-in-Err-assignment-clause-reads : goal.returns-in-Err-assignment-clause-reads
returns-in-Err-assignment-clause-reads c = λ next.
    fails_as _ _ _ (c.in-Ok.ensures.reads (λ n. assigned c.args.room (made c.args.typed next n))) (c.in-Err-assignment.ensures.reads (made c.args.typed next c.in-Ok.value.0))
