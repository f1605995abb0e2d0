use Rattle.std.proofs.Common.{subst}
use Rattle.std.proofs.Common.{List}
use Rattle.sat_check.specs.declared.log.Entry.{Entry}
use Rattle.sat_check.specs.Marks.{VerdictIs}
use Rattle.sat_check.proofs.Soundness.{sound}
use Rattle.sat_check.proofs.Verdicts.{fault_iff, refuted_iff, derived_iff}
use Rattle.sat_check.proofs.checker.check.Goals as goal

pub returns-clause-fault : goal.returns-clause-fault
returns-clause-fault c =
    fault_iff c.args.clauses.now c.args.log.now.entries c.verdict_of.result
    (subst (λ (es : List Entry). VerdictIs c.args.clauses.now es c.verdict_of.result) c.as_slice.ensures c.verdict_of.ensures.verdict)

pub returns-clause-refuted : goal.returns-clause-refuted
returns-clause-refuted c =
    refuted_iff c.args.clauses.now c.args.log.now.entries c.verdict_of.result
    (subst (λ (es : List Entry). VerdictIs c.args.clauses.now es c.verdict_of.result) c.as_slice.ensures c.verdict_of.ensures.verdict)

pub returns-clause-derived : goal.returns-clause-derived
returns-clause-derived c =
    derived_iff c.args.clauses.now c.args.log.now.entries c.verdict_of.result
    (subst (λ (es : List Entry). VerdictIs c.args.clauses.now es c.verdict_of.result) c.as_slice.ensures c.verdict_of.ensures.verdict)

pub returns-clause-sound : goal.returns-clause-sound
returns-clause-sound c e =
    let verdict = subst (λ (es : List Entry). VerdictIs c.args.clauses.now es c.verdict_of.result) c.as_slice.ensures c.verdict_of.ensures.verdict in
    sound c.args.clauses.now c.args.log.now.entries ((refuted_iff c.args.clauses.now c.args.log.now.entries c.verdict_of.result verdict).0 e)
