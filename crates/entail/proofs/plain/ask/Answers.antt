use Rattle.std.proofs.Common.{[], ◌∷◌, sym, subst}
use Rattle.sat_check.specs.Clauses.{ClausesAreBelow}
use Rattle.word_blast.specs.Circuits.{Whole}
use Rattle.word_blast.specs.Queries.{ids, whole_of}
use Rattle.entail.proofs.Deciding.{one-truth, ok-justified, ok-queried}
use Rattle.entail.proofs.plain.ask.Goals as goal

pub solve-requires : goal.solve-requires
solve-requires c =
    subst (λ (w : Whole). ClausesAreBelow w.variables w.clauses) (sym c.in-Ok.ensures.circuit)
    (c.circuits_are_below.ensures c.args.terms.now (ids c.args.facts.now) (c.args.claim.0 ∷ []) c.nodes-nodes.ensures.formed c.requires.facts (one-truth c.args.terms.now.nodes c.args.claim.0 c.requires.claim))

pub returns-in-Ok-clause-justified : goal.returns-in-Ok-clause-justified
returns-in-Ok-clause-justified c =
    ok-justified c.args.terms.now c.nodes-nodes.ensures.formed (ids c.args.facts.now) c.args.claim.0 c.requires.claim (whole_of c.in-Ok.query) c.in-Ok.ensures.exact c.in-Ok.ensures.fit c.in-Ok.ensures.circuit
    c.args.conflicts c.solve.result c.solve.ensures

pub returns-in-Ok-clause-queried : goal.returns-in-Ok-clause-queried
returns-in-Ok-clause-queried c =
    ok-queried c.args.terms.now (ids c.args.facts.now) c.args.claim.0 c.args.conflicts (whole_of c.in-Ok.query) c.in-Ok.ensures.circuit c.in-Ok.ensures.small c.solve.result c.solve.ensures
