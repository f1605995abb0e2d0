use Rattle.std.proofs.Common.{subst, sym}
use Rattle.word_blast.specs.Valuations.{AreTruths}
use Rattle.word_blast.specs.Queries.{ids}
use Rattle.solver_bench.proofs.Kept.{are_truths}
use Rattle.solver_bench.proofs.rounds.round.Goals as goal

pub blast-requires-clause-truths : goal.blast-requires-clause-truths
blast-requires-clause-truths g c = subst (λ rs. AreTruths c.roots_of.new.terms.nodes (ids rs)) (sym c.deref.ensures.value)
    (are_truths c.roots_of.new.terms.nodes c.in_ok-roots.roots.items c.in_ok-roots.ensures.truths)
