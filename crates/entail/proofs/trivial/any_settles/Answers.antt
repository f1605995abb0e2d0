use Rattle.entail.proofs.Reading.{fact-within}
use Rattle.entail.proofs.trivial.any_settles.Goals as goal

pub settles-requires : goal.settles-requires
settles-requires c = fact-within c.args.terms.now.nodes c.args.facts.now c.requires c.loop-fact.fact-index _ c.loop-fact-test.true
