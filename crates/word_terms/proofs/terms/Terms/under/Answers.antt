use Rattle.word_terms.specs.Parts.{HavePartsBefore-IsTable}
use Rattle.word_terms.proofs.terms.Terms.under.Goals as goal

pub mark_under-requires-clause-parts : goal.mark_under-requires-clause-parts
mark_under-requires-clause-parts c = rw c.nodes-nodes.ensures.nodes (HavePartsBefore-IsTable c.args.self.now c.nodes-nodes.ensures.formed)
