use Rattle.word_blast.specs.Queries.{ids}
use Rattle.word_blast.specs.Valuations.{AreTruths}
use Rattle.entail.specs.Questions.{IsTruth}
use Rattle.entail.specs.Sheets.{ArePlaced}
use Rattle.entail.proofs.tests.sheet.Sheet.ask.Given as goal

abbrev pub invariant-loop-fact : goal.invariant-loop-fact
invariant-loop-fact g l = record {
  stack : ArePlaced l.self.terms.nodes l.self.stack.items;
  facts : AreTruths l.self.terms.nodes (ids l.facts.items);
  claim : IsTruth l.self.terms.nodes l.claim.0;
}
