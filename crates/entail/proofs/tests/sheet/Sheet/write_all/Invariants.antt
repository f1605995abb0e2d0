use Rattle.entail.specs.Sheets.{ArePlaced}
use Rattle.entail.proofs.tests.sheet.Sheet.write_all.Given as goal

abbrev pub invariant-loop-token : goal.invariant-loop-token
invariant-loop-token l = record {
  can : (goal.iterator-loop-token).can_next l.token-iterator;
  ends : (goal.iterator-loop-token).is_finite l.token-iterator;
  letters : ArePlaced l.self.terms.nodes l.self.letters.items;
  stack : ArePlaced l.self.terms.nodes l.self.stack.items;
}
