use Rattle.entail.specs.Sheets.{ArePlaced}
use Rattle.entail.proofs.tests.sheet.Sheet.write_repeatedly.Given as goal

abbrev pub invariant-loop-time : goal.invariant-loop-time
invariant-loop-time l = record { letters : ArePlaced l.self.terms.nodes l.self.letters.items; stack : ArePlaced l.self.terms.nodes l.self.stack.items }
