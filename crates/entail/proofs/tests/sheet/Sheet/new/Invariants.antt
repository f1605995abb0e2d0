use Rattle.entail.specs.Sheets.{ArePlaced}
use Rattle.entail.proofs.tests.sheet.Sheet.new.Given as goal

abbrev pub invariant-loop-word : goal.invariant-loop-word
invariant-loop-word l = record { letters : ArePlaced l.sheet.terms.nodes l.sheet.letters.items; stack : ArePlaced l.sheet.terms.nodes l.sheet.stack.items }

abbrev pub invariant-loop-truth : goal.invariant-loop-truth
invariant-loop-truth l = record { letters : ArePlaced l.sheet.terms.nodes l.sheet.letters.items; stack : ArePlaced l.sheet.terms.nodes l.sheet.stack.items }
