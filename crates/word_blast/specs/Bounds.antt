-- The variables of a circuit.
use Rattle.std.specs.Prelude.{ℕ, List}
use Rattle.sat_check.specs.Clauses.{ClausesAreBelow}
use Rattle.word_terms.specs.Tables.{Table, IsTable}
use Rattle.word_blast.specs.Circuits.{circuit}
use Rattle.word_blast.specs.Valuations.{AreTruths}

-- the law of a circuit's variables: its clauses speak of no others
abbrev pub CircuitsAreBelow : Type 0
CircuitsAreBelow =
    (table : Table) (truths falsehoods : List ℕ) → IsTable table → AreTruths table.nodes truths → AreTruths table.nodes falsehoods
    → ClausesAreBelow (circuit table truths falsehoods).variables (circuit table truths falsehoods).clauses
