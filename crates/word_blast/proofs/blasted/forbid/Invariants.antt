use Rattle.std.proofs.Common.{◌≡◌, ◌++◌, map, take}
use Rattle.word_blast.specs.Circuits.{false_clauses}
use Rattle.word_blast.proofs.blasted.forbid.Given as goal

abbrev pub invariant-loop-term : goal.invariant-loop-term
invariant-loop-term l = l.builder ≡ record { variables = l.initial.builder.variables; clauses = l.initial.builder.clauses ++ false_clauses l.rows (map (λ t. t.0) (take l.term-index l.falsehoods)) }
