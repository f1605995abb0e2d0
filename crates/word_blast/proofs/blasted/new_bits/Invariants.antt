use Rattle.std.proofs.Common.{◌≡◌, ◌++◌, ◌-◌}
use Rattle.word_blast.specs.Groups.{lits_from}
use Rattle.word_blast.proofs.blasted.new_bits.Given as goal

abbrev pub invariant-loop-variable : goal.invariant-loop-variable
invariant-loop-variable l = l.bits.items ++ lits_from l.variable (l.variable-end - l.variable) ≡ lits_from l.first l.count
