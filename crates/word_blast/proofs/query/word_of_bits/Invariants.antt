use Rattle.std.proofs.Common.{◌≡◌, ◌+◌, ◌-◌, ◌%◌, ◌^◌}
use Rattle.word_blast.specs.Bits.{number}
use Rattle.word_blast.specs.Gates.{bits}
use Rattle.word_blast.specs.Groups.{lits_from}
use Rattle.word_blast.specs.Valuations.{assigned}
use Rattle.word_blast.proofs.query.word_of_bits.Given as goal

abbrev pub invariant-loop-i : goal.invariant-loop-i
invariant-loop-i l = l.word ≡ number (bits (assigned l.assignment) (lits_from (l.input.first + l.i) (l.input.count - l.i))) % 2 ^ 32
