use Rattle.std.proofs.Common.{◌≡◌, drop}
use Rattle.word_blast.specs.Groups.{divide}
use Rattle.word_blast.proofs.builder.Builder.divide.Given as goal

abbrev pub invariant-loop-i : goal.invariant-loop-i
invariant-loop-i l =
    (l.quotient.items ≡ (divide (drop l.i l.xs) l.ys l.initial.self).quotient) × (l.remainder.items ≡ (divide (drop l.i l.xs) l.ys l.initial.self).remainder)
    × (l.self ≡ (divide (drop l.i l.xs) l.ys l.initial.self).circuit)
