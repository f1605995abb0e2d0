use Rattle.std.proofs.Common.{◌≡◌, ◌++◌, drop}
use Rattle.word_blast.specs.Groups.{each}
use Rattle.word_blast.proofs.builder.Builder.each.Given as goal

abbrev pub invariant-loop-i : goal.invariant-loop-i
invariant-loop-i l =
    (l.bits.items ++ (each l.gate (drop l.i l.xs) (drop l.i l.ys) l.z l.self).bits ≡ (each l.gate l.xs l.ys l.z l.initial.self).bits)
    × ((each l.gate (drop l.i l.xs) (drop l.i l.ys) l.z l.self).circuit ≡ (each l.gate l.xs l.ys l.z l.initial.self).circuit)
