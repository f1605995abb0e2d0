use Rattle.std.proofs.Common.{◌≡◌, ◌++◌, drop}
use Rattle.word_blast.specs.Groups.{add}
use Rattle.word_blast.proofs.builder.Builder.add.Given as goal

abbrev pub invariant-loop-i : goal.invariant-loop-i
invariant-loop-i l =
    (l.bits.items ++ (add (drop l.i l.xs) (drop l.i l.ys) l.over l.self).bits ≡ (add l.xs l.ys l.initial.over l.initial.self).bits)
    × ((add (drop l.i l.xs) (drop l.i l.ys) l.over l.self).carry ≡ (add l.xs l.ys l.initial.over l.initial.self).carry)
    × ((add (drop l.i l.xs) (drop l.i l.ys) l.over l.self).circuit ≡ (add l.xs l.ys l.initial.over l.initial.self).circuit)
