use Rattle.std.proofs.Common.{◌≡◌, drop}
use Rattle.word_blast.specs.Groups.{carry}
use Rattle.word_blast.proofs.builder.Builder.carry.Given as goal

abbrev pub invariant-loop-i : goal.invariant-loop-i
invariant-loop-i l = carry (drop l.i l.xs) (drop l.i l.ys) l.over l.self ≡ carry l.xs l.ys l.initial.over l.initial.self
