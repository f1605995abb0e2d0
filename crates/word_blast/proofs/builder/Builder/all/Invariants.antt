use Rattle.std.proofs.Common.{◌≡◌, drop}
use Rattle.word_blast.specs.Groups.{all}
use Rattle.word_blast.proofs.builder.Builder.all.Given as goal

abbrev pub invariant-loop-x : goal.invariant-loop-x
invariant-loop-x l = all l.so_far (drop l.x-index l.xs) l.self ≡ all l.initial.so_far l.xs l.initial.self
