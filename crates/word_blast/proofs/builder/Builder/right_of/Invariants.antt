use Rattle.std.proofs.Common.{◌≡◌, drop}
use Rattle.word_blast.specs.Bits.{moved_down}
use Rattle.word_blast.specs.Groups.{barrel}
use Rattle.word_blast.proofs.builder.Builder.right_of.Given as goal

abbrev pub invariant-loop-j : goal.invariant-loop-j
invariant-loop-j l = barrel (moved_down l.sign) l.j (drop l.j l.amount) l.bits.items l.self ≡ barrel (moved_down l.sign) 0 l.amount l.initial.bits.items l.initial.self
