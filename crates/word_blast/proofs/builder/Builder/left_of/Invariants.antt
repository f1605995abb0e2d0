use Rattle.std.proofs.Common.{◌≡◌, drop}
use Rattle.word_blast.specs.Bits.{moved_up}
use Rattle.word_blast.specs.Groups.{zero_lit, barrel}
use Rattle.word_blast.proofs.builder.Builder.left_of.Given as goal

abbrev pub invariant-loop-j : goal.invariant-loop-j
invariant-loop-j l = barrel (moved_up zero_lit) l.j (drop l.j l.amount) l.bits.items l.self ≡ barrel (moved_up zero_lit) 0 l.amount l.initial.bits.items l.initial.self
