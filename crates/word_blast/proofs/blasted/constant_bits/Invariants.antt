use Rattle.std.proofs.Common.{◌≡◌, ◌++◌, ◌-◌, map}
use Rattle.word_blast.specs.Bits.{bits_of}
use Rattle.word_blast.specs.Gates.{constant_lit}
use Rattle.word_blast.proofs.blasted.constant_bits.Given as goal

abbrev pub invariant-loop-i : goal.invariant-loop-i
invariant-loop-i l = l.bits.items ++ map constant_lit (bits_of (32 - l.i) l.rest) ≡ map constant_lit (bits_of 32 l.fn.word.0)
