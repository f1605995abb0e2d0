use Rattle.std.proofs.Common.{◌≡◌, drop}
use Rattle.word_blast.specs.Groups.{product_of}
use Rattle.word_blast.proofs.builder.Builder.product_of.Given as goal

abbrev pub invariant-loop-i : goal.invariant-loop-i
invariant-loop-i l =
    (l.bits.items ≡ (product_of l.xs (drop l.i l.ys) l.initial.self).bits) × (l.self ≡ (product_of l.xs (drop l.i l.ys) l.initial.self).circuit)
