use Rattle.std.proofs.Common.{◌%◌, refl, ◌<◌, ◌*◌, ◌^◌, ap, arith, length}
use Rattle.std.proofs.lemmas.List.{length-take}
use Rattle.word_blast.specs.Bits.{moved_up}
use Rattle.word_blast.specs.Groups.{zero_lit}
use Rattle.word_blast.proofs.Loops.{barrel-step, barrel-end}
use Rattle.word_blast.proofs.builder.Builder.left_of.Goals as goal

pub loop-j-preserved : goal.loop-j-preserved
loop-j-preserved c =
    let small : c.loop-j.j < 64 = omega (arith, ap length c.front-amount.ensures, length-take 5 c.args.ys.now) in
    let m = rw c.deref.ensures.value at c.in_ok-moved.ensures in
    let b = rw (c.deref-in-loop-j.ensures.value, c.deref-in-loop-j-2.ensures.value) at c.in_ok-bits-2.ensures.bits in
    let n = rw (c.deref-in-loop-j.ensures.value, c.deref-in-loop-j-2.ensures.value) at c.in_ok-bits-2.ensures.circuit in
    barrel-step (moved_up zero_lit) c.front-amount.result.now c.loop-j.bits.items c.in_ok-moved.moved.items c.in_ok-bits-2.bits.items c.loop-j.self c.pick_of.new.self c.loop-j.j ((1 * 2 ^ c.loop-j.j) % 2 ^ 64) _ _
    c.loop-j-test.true small refl m b n c.loop-j.invariant

pub returns-clause-bits : goal.returns-clause-bits
returns-clause-bits c =
    let e = barrel-end (moved_up zero_lit) c.front-amount.result.now c.loop-j.bits.items c.loop-j.self c.loop-j.j _ c.loop-j-test.false c.loop-j.invariant in
    rw (c.front-amount.ensures, c.in_ok-bits.ensures.items) at e.0

pub returns-clause-circuit : goal.returns-clause-circuit
returns-clause-circuit c =
    let e = barrel-end (moved_up zero_lit) c.front-amount.result.now c.loop-j.bits.items c.loop-j.self c.loop-j.j _ c.loop-j-test.false c.loop-j.invariant in
    rw (c.front-amount.ensures, c.in_ok-bits.ensures.items) at e.1
