use Rattle.std.proofs.Common.{◌≡◌, ◌-◌, ◌<◌, suc, sym, ◌∙◌, ap, subst, arith, drop, length}
use Rattle.word_blast.specs.Groups.{divide}
use Rattle.word_blast.proofs.Loops.{divide-start, divide-step}
use Rattle.word_blast.proofs.builder.Builder.divide.Goals as goal

pub loop-i-init : goal.loop-i-init
loop-i-init c =
    let e = divide-start c.args.xs.now c.args.ys.now c.args.self.now in
    (c.new-quotient.ensures.items ∙ ap (λ r. r.quotient) (sym e), c.in_ok-remainder.ensures ∙ ap (λ r. r.remainder) (sym e), ap (λ r. r.circuit) (sym e))

pub loop-i-preserved : goal.loop-i-preserved
loop-i-preserved c =
    let e : c.loop-i.i ≡ suc (c.loop-i.i - 1) = omega arith in
    let h : c.loop-i.i - 1 < length c.args.xs.now = omega arith in
    divide-step c.args.xs.now c.args.ys.now c.in_ok-subtrahend.subtrahend.items c.loop-i.quotient.items c.loop-i.remainder.items c.in_ok-quotient.quotient.items c.in_ok-row.row.remainder.items c.in_ok-row.row.bit
    c.args.self.now c.loop-i.self c.divide_row.new.self (c.loop-i.i - 1) _ h c.in_ok-subtrahend.ensures
    (subst (λ j. (c.loop-i.quotient.items ≡ (divide (drop j c.args.xs.now) c.args.ys.now c.args.self.now).quotient) × (c.loop-i.remainder.items ≡ (divide (drop j c.args.xs.now) c.args.ys.now c.args.self.now).remainder) × (c.loop-i.self ≡ (divide (drop j c.args.xs.now) c.args.ys.now c.args.self.now).circuit)) e c.loop-i.invariant)
    (rw (c.deref.ensures.value, c.deref-in-loop-i.ensures.value) at c.in_ok-row.ensures.bit)
    (rw (c.deref.ensures.value, c.deref-in-loop-i.ensures.value) at c.in_ok-row.ensures.remainder)
    (rw (c.deref.ensures.value, c.deref-in-loop-i.ensures.value) at c.in_ok-row.ensures.circuit)
    (rw c.deref-in-loop-i-2.ensures.value at c.in_ok-quotient.ensures)

pub returns-clause-quotient : goal.returns-clause-quotient
returns-clause-quotient c =
    let e : c.loop-i.i ≡ 0 = omega arith in
    (subst (λ j. (c.loop-i.quotient.items ≡ (divide (drop j c.args.xs.now) c.args.ys.now c.args.self.now).quotient) × (c.loop-i.remainder.items ≡ (divide (drop j c.args.xs.now) c.args.ys.now c.args.self.now).remainder) × (c.loop-i.self ≡ (divide (drop j c.args.xs.now) c.args.ys.now c.args.self.now).circuit)) e c.loop-i.invariant).0

pub returns-clause-remainder : goal.returns-clause-remainder
returns-clause-remainder c =
    let e : c.loop-i.i ≡ 0 = omega arith in
    (subst (λ j. (c.loop-i.quotient.items ≡ (divide (drop j c.args.xs.now) c.args.ys.now c.args.self.now).quotient) × (c.loop-i.remainder.items ≡ (divide (drop j c.args.xs.now) c.args.ys.now c.args.self.now).remainder) × (c.loop-i.self ≡ (divide (drop j c.args.xs.now) c.args.ys.now c.args.self.now).circuit)) e c.loop-i.invariant).1

pub returns-clause-circuit : goal.returns-clause-circuit
returns-clause-circuit c =
    let e : c.loop-i.i ≡ 0 = omega arith in
    (subst (λ j. (c.loop-i.quotient.items ≡ (divide (drop j c.args.xs.now) c.args.ys.now c.args.self.now).quotient) × (c.loop-i.remainder.items ≡ (divide (drop j c.args.xs.now) c.args.ys.now c.args.self.now).remainder) × (c.loop-i.self ≡ (divide (drop j c.args.xs.now) c.args.ys.now c.args.self.now).circuit)) e c.loop-i.invariant).2
