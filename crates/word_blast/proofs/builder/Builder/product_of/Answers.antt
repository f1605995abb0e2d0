use Rattle.std.proofs.Common.{◌≡◌, refl, ◌-◌, ◌<◌, suc, sym, ◌∙◌, ap, subst, arith, drop, length}
use Rattle.word_blast.specs.Groups.{product_of}
use Rattle.word_blast.proofs.Loops.{product-start, product-step}
use Rattle.word_blast.proofs.builder.Builder.product_of.Goals as goal

pub loop-i-init : goal.loop-i-init
loop-i-init c =
    let e = product-start c.args.xs.now c.args.ys.now c.args.self.now in
    (c.new-bits.ensures.items ∙ ap (λ r. r.bits) (sym e), ap (λ r. r.circuit) (sym e))

pub loop-i-preserved : goal.loop-i-preserved
loop-i-preserved c =
    let e : c.loop-i.i ≡ suc (c.loop-i.i - 1) = omega arith in
    let h : c.loop-i.i - 1 < length c.args.ys.now = omega arith in
    product-step c.args.xs.now c.args.ys.now c.loop-i.bits.items c.in_ok-bits.bits.items c.args.self.now c.loop-i.self c.product_row.new.self (c.loop-i.i - 1) (length c.args.ys.now - (c.loop-i.i - 1)) _ h refl
    (subst (λ j. c.loop-i.bits.items ≡ (product_of c.args.xs.now (drop j c.args.ys.now) c.args.self.now).bits) e c.loop-i.invariant.0)
    (subst (λ j. c.loop-i.self ≡ (product_of c.args.xs.now (drop j c.args.ys.now) c.args.self.now).circuit) e c.loop-i.invariant.1)
    (rw c.deref.ensures.value at c.in_ok-bits.ensures.bits) (rw c.deref.ensures.value at c.in_ok-bits.ensures.circuit)

pub returns-clause-bits : goal.returns-clause-bits
returns-clause-bits c =
    let e : c.loop-i.i ≡ 0 = omega arith in
    subst (λ j. c.loop-i.bits.items ≡ (product_of c.args.xs.now (drop j c.args.ys.now) c.args.self.now).bits) e c.loop-i.invariant.0

pub returns-clause-circuit : goal.returns-clause-circuit
returns-clause-circuit c =
    let e : c.loop-i.i ≡ 0 = omega arith in
    subst (λ j. c.loop-i.self ≡ (product_of c.args.xs.now (drop j c.args.ys.now) c.args.self.now).circuit) e c.loop-i.invariant.1
