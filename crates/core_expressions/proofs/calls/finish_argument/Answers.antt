use Rattle.std.proofs.Common.{ℕ, Bool, [], refl, sym, ap, subst}
use Rattle.core_tree.specs.CoreTree.{do_set}
use Rattle.lowering_laws.specs.Counts.{with_constant, with_temp}
use Rattle.lowering_laws.specs.Trees.{one, argument_code}
use Rattle.core_expressions.specs.Writing.{IsWritten, temp_in}
use Rattle.core_expressions.proofs.Joins.{alike, after_taken, nothing}
use Rattle.core_expressions.proofs.calls.finish_argument.Goals as goal

pub returns-then-constant-clause-written : goal.returns-then-constant-clause-written
returns-then-constant-clause-written c = λ k s.
    let w = c.args.within.now in
    let x = c.args.x in
    let v = c.in_ok-to.ensures.written k s in
    let p = c.in_ok-push_set.ensures (with_temp x.shape k) v.counts in
    subst (λ (b : Bool). IsWritten c.args.out.now c.push_set.new.out (with_constant b x.shape k) (argument_code b (temp_in w x.shape k) x.value) [] []) (sym c.if-constant.true)
    (alike (after_taken v p) (ap (λ (n : ℕ). one (do_set n x.value)) (c.in_ok-to.ensures.number k s)) refl refl)

pub returns-clause-written : goal.returns-clause-written
returns-clause-written c = λ k s.
    let w = c.args.within.now in
    let x = c.args.x in
    let o = c.args.out.now in
    subst (λ (b : Bool). IsWritten o o (with_constant b x.shape k) (argument_code b (temp_in w x.shape k) x.value) [] []) (sym c.if-constant.false)
    (nothing o k s)
