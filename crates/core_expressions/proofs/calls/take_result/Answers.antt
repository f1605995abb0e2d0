use Rattle.std.proofs.Common.{Option, [], sym, subst}
use Rattle.gc0_tree.specs.declared.Shape.{Shape}
use Rattle.core_tree.specs.CoreTree.{no_code}
use Rattle.lowering_laws.specs.Counts.{with_result}
use Rattle.core_expressions.specs.Writing.{IsWritten}
use Rattle.core_expressions.proofs.Joins.{nothing}
use Rattle.core_expressions.proofs.calls.take_result.Goals as goal

pub returns-in-None-clause-written : goal.returns-in-None-clause-written
returns-in-None-clause-written c = λ k s.
    let o = c.args.out.now in
    subst (λ (g : Option Shape). IsWritten o o (with_result g k) no_code [] []) (sym c.in-None.is) (nothing o k s)

pub returns-in_ok-to-in-Some-clause-written : goal.returns-in_ok-to-in-Some-clause-written
returns-in_ok-to-in-Some-clause-written c = λ k s.
    subst (λ (g : Option Shape). IsWritten c.args.out.now c.take.new.self (with_result g k) no_code [] []) (sym c.in-Some.is) (c.in_ok-to-in-Some.ensures.written k s)
