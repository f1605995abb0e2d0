use Rattle.core_expressions.proofs.Joins.{with_code, on_ok}
use Rattle.core_expressions.proofs.operators.push_opposite.Goals as goal

pub returns : goal.returns
returns c = λ k s.
    let w = c.in_ok-push_binary.ensures k s in
    on_ok c.push_unary.result (λ v. with_code w v) (c.push_unary.ensures k w.counts)
