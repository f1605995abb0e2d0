use Rattle.std.proofs.Common.{refl, ap}
use Rattle.lowering_laws.specs.Trees.{one}
use Rattle.core_expressions.proofs.Joins.{alike, with_code, on_ok}
use Rattle.core_expressions.proofs.Views.{call_view}
use Rattle.core_expressions.proofs.calls.push_call.Goals as goal

pub returns : goal.returns
returns c = λ k s.
    let w = c.in_ok-push_step.ensures k s in
    on_ok c.push.result (λ v. with_code w (alike v (ap one (call_view c.args.to c.args.function c.args.arguments c.args.site)) refl refl)) (c.push.ensures k w.counts)
