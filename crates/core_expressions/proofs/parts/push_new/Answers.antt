use Rattle.std.proofs.Common.{refl, ap}
use Rattle.lowering_laws.specs.Trees.{one}
use Rattle.core_expressions.proofs.Joins.{alike, with_code, on_ok}
use Rattle.core_expressions.proofs.Views.{new_view}
use Rattle.core_expressions.proofs.parts.push_new.Goals as goal

pub returns : goal.returns
returns c = λ k s.
    let w = c.in_ok-push_step.ensures k s in
    on_ok c.push.result (λ v. with_code w (alike v (ap one (new_view c.args.to c.args.of_struct)) refl refl)) (c.push.ensures k w.counts)
