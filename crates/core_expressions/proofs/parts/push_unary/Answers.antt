use Rattle.std.proofs.Common.{refl, ap}
use Rattle.lowering_laws.specs.Trees.{one}
use Rattle.core_expressions.proofs.Joins.{alike, on_ok}
use Rattle.core_expressions.proofs.Views.{unary_view}
use Rattle.core_expressions.proofs.parts.push_unary.Goals as goal

pub returns : goal.returns
returns c = λ k s. on_ok c.push.result (λ v. alike v (ap one (unary_view c.args.to c.args.op c.args.a)) refl refl) (c.push.ensures k s)
