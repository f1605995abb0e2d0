use Rattle.std.proofs.Common.{refl, ap}
use Rattle.lowering_laws.specs.Trees.{one}
use Rattle.core_expressions.proofs.Joins.{alike, on_ok}
use Rattle.core_expressions.proofs.Views.{binary_view}
use Rattle.core_expressions.proofs.operators.push_binary.Goals as goal

pub returns : goal.returns
returns c = λ k s. on_ok c.push.result (λ v. alike v (ap one (binary_view c.args.to c.args.op c.args.a c.args.b c.args.site)) refl refl) (c.push.ensures k s)
