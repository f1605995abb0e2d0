use Rattle.std.proofs.Common.{[], ◌∷◌, ap, ◌∙◌}
use Rattle.core_tree.specs.declared.CoreStmt.TheVariants as stmt
use Rattle.core_tree.specs.CoreTree.{CoreStmt}
use Rattle.core_tree.specs.CoreViews.{code_view}
use Rattle.lowering_laws.specs.Trees.{one, join}
use Rattle.core_expressions.proofs.Joins.{code_behind, on_ok}
use Rattle.core_expressions.proofs.Views.{set_view}
use Rattle.core_expressions.proofs.parts.set_behind.Goals as goal

pub returns : goal.returns
returns c = on_ok c.push.result
    (λ e. ap code_view e
    ∙ code_behind c.args.code.now (stmt.Set c.args.to c.args.from ∷ [])
    ∙ ap (λ (x : CoreStmt). join (code_view c.args.code.now) (one x)) (set_view c.args.to c.args.from)) c.push.ensures.ok
