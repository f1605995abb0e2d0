use Rattle.std.proofs.Common.{refl, ap, ◌∙◌}
use Rattle.core_tree.specs.CoreTree.{Code, do_if, do_set}
use Rattle.core_tree.specs.CoreViews.{code_view}
use Rattle.lowering_laws.specs.Trees.{one, join}
use Rattle.core_expressions.proofs.Joins.{alike, on_ok}
use Rattle.core_expressions.proofs.Views.{if_view}
use Rattle.core_expressions.proofs.parts.push_branch.Goals as goal

pub returns : goal.returns
returns c = λ k s.
    let these = c.set_behind.new.code in
    let those = c.set_behind-2.new.code in
    let first : Code = join (code_view c.args.yes) (one (do_set c.args.to c.args.taken)) in
    let either : Code → Code → Code = λ x y. one (do_if c.args.decision c.args.condition x y) in
    on_ok c.push.result (λ v. alike v
    (ap one (if_view c.args.decision c.args.condition these those)
    ∙ ap (λ (x : Code). either x (code_view those)) c.in_ok-set_behind.ensures
    ∙ ap (λ (x : Code). either first x) c.in_ok-set_behind-2.ensures)
    refl refl) (c.push.ensures k s)
