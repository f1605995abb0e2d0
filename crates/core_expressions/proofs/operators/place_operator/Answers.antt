use Rattle.std.proofs.Common.{◌≡◌, Bool, true, false, refl, sym, ap, ◌∙◌}
use Rattle.gc0_tree.specs.Sites.{may_fault}
use Rattle.lowering_laws.specs.Tables.{placed_if}
use Rattle.core_expressions.proofs.Joins.{nothing, alike, on_ok}
use Rattle.core_expressions.proofs.operators.place_operator.Goals as goal

pub returns-then-may_fault : goal.returns-then-may_fault
returns-then-may_fault c = λ k s.
    let e : true ≡ may_fault c.args.op = sym c.if-may_fault.true ∙ c.may_fault.ensures in
    on_ok c.place.result (λ v. alike v refl refl (ap (λ (b : Bool). placed_if b c.args.site c.args.place) e)) (c.place.ensures k s)

pub returns : goal.returns
returns c = λ k s.
    let e : false ≡ may_fault c.args.op = sym c.if-may_fault.false ∙ c.may_fault.ensures in
    alike (nothing c.args.out.now k s) refl refl (ap (λ (b : Bool). placed_if b c.args.site c.args.place) e)
