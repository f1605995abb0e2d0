use Rattle.std.proofs.Common.{Option, OnOk, sym, subst}
use Rattle.gc0_tree.specs.declared.ExprOp.{ExprOp}
use Rattle.gc0_tree.specs.Tree.{write_at}
use Rattle.gc0_tree.specs.Views.{expr_view}
use Rattle.core_lower.specs.Parts.{IsStmt}
use Rattle.core_lower.proofs.writes.lower_written.Goals as goal

pub returns-in-None : goal.returns-in-None
returns-in-None c =
    subst (λ (v : Option ExprOp). OnOk c.lower_write.result (IsStmt c.args.within.now c.args.out.now c.lower_write.new.out (write_at c.args.place (expr_view c.args.base.now) c.args.field.of_struct c.args.field.field c.args.field.arrow v c.args.op_place (expr_view c.args.e.now)))) (sym c.in-None.is)
    c.lower_write.ensures

pub returns-in-Some : goal.returns-in-Some
returns-in-Some c =
    subst (λ (v : Option ExprOp). OnOk c.lower_change.result (IsStmt c.args.within.now c.args.out.now c.lower_change.new.out (write_at c.args.place (expr_view c.args.base.now) c.args.field.of_struct c.args.field.field c.args.field.arrow v c.args.op_place (expr_view c.args.e.now)))) (sym c.in-Some.is)
    c.lower_change.ensures
