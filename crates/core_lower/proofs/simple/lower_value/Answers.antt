use Rattle.std.proofs.Common.{Option, sym, subst}
use Rattle.gc0_tree.specs.declared.Expr.{Expr}
use Rattle.gc0_tree.specs.Views.{expr_in}
use Rattle.lowering_laws.specs.Counts.{first_counted}
use Rattle.lowering_laws.specs.Trees.{first_code}
use Rattle.lowering_laws.specs.Tables.{first_decisions, first_placed}
use Rattle.core_expressions.specs.Writing.{program_of, places_of, room_in, target_of, IsWritten}
use Rattle.core_lower.proofs.Joining.{nothing}
use Rattle.core_lower.proofs.simple.lower_value.Goals as goal

pub returns-in-None-clause-written : goal.returns-in-None-clause-written
returns-in-None-clause-written c k h =
    let w = c.args.within.now in
    let o = c.args.out.now in
    subst (λ (v : Option Expr). IsWritten o o (first_counted (program_of w) (room_in w) k (expr_in v)) (first_code (program_of w) (room_in w) (target_of w) k (expr_in v)) (first_decisions (program_of w) (places_of w) (expr_in v)) (first_placed (places_of w) (expr_in v)))
    (sym c.in-None.is) (nothing o k h)
