use Rattle.std.proofs.Common.{Option, OnOk, sym, subst, ap, ◌∙◌, length}
use Rattle.gc0_tree.specs.declared.Expr.{Expr}
use Rattle.gc0_tree.specs.Tree.{declare_at}
use Rattle.gc0_tree.specs.Views.{expr_view, expr_in}
use Rattle.core_tree.specs.declared.Simple.{Simple}
use Rattle.core_tree.specs.CoreTree.{CoreStmt, do_set}
use Rattle.lowering_laws.specs.Counts.{fresh, counted}
use Rattle.core_expressions.specs.Writing.{program_of, room_in}
use Rattle.core_lower.specs.Parts.{IsStmt}
use Rattle.core_lower.proofs.Joining.{then_so, ended, joined, put}
use Rattle.core_lower.proofs.Views.{set_view}
use Rattle.core_lower.proofs.simple.lower_declared.Goals as goal

pub returns-in_ok-x-in-Some : goal.returns-in_ok-x-in-Some
returns-in_ok-x-in-Some c =
    let w = c.args.within.now in
    let o = c.args.out.now in
    let e = expr_view c.in-Some.e in
    let k = fresh (length o.decisions) in
    let w0 = c.in_ok-begin.ensures in
    let w1 = c.in_ok-x-in-Some.ensures.written k w0.counts in
    let done : Simple → CoreStmt = λ v. do_set c.args.local v in
    subst (λ (v : Option Expr). OnOk c.push.result (IsStmt w o c.push.new.self (declare_at c.args.place c.args.local (expr_in v)))) (sym c.in-Some.is)
    (then_so c.push.result (c.push.ensures (counted (program_of w) (room_in w) k e) w1.counts)
    (λ w2. put (joined (ended w0) (ended w1)) (set_view c.args.local c.in_ok-x-in-Some.x.value ∙ ap done (c.in_ok-x-in-Some.ensures.value k w0.counts)) w2))
