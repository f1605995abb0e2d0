use Rattle.std.proofs.Common.{Option, OnOk, refl, sym, subst, ap, ◌∙◌, length, append-nil}
use Rattle.gc0_base.specs.declared.site.Kind.TheVariants as kind
use Rattle.gc0_tree.specs.declared.ExprOp.{ExprOp}
use Rattle.gc0_tree.specs.Tree.{assign_at}
use Rattle.gc0_tree.specs.Views.{expr_view}
use Rattle.core_tree.specs.declared.Simple.{Simple}
use Rattle.core_tree.specs.declared.Simple.TheVariants as simple
use Rattle.core_tree.specs.CoreTree.{CoreStmt, Code, do_set}
use Rattle.lowering_laws.specs.Counts.{fresh, counted}
use Rattle.lowering_laws.specs.Trees.{operator_code}
use Rattle.lowering_laws.specs.Tables.{tree_decisions, tree_placed}
use Rattle.core_expressions.specs.Writing.{program_of, places_of, room_in}
use Rattle.core_lower.specs.Parts.{IsStmt}
use Rattle.core_lower.proofs.Joining.{then_so, ended, joined, put, coded, same}
use Rattle.core_lower.proofs.Views.{set_view}
use Rattle.core_lower.proofs.simple.lower_assigned.Goals as goal

pub returns-in-None : goal.returns-in-None
returns-in-None c =
    let w = c.args.within.now in
    let o = c.args.out.now in
    let e = expr_view c.args.e.now in
    let k = fresh (length o.decisions) in
    let w0 = c.in_ok-begin.ensures in
    let w1 = c.in_ok-x.ensures.written k w0.counts in
    let done : Simple → CoreStmt = λ v. do_set c.args.local v in
    subst (λ (v : Option ExprOp). OnOk c.push.result (IsStmt w o c.push.new.self (assign_at c.args.place c.args.local v c.args.op_place e))) (sym c.in-None.is)
    (then_so c.push.result (c.push.ensures (counted (program_of w) (room_in w) k e) w1.counts)
    (λ w2. same refl refl refl (sym (append-nil (tree_placed (places_of w) e))) (put (joined (ended w0) (ended w1)) (set_view c.args.local c.in_ok-x.x.value ∙ ap done (c.in_ok-x.ensures.value k w0.counts)) w2)))

pub returns-in-Some : goal.returns-in-Some
returns-in-Some c =
    let w = c.args.within.now in
    let o = c.args.out.now in
    let e = expr_view c.args.e.now in
    let k = fresh (length o.decisions) in
    let w0 = c.in_ok-begin.ensures in
    let w1 = c.in_ok-x.ensures.written k w0.counts in
    let r = c.lower_operator.result in
    let done : Simple → Code = λ v. operator_code c.args.local c.in-Some.op (places_of w kind.Trap c.args.op_place) (simple.Local c.args.local) v in
    subst (λ (v : Option ExprOp). OnOk r (IsStmt w o c.lower_operator.new.out (assign_at c.args.place c.args.local v c.args.op_place e))) (sym c.in-Some.is)
    (then_so r (c.lower_operator.ensures (counted (program_of w) (room_in w) k e) w1.counts)
    (λ w2. same refl refl (append-nil (tree_decisions (program_of w) (places_of w) e)) refl
    (joined (joined (ended w0) (ended w1)) (coded (ap done (c.in_ok-x.ensures.value k w0.counts)) w2))))
