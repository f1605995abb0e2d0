-- What is answered by hand of the proof of `is_permitted`.
use Rattle.std.proofs.Common.{◌≡◌, rules}
use Rattle.gc0_tree.specs.Views.{expr_view, conjuncts_view}
use Rattle.self_framing.specs.declared.left.Left.TheViews.{the_lemmas}
use Rattle.self_framing.specs.declared.left.Left.TheFolds.{fold_out-Left}
use Rattle.self_framing.specs.Left.{permitted, behind}
use Rattle.self_framing.proofs.Accs.{found_here, found_there}
use Rattle.self_framing.proofs.left.+is_permitted.Goals as goal

pub returns-then-has_acc : goal.returns-then-has_acc
returns-then-has_acc t c =
    let seen : permitted c.args.left.now ≡ behind (permitted c.in-Behind.outer.now) (conjuncts_view c.in-Behind.parts.now) = search (rules, the_lemmas, fold_out-Left) in
    found_here (permitted c.args.left.now) (permitted c.in-Behind.outer.now) (conjuncts_view c.in-Behind.parts.now) (expr_view c.args.base.now) c.args.field c.has_acc.result seen (search rules) (search rules)

pub returns-else-has_acc : goal.returns-else-has_acc
returns-else-has_acc t c =
    let seen : permitted c.args.left.now ≡ behind (permitted c.in-Behind.outer.now) (conjuncts_view c.in-Behind.parts.now) = search (rules, the_lemmas, fold_out-Left) in
    found_there (permitted c.args.left.now) (permitted c.in-Behind.outer.now) (conjuncts_view c.in-Behind.parts.now) (expr_view c.args.base.now) c.args.field c.has_acc.result c.is_permitted.result seen (search rules) (search rules) (search rules)
