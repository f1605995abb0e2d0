use Rattle.std.proofs.Common.{refl, ap}
use Rattle.core_tree.specs.CoreTree.{do_new, do_step, code_and}
use Rattle.lowering_laws.specs.Trees.{one}
use Rattle.core_expressions.proofs.Joins.{alike, after_taken}
use Rattle.core_expressions.proofs.expressions.lower_alloc.Goals as goal

pub returns-clause-written : goal.returns-clause-written
returns-clause-written c = λ at k s.
    let t = c.in_ok-to.ensures.written k s in
    let w = after_taken t (c.in_ok-push_new.ensures _ t.counts) in
    alike w (ap (λ n. code_and do_step (one (do_new n c.args.of_struct))) (c.in_ok-to.ensures.number k s)) refl refl
