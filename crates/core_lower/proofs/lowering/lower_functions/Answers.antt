use Rattle.std.specs.Prelude.{is_some}
use Rattle.core_lower.specs.Separate.{all_apart}
use Rattle.std.proofs.Common.{◌≡◌, ℕ, suc, ◌+◌, Some, slice_get, drop, ap, ◌∙◌, arith}
use Rattle.gc0_tree.specs.Tree as tree
use Rattle.gc0_tree.specs.Views.{function_view, program_view}
use Rattle.lowering_laws.specs.Lowering.{lowered_from}
use Rattle.core_lower.specs.Wholes.{beside_of}
use Rattle.core_lower.proofs.Choosing.{drop_at, drop_past}
use Rattle.core_lower.proofs.InOrder.{at_index, same_beside, one_further, one_more_few, one_more_apart, all_seen}
use Rattle.core_lower.proofs.lowering.lower_functions.Goals as goal

further : (n : ℕ) → n + 1 ≡ suc n
further n = omega arith

pub loop-function-preserved : goal.loop-function-preserved
loop-function-preserved c =
    let P = c.args.program.now in
    let p : tree.Program = program_view P in
    let marks = c.args.marks.now in
    let items = c.as_slice-function-items.result.now in
    let i = c.loop-function.function-index in
    let number = c.loop-function.number in
    let F = c.function-item.result in
    let at : slice_get p.functions number ≡ Some (function_view F) = at_index P items i number F c.as_slice-function-items.ensures c.loop-function.invariant.number c.loop-function-test.true c.function-item.is in
    record {
      number = ap (λ n. n + 1) c.loop-function.invariant.number;
      done = one_further (beside_of p marks) p c.loop-function.list c.push.new.self c.in_ok-lowered.lowered.core number (number + 1) F (drop (i + 1) items) (drop i items) (lowered_from (beside_of p marks) p 0 p.functions)
          c.loop-function.invariant.done (drop_at items i F c.loop-function-test.true c.function-item.is) (further number) c.in_ok-push.ensures.ok
          (c.in_ok-lowered.ensures.function ∙ same_beside p marks number (function_view F) c.is_marked.result c.count_paths.result c.is_marked.ensures c.count_paths.ensures at);
      few = one_more_few c.loop-function.list c.push.new.self c.in_ok-lowered.lowered.core c.loop-function.invariant.few c.in_ok-lowered.ensures.few c.in_ok-push.ensures.ok;
      shared = one_more_apart p number (number + 1) F (drop (i + 1) items) (drop i items) (is_some c.loop-function.shared) (is_some c.in_ok-lowered.lowered.shared) (is_some c.first_place-shared.result) (all_apart 0 p.functions)
          c.loop-function.invariant.shared (drop_at items i F c.loop-function-test.true c.function-item.is) (further number) c.in_ok-lowered.ensures.shared c.first_place-shared.ensures;
    }

pub returns-clause-shared : goal.returns-clause-shared
returns-clause-shared c =
    let p : tree.Program = program_view c.args.program.now in
    let items = c.as_slice-function-items.result.now in
    let i = c.loop-function.function-index in
    all_seen c.loop-function.number (drop i items) (is_some c.loop-function.shared) (all_apart 0 p.functions) c.loop-function.invariant.shared (drop_past items i c.loop-function-test.false)
