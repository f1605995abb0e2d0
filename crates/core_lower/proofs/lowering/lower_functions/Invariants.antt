use Rattle.std.specs.Prelude.{◌<◌, ◌^◌, ◌&&◌, All, not, is_some, length}
use Rattle.std.proofs.Common.{◌≡◌, ◌++◌, drop, map}
use Rattle.core_lower.specs.Separate.{all_apart}
use Rattle.gc0_tree.specs.Views.{function_view, program_view}
use Rattle.core_tree.specs.CoreViews.{core_function_view}
use Rattle.lowering_laws.specs.Lowering.{lowered_from}
use Rattle.core_lower.specs.Wholes.{beside_of}
use Rattle.core_lower.proofs.lowering.lower_functions.Given as goal

abbrev pub invariant-loop-function : goal.invariant-loop-function
invariant-loop-function l = record {
  number : l.number ≡ l.function-index;
  done : map core_function_view l.list ++ lowered_from (beside_of (program_view l.program) l.marks) (program_view l.program) l.number (map function_view (drop l.function-index l.function-items)) ≡ lowered_from (beside_of (program_view l.program) l.marks) (program_view l.program) 0 (map function_view l.program.functions);
  few : All (λ f. length f.decisions < 2 ^ 32) (map core_function_view l.list);
  shared : (not (is_some l.shared) && all_apart l.number (map function_view (drop l.function-index l.function-items))) ≡ all_apart 0 (map function_view l.program.functions);
}
