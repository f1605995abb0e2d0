use Rattle.std.proofs.Common.{◌≡◌, ◌++◌, [], List, drop}
use Rattle.gc0_tree.specs.Tree.{Predicate}
use Rattle.gc0_tree.specs.Views.{conjuncts_view}
use Rattle.c0_meaning.specs.Heaps.{Cells}
use Rattle.c0_meaning.specs.Holds.{Unroll, walk}
use Rattle.stack_code.specs.Built.{AreValues}
use Rattle.stack_runner.proofs.formulas.formula_holds.Given as goal

abbrev pub invariant-loop-part : goal.invariant-loop-part
invariant-loop-part l = record {
  values : AreValues (conjuncts_view (drop l.part-index l.part-items));
  left : (unroll : Unroll) → walk unroll [] [] (l.given.front.now ++ l.given.back.now) (conjuncts_view l.fn.formula.parts) [] ≡ walk unroll [] [] (l.given.front.now ++ l.given.back.now) (conjuncts_view (drop l.part-index l.part-items)) [];
}
