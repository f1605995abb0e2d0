-- What holds in the loop of `pass`.
use Rattle.core_tree.specs.CoreViews.{core_view}
use Rattle.check_placement.proofs.Marks.{Walked}
use Rattle.check_placement.proofs.tracking.pass.Given as goal

abbrev pub invariant-loop-number : goal.invariant-loop-number
invariant-loop-number l = Walked (core_view l.core) l.fn.marks l.number l.changed l.marks
