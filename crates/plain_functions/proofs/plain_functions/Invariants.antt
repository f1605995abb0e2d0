use Rattle.gc0_tree.specs.Views.{program_view}
use Rattle.plain_functions.specs.Callers.{weight}
use Rattle.plain_functions.proofs.Backward.{Far}
use Rattle.plain_functions.proofs.plain_functions.Given as goal

abbrev pub invariant-loop-open : goal.invariant-loop-open
invariant-loop-open l = Far (program_view l.program) l.marks

abbrev pub decreases-loop-open : goal.decreases-loop-open
decreases-loop-open l = weight l.marks
