-- What holds in the loop of `code_reaches`.
use Rattle.std.proofs.Common.{◌≡◌, drop}
use Rattle.core_tree.specs.CoreViews.{code_view}
use Rattle.check_placement.specs.Tracked.{code_reaches}
use Rattle.check_placement.proofs.tracking.+reaching.Given as goal

abbrev pub invariant-code_reaches-loop-s : goal.invariant-code_reaches-loop-s
invariant-code_reaches-loop-s l = code_reaches l.marks (code_view (drop l.s-index l.code)) ≡ code_reaches l.marks (code_view l.code)
