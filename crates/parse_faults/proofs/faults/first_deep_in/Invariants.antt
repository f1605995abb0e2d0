-- What holds at each turn of `first_deep_in`, and what gets less.
use Rattle.std.proofs.Common.{◌≡◌, drop, fold}
use Rattle.parsed_tree.specs.Views.{exprs_view}
use Rattle.parse_faults.specs.TreeFaults.{deep_args}
use Rattle.parse_faults.specs.First.{earlier}
use Rattle.parse_faults.proofs.faults.first_deep_in.Given as goal

abbrev pub invariant-loop-part : goal.invariant-loop-part
invariant-loop-part l = fold earlier l.found (deep_args (exprs_view (drop l.part-index l.parts))) ≡ fold earlier l.fn.found (deep_args (exprs_view l.parts))
