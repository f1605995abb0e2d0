-- A text has at most one verdict: the laws of the crates below, put together.
use Rattle.gradual_top.proofs.Verdicts.{one_verdict}
use Rattle.gradual_top.proofs.laws.one_verdict.Goals as goal

pub returns : goal.returns
returns c = one_verdict (record { lists = c.one_list.ensures; faults = c.one_fault.ensures; never = c.never_both.ensures; trees = c.one_tree.ensures; unbuilt = c.one_fault-2.ensures })
