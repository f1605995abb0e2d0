use Rattle.std.proofs.Common.{◌≡◌, ◌+◌, ◌≤◌, drop}
use Rattle.std.specs.Prelude.{min}
use Rattle.gc0_base.specs.declared.limits.TheConstants.Limits as limits
use Rattle.gc0_tree.specs.Views.{exprs_view}
use Rattle.program_limits.specs.Counts.{all_temporaries}
use Rattle.program_limits.proofs.temporaries.+temporaries.Given as goal

abbrev pub invariant-all_temporaries-loop-e : goal.invariant-all_temporaries-loop-e
invariant-all_temporaries-loop-e l = (l.count ≤ limits.TEMPORARIES + 1) × (min (l.count + all_temporaries (exprs_view (drop l.e-index l.es))) (limits.TEMPORARIES + 1) ≡ min (all_temporaries (exprs_view l.es)) (limits.TEMPORARIES + 1))
