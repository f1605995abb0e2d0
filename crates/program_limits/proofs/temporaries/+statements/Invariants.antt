use Rattle.std.proofs.Common.{◌≡◌, ◌+◌, ◌≤◌, drop}
use Rattle.std.specs.Prelude.{min, max}
use Rattle.gc0_base.specs.declared.limits.TheConstants.Limits as limits
use Rattle.gc0_tree.specs.Views.{stmts_view}
use Rattle.program_limits.specs.Counts.{stmts_temporaries}
use Rattle.program_limits.proofs.temporaries.+statements.Given as goal

abbrev pub invariant-in_statements-loop-s : goal.invariant-in_statements-loop-s
invariant-in_statements-loop-s l = (l.most ≤ limits.TEMPORARIES + 1) × (min (max l.most (stmts_temporaries (stmts_view (drop l.s-index l.ss)))) (limits.TEMPORARIES + 1) ≡ min (stmts_temporaries (stmts_view l.ss)) (limits.TEMPORARIES + 1))
