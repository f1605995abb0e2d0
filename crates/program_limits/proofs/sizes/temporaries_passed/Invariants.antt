use Rattle.std.proofs.Common.{◌≡◌, map, drop}
use Rattle.gc0_base.specs.declared.limits.TheConstants.Limits as limits
use Rattle.gc0_tree.specs.Views.{function_view}
use Rattle.program_limits.specs.Counts.{stmts_temporaries, first_past}
use Rattle.program_limits.proofs.sizes.temporaries_passed.Given as goal

abbrev pub invariant-loop-f : goal.invariant-loop-f
invariant-loop-f l = (l.number ≡ l.f-index) × (first_past limits.TEMPORARIES l.number (map (λ f. stmts_temporaries f.body) (map function_view (drop l.f-index l.functions))) ≡ first_past limits.TEMPORARIES 0 (map (λ f. stmts_temporaries f.body) (map function_view l.functions)))
