use Rattle.std.proofs.Common.{◌≡◌, ◌++◌, drop}
use Rattle.gc0_tree.specs.Views.{exprs_view}
use Rattle.stack_code.specs.Coding.{trees_code}
use Rattle.stack_code.specs.Within.{program_of, places_of, shown}
use Rattle.stack_code.proofs.emit.+emit_expr.Given as goal

abbrev pub invariant-emit_exprs-loop-e : goal.invariant-emit_exprs-loop-e
invariant-emit_exprs-loop-e l = shown l.code ++ trees_code (program_of l.within) (places_of l.within) (exprs_view (drop l.e-index l.es)) ≡ shown l.initial.code ++ trees_code (program_of l.within) (places_of l.within) (exprs_view l.es)
