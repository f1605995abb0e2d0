use Rattle.std.proofs.Common.{◌≡◌, ◌≤◌, length, drop}
use Rattle.gc0_tree.specs.Views.{conjuncts_view, stmts_view, program_view}
use Rattle.self_framing.specs.Capped.{ways_capped}
use Rattle.self_framing.specs.Paths.{parts_paths, stmts_ways}
use Rattle.self_framing.proofs.paths.+statements.Given as goal

abbrev pub invariant-stmts_ways-loop-left : goal.invariant-stmts_ways-loop-left
invariant-stmts_ways-loop-left l = (l.left ≤ length l.ss) × (l.ways ≡ ways_capped (stmts_ways (program_view l.program) (parts_paths (conjuncts_view l.f.after.parts)) (stmts_view (drop l.left l.ss))))

abbrev pub decreases-stmts_ways-loop-left : goal.decreases-stmts_ways-loop-left
decreases-stmts_ways-loop-left l = l.left
