use Rattle.std.proofs.Common.{◌≡◌, ◌≤◌, length, drop}
use Rattle.gc0_tree.specs.Views.{exprs_view, program_view}
use Rattle.self_framing.specs.Capped.{capped}
use Rattle.self_framing.specs.Paths.{trees_paths}
use Rattle.self_framing.proofs.paths_trees.+trees.Given as goal

abbrev pub invariant-trees_paths-loop-left : goal.invariant-trees_paths-loop-left
invariant-trees_paths-loop-left l = (l.left ≤ length l.es) × (l.ways ≡ capped (trees_paths (program_view l.program) (exprs_view (drop l.left l.es))))

abbrev pub decreases-trees_paths-loop-left : goal.decreases-trees_paths-loop-left
decreases-trees_paths-loop-left l = l.left
