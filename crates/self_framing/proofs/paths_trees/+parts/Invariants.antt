use Rattle.std.proofs.Common.{◌≡◌, ◌≤◌, length, drop}
use Rattle.gc0_tree.specs.Views.{conjuncts_view}
use Rattle.self_framing.specs.Capped.{capped}
use Rattle.self_framing.specs.Paths.{parts_paths}
use Rattle.self_framing.proofs.paths_trees.+parts.Given as goal

abbrev pub invariant-parts_paths-loop-left : goal.invariant-parts_paths-loop-left
invariant-parts_paths-loop-left l = (l.left ≤ length l.parts) × (l.ways ≡ capped (parts_paths (conjuncts_view (drop l.left l.parts))))

abbrev pub decreases-parts_paths-loop-left : goal.decreases-parts_paths-loop-left
decreases-parts_paths-loop-left l = l.left
