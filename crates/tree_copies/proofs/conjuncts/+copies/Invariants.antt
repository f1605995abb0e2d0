-- What holds in the loop of the calls around `copy_parts`.
use Rattle.std.proofs.Common.{◌≡◌, drop, map}
use Rattle.gc0_tree.specs.Views.{conjunct_view, conjuncts_view, in_front}
use Rattle.tree_copies.proofs.conjuncts.+copies.Given as goal

abbrev pub invariant-copy_parts-loop-part : goal.invariant-copy_parts-loop-part
invariant-copy_parts-loop-part l = in_front (map conjunct_view l.copies) (conjuncts_view (drop l.part-index l.parts)) ≡ conjuncts_view l.parts
