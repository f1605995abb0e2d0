-- What holds in the loop of `copy_texts`.
use Rattle.std.proofs.Common.{◌≡◌, take}
use Rattle.tree_copies.proofs.copy_texts.Given as goal

abbrev pub invariant-loop-text : goal.invariant-loop-text
invariant-loop-text l = l.copies ≡ take l.text-index l.texts
