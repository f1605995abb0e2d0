use Rattle.std.proofs.Common.{◌≡◌, ◌≤◌, ◌*◌, take}
use Rattle.word_terms.specs.Weights.{weight_from, mark_at}
use Rattle.word_terms.proofs.weight.weigh.Given as goal

abbrev pub invariant-loop-place : goal.invariant-loop-place
invariant-loop-place l = (l.weight ≡ weight_from (mark_at l.marks) 0 (take l.place l.nodes)) × (l.weight ≤ 10000 * l.place)
