use Rattle.std.proofs.Common.{length, map, drop}
use Rattle.word_terms.specs.Weights.{Marks, wanted_from}
use Rattle.word_terms.proofs.weight.mark_under.Given as goal

abbrev pub invariant-loop-place : goal.invariant-loop-place
invariant-loop-place l = Marks (wanted_from l.place (drop l.place l.nodes) (map (λ r. r.0) l.roots)) (length l.nodes) l.marks
