use Rattle.std.proofs.Common.{◌≡◌, ℕ, ◌<◌}
use Rattle.word_terms.specs.Terms.{value}
use Rattle.word_terms.specs.Tables.{term}
use Rattle.word_terms.specs.Worth.{number_at}
use Rattle.word_terms.proofs.terms.Terms.evaluate.Given as goal

abbrev pub invariant-loop-place : goal.invariant-loop-place
invariant-loop-place l = (k : ℕ) → k < l.place → number_at l.out k ≡ value l.words (term l.node-items k)
