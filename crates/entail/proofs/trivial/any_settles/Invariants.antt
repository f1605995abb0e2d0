use Rattle.std.proofs.Common.{ℕ, ◌<◌, get_or}
use Rattle.word_terms.specs.declared.node.TermId.{TermId}
use Rattle.entail.specs.Settling.{Settles}
use Rattle.entail.proofs.trivial.any_settles.Given as goal

abbrev pub invariant-loop-fact : goal.invariant-loop-fact
invariant-loop-fact l = (k : ℕ) (d : TermId) → k < l.fact-index → ¬ Settles l.terms.nodes l.claim (get_or l.facts k d)
