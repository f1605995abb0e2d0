use Rattle.std.proofs.Common.{◌≡◌, take}
use Rattle.word_blast.specs.Valuations.{assigned}
use Rattle.word_blast.specs.Queries.{words_of}
use Rattle.word_blast.proofs.query.valuation_of.Given as goal

abbrev pub invariant-loop-input : goal.invariant-loop-input
invariant-loop-input l = l.words.items ≡ words_of (assigned l.assignment) (take l.input-index l.input-items)
