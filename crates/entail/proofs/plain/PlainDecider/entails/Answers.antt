use Rattle.std.proofs.Common.{◌≡◌, true}
use Rattle.word_blast.specs.Queries.{ids}
use Rattle.entail.specs.Questions.{question_of}
use Rattle.entail.proofs.Reading.{trivial-entailed}
use Rattle.entail.proofs.plain.PlainDecider.entails.Goals as goal

pub returns-then-is_trivial-clause-justified : goal.returns-then-is_trivial-clause-justified
returns-then-is_trivial-clause-justified c = trivial-entailed (question_of c.args.terms.now (ids c.args.facts.now) c.args.claim.0) (c.is_trivial.ensures.0 c.if-is_trivial.true)

pub returns-then-is_trivial-clause-queried : goal.returns-then-is_trivial-clause-queried
returns-then-is_trivial-clause-queried c not_trivial = absurd (not_trivial (c.is_trivial.ensures.0 c.if-is_trivial.true))

pub returns-clause-trivial : goal.returns-clause-trivial
returns-clause-trivial c trivial = absurd (let h : c.is_trivial.result ≡ true = c.is_trivial.ensures.1 trivial in cc)
