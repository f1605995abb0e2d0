-- Questions about terms, and what follows from facts: logical consequence over the words of 32 bits.
use Rattle.std.specs.Prelude.{◌≡◌, ℕ, ◌<◌, List, map, length, true, false}
use Rattle.std.specs.List.{All, Contains}
use Rattle.gc0_base.specs.declared.word.Word.{Word}
use Rattle.word_terms.specs.declared.node.Sort.{Sort}
use Rattle.word_terms.specs.declared.node.Sort.TheVariants.{Truth}
use Rattle.word_terms.specs.declared.node.Node.{Node}
use Rattle.word_terms.specs.declared.node.Op2.TheVariants as op2
use Rattle.word_terms.specs.Terms.{Term, truth, binary, sort_of, value, IsValuation}
use Rattle.word_terms.specs.Tables.{Table, term}

-- a term of the table that is a truth
abbrev pub IsTruth : List Node → ℕ → Type 0
IsTruth nodes t = (t < length nodes) × (sort_of (term nodes t) ≡ Truth)

-- whether a claim follows from facts, over symbols of these sorts
pub record Question : Type 0 where
  pub sorts : List Sort
  pub facts : List Term
  pub claim : Term

-- the question of numbered terms
abbrev pub question_of : Table → List ℕ → ℕ → Question
question_of table facts claim = record { sorts = table.sorts; facts = map (term table.nodes) facts; claim = term table.nodes claim }

-- a term that is worth 1, the word of a truth
abbrev pub IsTrueUnder : List Word → Term → Type 0
IsTrueUnder words t = value words t ≡ 1

abbrev pub IsFalseUnder : List Word → Term → Type 0
IsFalseUnder words t = value words t ≡ 0

-- each valuation that makes all facts true makes the claim true
abbrev pub IsEntailed : Question → Type 0
IsEntailed q = (words : List Word) → IsValuation q.sorts words → All (IsTrueUnder words) q.facts → IsTrueUnder words q.claim

-- a valuation that makes all facts true and the claim false
pub record IsCounterexample (q : Question) (words : List Word) : Type 0 where
  pub valuation : IsValuation q.sorts words
  pub facts : All (IsTrueUnder words) q.facts
  pub claim : IsFalseUnder words q.claim

-- a question whose answer can be read off
pub data IsTrivial (q : Question) : Type 0 where
  claim_is_true : q.claim ≡ truth true → IsTrivial q
  claim_is_fact : Contains q.facts q.claim → IsTrivial q
  fact_is_false : Contains q.facts (truth false) → IsTrivial q
  claim_equates : (t : Term) → q.claim ≡ binary op2.Equal t t → IsTrivial q
