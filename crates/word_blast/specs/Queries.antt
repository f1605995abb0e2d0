-- Queries as contracts see them.
use Rattle.std.specs.Prelude.{◌≡◌, ℕ, ◌<◌, ◌≤◌, ◌↔◌, ◌++◌, Bool, List, map}
use Rattle.gc0_base.specs.declared.limits.TheConstants.Limits as limits
use Rattle.gc0_base.specs.declared.word.Word.{Word}
use Rattle.word_terms.specs.declared.node.TermId.{TermId}
use Rattle.word_terms.specs.Terms.{IsValuation}
use Rattle.word_terms.specs.Tables.{Table, IsTable}
use Rattle.word_terms.specs.Weights.{weight_of}
use Rattle.word_terms.specs.Worth.{word_of}
use Rattle.word_blast.specs.declared.blasted.Input.{Input}
use Rattle.word_blast.specs.declared.query.Query.{Query}
use Rattle.word_blast.specs.declared.query.Weighed.{Weighed}
use Rattle.word_blast.specs.declared.query.Weighed.TheVariants as weighed
use Rattle.word_blast.specs.Circuits.{Whole, circuit}
use Rattle.word_blast.specs.Valuations.{input_word, MakesTrue, MakesFalse, HasSolution}

-- the numbers of terms
abbrev pub ids : List TermId → List ℕ
ids ts = map (λ t. t.0) ts

-- a query's variables, clauses, and the variables of its symbols
abbrev pub whole_of : Query → Whole
whole_of q = record { variables = q.variables; clauses = q.clauses; inputs = q.inputs.items }

-- A valuation makes the truths true and the falsehoods false exactly where an assignment with its bits
-- satisfies the clauses.
abbrev pub IsExact : Table → List ℕ → List ℕ → Whole → Type 0
IsExact table truths falsehoods whole =
    (words : List Word) → IsValuation table.sorts words → (MakesTrue words table.nodes truths × MakesFalse words table.nodes falsehoods) ↔ HasSolution whole words

-- a query of a weight that is small enough, or a weight that isn't
abbrev pub IsWeighed : Table → List ℕ → List ℕ → Weighed → Type 0
IsWeighed table truths falsehoods (weighed.Query q) = IsTable table × (whole_of q ≡ circuit table truths falsehoods) × (weight_of table.nodes (truths ++ falsehoods) ≤ limits.WEIGHT)
IsWeighed table truths falsehoods (weighed.TooLarge w) = (w ≡ weight_of table.nodes (truths ++ falsehoods)) × (limits.WEIGHT < w)

-- the words of an assignment's bits, by the symbols' numbers
abbrev pub words_of : (ℕ → Bool) → List Input → List Word
words_of assignment inputs = map (λ i. word_of (input_word assignment i)) inputs
