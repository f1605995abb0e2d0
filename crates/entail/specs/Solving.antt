-- What a query gives: this project's own, over the definitions of circuits and logs.
use Rattle.std.specs.Prelude.{◌≡◌, ℕ, ◌<◌, ◌≤◌, ◌⊎◌, Bool, List, length}
use Rattle.gc0_base.specs.declared.limits.TheConstants.Limits as limits
use Rattle.sat_check.specs.declared.clause.Clause.{Clause}
use Rattle.sat_check.specs.declared.log.Entry.{Entry}
use Rattle.sat_check.specs.Clauses.{Satisfies, IsUnsatisfiable}
use Rattle.sat_check.specs.Logs.{IsRefutation}
use Rattle.word_terms.specs.Tables.{Table}
use Rattle.word_blast.specs.Circuits.{Whole}
use Rattle.word_blast.specs.Valuations.{IsReadFrom}
use Rattle.word_blast.specs.Queries.{words_of}
use Rattle.gc0_base.specs.declared.word.Word.{Word}
use Rattle.entail.specs.declared.answer.Answer.{Answer}
use Rattle.entail.specs.declared.answer.Answer.TheVariants.{Yes, No, Undecided}
use Rattle.sat_check.specs.declared.cause.Cause.TheVariants.{Spent, TooLarge}
use Rattle.entail.specs.Answers.{IsSpent, circuit_of, question_weight}

-- a log that refutes the clauses, of at most so many entries
abbrev pub HasRefutation : ℕ → List Clause → Type 0
HasRefutation most clauses = (entries : List Entry) × IsRefutation clauses entries × (length entries ≤ most)

-- an assignment that satisfies the clauses, whose bits are the words, 0 for a symbol that has none
abbrev pub HasAssignment : Whole → List Word → Type 0
HasAssignment whole words =
    (assignment : ℕ → Bool) × Satisfies assignment whole.clauses × (words ≡ words_of assignment whole.inputs) × IsReadFrom assignment whole.inputs words

-- what a search over a query's clauses gives
abbrev pub IsSolved : ℕ → Whole → Answer → Type 0
IsSolved asked whole Yes = IsUnsatisfiable whole.clauses × HasRefutation asked whole.clauses
IsSolved asked whole (No valuation) = HasAssignment whole valuation.words
IsSolved asked whole (Undecided (Spent log)) = IsSpent asked whole log.entries
IsSolved asked whole (Undecided (TooLarge weight)) = ⊥

-- what a query gives: the answer of a search, or that the question is too large for one
abbrev pub IsQueried : ℕ → Table → List ℕ → ℕ → Answer → Type 0
IsQueried asked table facts claim answer =
    ((question_weight table facts claim ≤ limits.WEIGHT) × IsSolved asked (circuit_of table facts claim) answer)
    ⊎ ((limits.WEIGHT < question_weight table facts claim) × (answer ≡ Undecided (TooLarge (question_weight table facts claim))))
