-- When an answer is justified, and lists of questions with their answers.
use Rattle.std.specs.Prelude.{◌≡◌, ℕ, ◌<◌, ◌^◌, ◌⊎◌, List, [], ◌∷◌, ◌++◌, length, Option}
use Rattle.std.specs.Option.{option_map}
use Rattle.gc0_base.specs.declared.limits.TheConstants.Limits as limits
use Rattle.gc0_base.specs.declared.word.Word.{Word}
use Rattle.sat_check.specs.declared.log.Entry.{Entry}
use Rattle.sat_check.specs.Logs.{AllFollow, AllNew}
use Rattle.search_base.specs.Searches.{IsRefutedByPropagation}
use Rattle.word_terms.specs.Tables.{Table}
use Rattle.word_terms.specs.Weights.{weight_of}
use Rattle.word_blast.specs.Circuits.{Whole, circuit}
use Rattle.entail.specs.declared.answer.Answer.{Answer}
use Rattle.entail.specs.declared.answer.Answer.TheVariants.{Yes, No, Undecided}
use Rattle.sat_check.specs.declared.cause.Cause.{Cause}
use Rattle.sat_check.specs.declared.cause.Cause.TheVariants.{Spent, TooLarge}
use Rattle.entail.specs.Questions.{Question, question_of, IsEntailed, IsCounterexample}

-- the clauses of the facts as truths and the claim as a falsehood, and their weight
abbrev pub circuit_of : Table → List ℕ → ℕ → Whole
circuit_of table facts claim = circuit table facts (claim ∷ [])

abbrev pub question_weight : Table → List ℕ → ℕ → ℕ
question_weight table facts claim = weight_of table.nodes (facts ++ claim ∷ [])

-- What a spent search shows: the log has as many entries as were asked for, and each follows and is new;
-- so many are fewer than 3^v over v variables, where no more new ones can be; and either none was asked
-- for, or propagation alone doesn't refute the clauses, which one entry would have told.
pub record IsSpent (asked : ℕ) (whole : Whole) (entries : List Entry) : Type 0 where
  pub all : length entries ≡ asked
  pub follow : AllFollow whole.clauses entries (length entries)
  pub new : AllNew whole.clauses entries
  pub few : asked < 3 ^ whole.variables
  pub not_propagated : (asked ≡ 0) ⊎ (¬ IsRefutedByPropagation whole.clauses)

-- a cause for which a question is left open
abbrev pub IsCause : ℕ → Table → List ℕ → ℕ → Cause → Type 0
IsCause asked table facts claim (Spent log) = IsSpent asked (circuit_of table facts claim) log.entries
IsCause asked table facts claim (TooLarge weight) = (weight ≡ question_weight table facts claim) × (limits.WEIGHT < weight)

-- an answer of a decider whose searches are given so many conflicts
abbrev pub IsJustified : ℕ → Table → List ℕ → ℕ → Answer → Type 0
IsJustified asked table facts claim Yes = IsEntailed (question_of table facts claim)
IsJustified asked table facts claim (No valuation) = IsCounterexample (question_of table facts claim) valuation.words
IsJustified asked table facts claim (Undecided cause) = IsCause asked table facts claim cause

-- an answer without the cause for which a question is left open
pub data Reply : Type 0 where
  said_yes : Reply
  said_no : (valuation : List Word) → Reply
  said_undecided : Reply

abbrev pub reply_of : Answer → Reply
reply_of Yes = said_yes
reply_of (No valuation) = said_no valuation.words
reply_of (Undecided cause) = said_undecided

-- questions with their answers, oldest first
abbrev pub Transcript : Type 0
Transcript = List (Question × Reply)

-- with one question more, where the questions are told
abbrev pub with_answer : Option Transcript → Question → Reply → Option Transcript
with_answer told question reply = option_map (λ transcript. transcript ++ (question, reply) ∷ []) told
