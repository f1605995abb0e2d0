-- What a query says of its question.
use Rattle.std.proofs.Common.{◌≡◌, ℕ, zero, suc, ◌<◌, ◌≤◌, ◌^◌, List, [], ◌∷◌, map, ◌⊎◌, inl, inr, Result, Ok, Err, IfOk, refl, subst, arith}
use Rattle.std.specs.List.{All}
use Rattle.std.specs.declared.alloc.AllocError.{AllocError}
use Rattle.std.proofs.lemmas.List.{length-map, get_or-map}
use Rattle.std.proofs.lemmas.List.Elements.{All-map}
use Rattle.gc0_base.specs.declared.limits.TheConstants.Limits as limits
use Rattle.gc0_base.specs.declared.word.Word.{Word}
use Rattle.sat_check.specs.declared.log.Entry.{Entry}
use Rattle.sat_check.specs.Clauses.{IsUnsatisfiable}
use Rattle.search_base.specs.Searches.{IsRefutedByPropagation, IsSpent as IsSearchSpent}
use Rattle.word_terms.specs.declared.node.Node.{Node}
use Rattle.word_terms.specs.Terms.{value}
use Rattle.word_terms.specs.Tables.{Table, IsTable, term}
use Rattle.word_blast.specs.Circuits.{Whole, circuit}
use Rattle.word_blast.specs.Valuations.{MakesTrue, MakesFalse, AreTruths, FitSorts}
use Rattle.word_blast.specs.Queries.{IsExact}
use Rattle.entail.specs.declared.answer.Answer.{Answer}
use Rattle.entail.specs.declared.answer.Answer.TheVariants.{Yes, No, Undecided}
use Rattle.sat_check.specs.declared.cause.Cause.TheVariants.{Spent, TooLarge}
use Rattle.entail.specs.Questions.{IsTruth, question_of, IsTrueUnder, IsEntailed, IsCounterexample}
use Rattle.entail.specs.Answers.{question_weight, IsSpent, IsJustified}
use Rattle.entail.specs.Solving.{HasAssignment, IsSolved, IsQueried}
use Rattle.entail.proofs.Trees.{small}

pub one-truth : (nodes : List Node) (claim : ℕ) → IsTruth nodes claim → AreTruths nodes (claim ∷ [])
one-truth nodes claim h zero d l = h
one-truth nodes claim h (suc k) d l = absurd (omega arith)

-- what a search spent, with the bounds that it keeps
pub spent-asked : (asked variables : ℕ) (whole : Whole) (entries : List Entry) → variables ≡ whole.variables → IsSearchSpent variables whole.clauses asked entries → asked < 3 ^ variables
    → (0 < asked → ¬ IsRefutedByPropagation whole.clauses) → IsSpent asked whole entries
spent-asked asked variables whole entries e s few not_propagated = record {
  all = s.all;
  follow = s.follow;
  new = s.new;
  few = subst (λ n. asked < 3 ^ n) e few;
  not_propagated = by asked not_propagated;
}
  where
    by : (n : ℕ) → (0 < n → ¬ IsRefutedByPropagation whole.clauses) → (n ≡ 0) ⊎ (¬ IsRefutedByPropagation whole.clauses)
    by zero h = inl refl
    by (suc n) h = inr (h (omega arith))

module _ (t : Table) (ok : IsTable t) (facts : List ℕ) (claim : ℕ) (is_truth : IsTruth t.nodes claim) (whole : Whole) (exact : IsExact t facts (claim ∷ []) whole) where
  claim-false : (words : List Word) → value words (term t.nodes claim) ≡ 0 → MakesFalse words t.nodes (claim ∷ [])
  claim-false words e zero d h = e
  claim-false words e (suc k) d h = absurd (omega arith)

  facts-true : (words : List Word) → All (IsTrueUnder words) (map (term t.nodes) facts) → MakesTrue words t.nodes facts
  facts-true words h k d l =
      subst (IsTrueUnder words) (get_or-map (term t.nodes) facts k d (term t.nodes d) l) (h k (term t.nodes d) (omega (arith, length-map facts (term t.nodes))))

  -- no assignment, no counterexample
  pub unsatisfiable-entailed : IsUnsatisfiable whole.clauses → IsEntailed (question_of t facts claim)
  unsatisfiable-entailed none words val h =
      let least : value words (term t.nodes claim) < 2 = small t ok words val claim is_truth.0 is_truth.1 in
      let not_false : ¬ (value words (term t.nodes claim) ≡ 0) = λ e. let s = (exact words val).0 (facts-true words h, claim-false words e) in none s.0 s.2 in
      omega arith

  -- an assignment gives a counterexample
  pub assignment-counterexample : FitSorts t.sorts whole.inputs → (words : List Word) → HasAssignment whole words → IsCounterexample (question_of t facts claim) words
  assignment-counterexample fit words a =
      let read = a.3 t.sorts fit in
      let made = (exact words read.0).1 (a.0, read.1, a.1) in
      record {
        valuation = read.0;
        facts = All-map (IsTrueUnder words) (term t.nodes) facts made.0;
        claim = made.1 0 claim (omega arith);
      }

  pub solved-justified : FitSorts t.sorts whole.inputs → whole ≡ circuit t facts (claim ∷ []) → (asked : ℕ) (answer : Answer) → IsSolved asked whole answer → IsJustified asked t facts claim answer
  solved-justified fit e asked Yes s = unsatisfiable-entailed s.0
  solved-justified fit e asked (No valuation) s = assignment-counterexample fit valuation.words s
  solved-justified fit e asked (Undecided (Spent log)) s = subst (λ (w : Whole). IsSpent asked w log.entries) e s
  solved-justified fit e asked (Undecided (TooLarge weight)) s = absurd s

  pub ok-justified : FitSorts t.sorts whole.inputs → whole ≡ circuit t facts (claim ∷ []) → (asked : ℕ) (result : Result Answer AllocError) → IfOk result (IsSolved asked whole) → IfOk result (IsJustified asked t facts claim)
  ok-justified fit e asked (Ok answer) s = solved-justified fit e asked answer s
  ok-justified fit e asked (Err refused) s = s

pub ok-queried : (t : Table) (facts : List ℕ) (claim asked : ℕ) (whole : Whole) → whole ≡ circuit t facts (claim ∷ []) → question_weight t facts claim ≤ limits.WEIGHT
    → (result : Result Answer AllocError) → IfOk result (IsSolved asked whole) → IfOk result (IsQueried asked t facts claim)
ok-queried t facts claim asked whole e small (Ok answer) s = inl (small, subst (λ (w : Whole). IsSolved asked w answer) e s)
ok-queried t facts claim asked whole e small (Err refused) s = s
