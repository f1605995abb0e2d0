use Rattle.std.proofs.Common.{◌<◌, Bool, List, refl, ◌∙◌, ap, subst}
use Rattle.sat_check.specs.declared.clause.Clause.{Clause}
use Rattle.sat_check.specs.Clauses.{Satisfies}
use Rattle.search_base.specs.Searches.{assignment_of, IsSpent, IsRefutedByPropagation}
use Rattle.word_blast.specs.Valuations.{assigned, IsReadFrom}
use Rattle.word_blast.specs.Queries.{whole_of, words_of}
use Rattle.entail.proofs.Deciding.{spent-asked}
use Rattle.entail.proofs.plain.solve.Goals as goal

pub returns-in_ok-valuation-in-Assignment : goal.returns-in_ok-valuation-in-Assignment
returns-in_ok-valuation-in-Assignment c =
    let values : List Bool = c.in-Assignment.values in
    let solution = rw c.in-Assignment.is at c.in_ok-values.ensures.assignment in (
      assignment_of values,
      subst (λ (cs : List Clause). Satisfies (assignment_of values) cs) c.as_slice.ensures solution.satisfies,
      c.in_ok-valuation-in-Assignment.ensures.words ∙ ap (λ (vs : List Bool). words_of (assigned vs) (whole_of c.args.query.now).inputs) c.as_slice-in-Assignment.ensures,
      subst (λ (vs : List Bool). IsReadFrom (assigned vs) (whole_of c.args.query.now).inputs c.in_ok-valuation-in-Assignment.valuation.words) c.as_slice-in-Assignment.ensures c.in_ok-valuation-in-Assignment.ensures.bits,
    )

pub returns-in-Spent : goal.returns-in-Spent
returns-in-Spent c =
    let query = c.args.query.now in
    let spent = rw c.in-Spent.is at c.in_ok-values.ensures.spent in
    let few = rw c.in-Spent.is at c.in_ok-values.ensures.never_spent in
    let not_propagated = rw c.in-Spent.is at c.in_ok-values.ensures.never_spent_by_propagation in
    spent-asked c.args.conflicts query.variables (whole_of query) c.in-Spent.log.entries refl
    (subst (λ (cs : List Clause). IsSpent query.variables cs c.args.conflicts c.in-Spent.log.entries) c.as_slice.ensures spent) few
    (subst (λ (cs : List Clause). 0 < c.args.conflicts → ¬ IsRefutedByPropagation cs) c.as_slice.ensures not_propagated)
