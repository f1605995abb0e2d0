use Rattle.std.proofs.Common.{◌≡◌, ◌∙◌, ℕ, ◌<◌, List, Some, length, arith, sym, ap, subst, inl, inr, append-nil}
use Rattle.std.specs.List.{slice_get, Contains}
use Rattle.std.proofs.lemmas.Bool.{cases_order}
use Rattle.std.proofs.lemmas.Option.{same_Some, slice_get-get_or, slice_get_within}
use Rattle.sat_check.specs.declared.clause.Lit.{Lit}
use Rattle.sat_check.specs.declared.clause.Clause.{Clause}
use Rattle.plain_search.specs.Occurrences.{occurrences_of}
use Rattle.plain_search.proofs.solver.all_occurrences.Goals as goal

pub loop-index-preserved : goal.loop-index-preserved
loop-index-preserved c =
    let clauses = c.args.clauses.now in
    let i = c.loop-index.index in
    let before = c.loop-index.invariant in
    let new = c.add.new.self in
    let adds = c.in_ok-add.ensures.adds in
    let it = c.index-clauses-index.result in
    let here : slice_get clauses i ≡ Some it = slice_get-get_or clauses i it c.loop-index-test.true ∙ ap (λ (x : Clause). Some x) (sym c.index-clauses-index.is) in
    record {
      positive = c.in_ok-add.ensures.positive_len ∙ before.positive;
      negative = c.in_ok-add.ensures.negative_len ∙ before.negative;
      complete = λ index clause lit below named stands.
          elim (cases_order index i) [
            | inl same ↦
                let is : clause ≡ it = same_Some clause it (sym (subst (λ (n : ℕ). slice_get clauses n ≡ Some clause) same named) ∙ here) in
                let stands' : Contains c.as_slice.result.now lit = subst (λ (ls : List Lit). Contains ls lit) (sym c.as_slice.ensures) (subst (λ (x : Clause). Contains x.lits lit) is stands) in
                subst (λ (n : ℕ). Contains (occurrences_of new.positive.items new.negative.items lit) n) (sym same) (adds.added lit stands')
            | inr apart ↦
                elim apart [ inl less ↦ adds.kept lit index (before.complete index clause lit less named stands) | inr more ↦ absurd (omega arith) ]
          ];
    }

pub returns-clause-complete : goal.returns-clause-complete
returns-clause-complete c index clause lit named stands =
    let clauses = c.args.clauses.now in
    let there : slice_get clauses index ≡ Some clause = subst (λ (cs : List Clause). slice_get cs index ≡ Some clause) (append-nil clauses) named in
    let within : index < length clauses = slice_get_within clauses index clause there in
    c.loop-index.invariant.complete index clause lit (omega arith) there stands
