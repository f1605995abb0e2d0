-- What is answered by hand of the proof of `contract_of`.
use Rattle.std.proofs.Common.{rules, ◌≡◌, ◌∙◌, ◌∷◌, List, ap, sym, true}
use Rattle.built_text.specs.declared.token.Fixed.TheVariants as mark
use Rattle.built_text.specs.Tree.{ClauseTree}
use Rattle.built_text.specs.Views.{clause_view, clauses_view}
use Rattle.built_text.specs.Plan.{Plan, contract, after_clause, run}
use Rattle.built_text.proofs.Failing.{fails_as}
use Rattle.built_text.specs.Plan.{is}
use Rattle.built_text.proofs.Loops.{clauses_pushed, contract_on, onto, onto_more}
use Rattle.built_text.proofs.functions.contract_of.Goals as goal

pub returns-in-Err-clause-reads : goal.returns-in-Err-clause-reads
returns-in-Err-clause-reads c = λ next.
    let N : List ClauseTree → Plan = onto (clauses_view c.loop-token.found) next in
    let s : c.loop-token.rest.now ≡ c.in-Some.token.now ∷ c.in-Some.behind.now = search rules in
    let n : is mark.Annotation c.in-Some.token.now.kind ≡ true = search rules in
    fails_as _ _ _ (c.loop-token.invariant.reads next ∙ ap (run (contract N)) s ∙ contract_on N c.in-Some.token.now c.in-Some.behind.now n) (c.in-Err.ensures.reads (after_clause N))

pub loop-token-preserved : goal.loop-token-preserved
loop-token-preserved c = record {
  reads = λ next.
      let N : List ClauseTree → Plan = onto (clauses_view c.loop-token.found) next in
      let s : c.loop-token.rest.now ≡ c.in-Some.token.now ∷ c.in-Some.behind.now = search rules in
      let n : is mark.Annotation c.in-Some.token.now.kind ≡ true = search rules in
      let ts = c.in-Ok.value.1.now in
      let v = clauses_pushed _ _ _ c.in_ok-push.ensures.ok in
      c.loop-token.invariant.reads next ∙ ap (run (contract N)) s ∙ contract_on N c.in-Some.token.now c.in-Some.behind.now n
      ∙ c.in-Ok.ensures.reads (after_clause N)
      ∙ ap (λ k. run (contract k) ts) (onto_more (clauses_view c.loop-token.found) next (clause_view c.in-Ok.value.0))
      ∙ ap (λ l. run (contract (onto l next)) ts) (sym v);
  shorter = search rules;
}
