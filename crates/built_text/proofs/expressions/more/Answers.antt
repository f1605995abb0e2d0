-- What is answered by hand of the proof of `more`.
use Rattle.std.proofs.Common.{rules, ◌≡◌, ◌∙◌, ◌∷◌, [], List, ap, sym, true, false, length}
use Rattle.built_text.specs.Tree.{ExprTree}
use Rattle.built_text.specs.Views.{expr_view, exprs_view}
use Rattle.built_text.specs.Plan.{Plan, chain, after_link, run}
use Rattle.built_text.proofs.Failing.{fails_as}
use Rattle.built_text.specs.Plan.{is, starts}
use Rattle.built_text.proofs.Loops.{none_left, exprs_pushed, onto, onto_more, onto_none, chain_link, chain_end}
use Rattle.built_text.proofs.expressions.more.Goals as goal

pub returns-in-Err-clause-reads : goal.returns-in-Err-clause-reads
returns-in-Err-clause-reads c = λ next.
    let N : List ExprTree → Plan = onto (exprs_view c.loop-token.found) next in
    let s : c.loop-token.rest.now ≡ c.in-Some.token.now ∷ c.in-Some.behind.now = search rules in
    let n : is c.args.separator c.in-Some.token.now.kind ≡ true = search rules in
    fails_as _ _ _ (c.loop-token.invariant.reads next ∙ ap (run (chain c.args.separator c.args.outcome c.args.room N)) s ∙ chain_link c.args.separator c.args.outcome c.args.room N c.in-Some.token.now c.in-Some.behind.now n) (c.in-Err.ensures.reads (after_link c.args.separator c.args.outcome c.args.room N))

pub loop-token-preserved : goal.loop-token-preserved
loop-token-preserved c = record {
  reads = λ next.
      let N : List ExprTree → Plan = onto (exprs_view c.loop-token.found) next in
      let s : c.loop-token.rest.now ≡ c.in-Some.token.now ∷ c.in-Some.behind.now = search rules in
      let n : is c.args.separator c.in-Some.token.now.kind ≡ true = search rules in
      let ts = c.in-Ok.value.1.now in
      let v = exprs_pushed _ _ _ c.in_ok-push.ensures.ok in
      c.loop-token.invariant.reads next ∙ ap (run (chain c.args.separator c.args.outcome c.args.room N)) s ∙ chain_link c.args.separator c.args.outcome c.args.room N c.in-Some.token.now c.in-Some.behind.now n
      ∙ c.in-Ok.ensures.reads (after_link c.args.separator c.args.outcome c.args.room N)
      ∙ ap (λ k. run (chain c.args.separator c.args.outcome c.args.room k) ts) (onto_more (exprs_view c.loop-token.found) next (expr_view c.in-Ok.value.0))
      ∙ ap (λ l. run (chain c.args.separator c.args.outcome c.args.room (onto l next)) ts) (sym v);
  shorter = search rules;
}

pub returns-then-not-is-clause-reads : goal.returns-then-not-is-clause-reads
returns-then-not-is-clause-reads c = λ next.
    let N : List ExprTree → Plan = onto (exprs_view c.loop-token.found) next in
    let s : c.loop-token.rest.now ≡ c.in-Some.token.now ∷ c.in-Some.behind.now = search rules in
    let n : is c.args.separator c.in-Some.token.now.kind ≡ false = search rules in
    c.loop-token.invariant.reads next ∙ chain_end c.args.separator c.args.outcome c.args.room N c.loop-token.rest.now (ap (starts c.args.separator) s ∙ n) ∙ ap (λ q. run q c.loop-token.rest.now) (onto_none (exprs_view c.loop-token.found) next)

pub returns-clause-reads : goal.returns-clause-reads
returns-clause-reads c = λ next.
    let N : List ExprTree → Plan = onto (exprs_view c.loop-token.found) next in
    let z : length c.loop-token.rest.now ≡ 0 = search rules in
    let s : c.loop-token.rest.now ≡ [] = none_left c.loop-token.rest.now z in
    c.loop-token.invariant.reads next ∙ chain_end c.args.separator c.args.outcome c.args.room N c.loop-token.rest.now (ap (starts c.args.separator) s) ∙ ap (λ q. run q c.loop-token.rest.now) (onto_none (exprs_view c.loop-token.found) next)
