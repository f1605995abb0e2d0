-- What is answered by hand of the proof of `parameters_behind`.
use Rattle.std.proofs.Common.{rules, ◌≡◌, ◌∙◌, ◌∷◌, [], List, ap, sym, true, false, length}
use Rattle.built_text.specs.declared.token.Fixed.TheVariants as mark
use Rattle.built_text.specs.declared.tree.Parameter.{Parameter}
use Rattle.built_text.specs.Plan.{Plan, more_parameters, run}
use Rattle.built_text.proofs.Failing.{fails_as}
use Rattle.built_text.specs.Plan.{is}
use Rattle.built_text.proofs.Loops.{none_left, more_close, more_comma, more_neither, onto, onto_more, onto_none}
use Rattle.built_text.proofs.functions.parameters_behind.Goals as goal

pub returns-then-is-clause-reads : goal.returns-then-is-clause-reads
returns-then-is-clause-reads c = λ next.
    let N : List Parameter → Plan = onto c.loop-token.found next in
    let s : c.loop-token.rest.now ≡ c.in-Some.token.now ∷ c.in-Some.behind.now = search rules in
    let n : is mark.Close c.in-Some.token.now.kind ≡ true = search rules in
    c.loop-token.invariant.reads next ∙ ap (run (more_parameters N)) s ∙ more_close N c.in-Some.token.now c.in-Some.behind.now n ∙ ap (λ q. run q c.in-Some.behind.now) (onto_none c.loop-token.found next)

pub returns-then-not-is-clause-reads : goal.returns-then-not-is-clause-reads
returns-then-not-is-clause-reads c = λ next.
    let N : List Parameter → Plan = onto c.loop-token.found next in
    let s : c.loop-token.rest.now ≡ c.in-Some.token.now ∷ c.in-Some.behind.now = search rules in
    let n : is mark.Close c.in-Some.token.now.kind ≡ false = search rules in
    let m : is mark.Comma c.in-Some.token.now.kind ≡ false = search rules in
    c.loop-token.invariant.reads next ∙ ap (run (more_parameters N)) s ∙ more_neither N c.in-Some.token.now c.in-Some.behind.now n m

pub returns-in-Err-clause-reads : goal.returns-in-Err-clause-reads
returns-in-Err-clause-reads c = λ next.
    let N : List Parameter → Plan = onto c.loop-token.found next in
    let s : c.loop-token.rest.now ≡ c.in-Some.token.now ∷ c.in-Some.behind.now = search rules in
    let m : is mark.Comma c.in-Some.token.now.kind ≡ true = search rules in
    fails_as _ _ _ (c.loop-token.invariant.reads next ∙ ap (run (more_parameters N)) s ∙ more_comma N c.in-Some.token.now c.in-Some.behind.now m) (c.in-Err.ensures.reads (λ p. more_parameters (λ ps. N (p ∷ ps))))

pub loop-token-preserved : goal.loop-token-preserved
loop-token-preserved c = record {
  reads = λ next.
      let N : List Parameter → Plan = onto c.loop-token.found next in
      let s : c.loop-token.rest.now ≡ c.in-Some.token.now ∷ c.in-Some.behind.now = search rules in
      let m : is mark.Comma c.in-Some.token.now.kind ≡ true = search rules in
      let ts = c.in-Ok.value.1.now in
      let v = c.in_ok-push.ensures.ok in
      c.loop-token.invariant.reads next ∙ ap (run (more_parameters N)) s ∙ more_comma N c.in-Some.token.now c.in-Some.behind.now m
      ∙ c.in-Ok.ensures.reads (λ p. more_parameters (λ ps. N (p ∷ ps)))
      ∙ ap (λ k. run (more_parameters k) ts) (onto_more c.loop-token.found next c.in-Ok.value.0)
      ∙ ap (λ l. run (more_parameters (onto l next)) ts) (sym v);
  shorter = search rules;
}

pub returns-clause-reads : goal.returns-clause-reads
returns-clause-reads c = λ next.
    let N : List Parameter → Plan = onto c.loop-token.found next in
    let z : length c.loop-token.rest.now ≡ 0 = search rules in
    let s : c.loop-token.rest.now ≡ [] = none_left c.loop-token.rest.now z in
    c.loop-token.invariant.reads next ∙ ap (run (more_parameters N)) s
