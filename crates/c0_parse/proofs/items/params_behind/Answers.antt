-- `params_behind`: what is left to show of its clauses.
use Rattle.std.proofs.Common.{List, [], ap, append-nil, false, rules, sym, true, ℕ, ◌++◌, ◌∙◌, ◌≡◌}
use Rattle.parsed_tree.specs.declared.items.Param.{Param}
use Rattle.c0_grammar.specs.Tokens.{sign_mark}
use Rattle.c0_grammar.specs.Plan.{Plan, after_part, many, param_loop}
use Rattle.c0_cursor.specs.Seen.{reading, starts}
use Rattle.c0_parse.specs.Read.{params_then}
use Rattle.c0_cursor.specs.Laws.{fails_as}
use Rattle.c0_parse.proofs.Parts.{param_behind, param_enters}
use Rattle.c0_parse.proofs.ItemSteps.{params_more}
use Rattle.c0_lex.specs.declared.token.Symbol.TheVariants as mark
use Rattle.c0_expressions.specs.Laws.{loop_on, loop_off}
use Rattle.c0_parse.proofs.items.params_behind.Goals as goal

pub returns-in-Err-clause-reads : goal.returns-in-Err-clause-reads
returns-in-Err-clause-reads c = λ next.
    let names = c.args.names.now in
    let ps = c.params.found in
    let ts = c.params.rest.now in
    let N : List Param → ℕ → Plan = params_then ps next in
    let y : starts (sign_mark mark.Comma) ts ≡ true = search rules in
    fails_as _ _ _ (c.params.invariant.reads next ∙ loop_on (param_loop names) (sign_mark mark.Comma) (param_behind names) (param_enters names) N ts y)
    (c.in-Err.ensures.reads (param_behind names (after_part (param_loop names) N)))

pub returns-in-Err-param_of-clause-reads : goal.returns-in-Err-param_of-clause-reads
returns-in-Err-param_of-clause-reads c = λ next.
    let names = c.args.names.now in
    let ps = c.params.found in
    let ts = c.params.rest.now in
    let N : List Param → ℕ → Plan = params_then ps next in
    let y : starts (sign_mark mark.Comma) ts ≡ true = search rules in
    fails_as _ _ _ (c.params.invariant.reads next ∙ loop_on (param_loop names) (sign_mark mark.Comma) (param_behind names) (param_enters names) N ts y
    ∙ c.in-Ok.ensures.reads (param_behind names (after_part (param_loop names) N)))
    (c.in-Err-param_of.ensures.reads (λ p. after_part (param_loop names) N p 0))

pub params-preserved : goal.params-preserved
params-preserved c = record {
  reads = λ next.
      let names = c.args.names.now in
      let ps = c.params.found in
      let ts = c.params.rest.now in
      let N : List Param → ℕ → Plan = params_then ps next in
      let y : starts (sign_mark mark.Comma) ts ≡ true = search rules in
      let x = c.in-Ok-param_of.value in
      c.params.invariant.reads next ∙ loop_on (param_loop names) (sign_mark mark.Comma) (param_behind names) (param_enters names) N ts y
      ∙ c.in-Ok.ensures.reads (param_behind names (after_part (param_loop names) N))
      ∙ c.in-Ok-param_of.ensures.reads (λ p. after_part (param_loop names) N p 0)
      ∙ ap (reading (after_part (param_loop names) N x.0 0)) (sym c.remaining-rest.ensures)
      ∙ ap (λ k. reading (many (param_loop names) k) c.remaining-rest.result.now) (params_more ps next x.0)
      ∙ ap (λ z. reading (many (param_loop names) (params_then z next)) c.remaining-rest.result.now) (sym c.in_ok-push.ensures.ok);
  shorter = search rules;
}

pub returns-in-Err-expect-clause-reads : goal.returns-in-Err-expect-clause-reads
returns-in-Err-expect-clause-reads c = λ next.
    let names = c.args.names.now in
    let ps = c.params.found in
    let ts = c.params.rest.now in
    let N : List Param → ℕ → Plan = params_then ps next in
    let n : starts (sign_mark mark.Comma) ts ≡ false = search rules in
    fails_as _ _ _ (c.params.invariant.reads next ∙ loop_off (param_loop names) (sign_mark mark.Comma) (param_behind names) (param_enters names) N ts n)
    (c.in-Err-expect.ensures.reads (λ b. next (ps ++ [])))

pub returns-clause-reads : goal.returns-clause-reads
returns-clause-reads c = λ next.
    let names = c.args.names.now in
    let ps = c.params.found in
    let ts = c.params.rest.now in
    let N : List Param → ℕ → Plan = params_then ps next in
    let n : starts (sign_mark mark.Comma) ts ≡ false = search rules in
    c.params.invariant.reads next ∙ loop_off (param_loop names) (sign_mark mark.Comma) (param_behind names) (param_enters names) N ts n
    ∙ c.in-Ok-expect.ensures.reads (λ b. next (ps ++ []))
    ∙ ap (λ z. reading (next z) c.in-Ok-expect.value.1.now) (append-nil ps)
