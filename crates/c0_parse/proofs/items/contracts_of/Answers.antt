-- `contracts_of`: what is left to show of its clauses.
use Rattle.std.proofs.Common.{ap, false, map, rules, sym, true, ◌∙◌, ◌≡◌}
use Rattle.parsed_tree.specs.Views.{contract_view}
use Rattle.c0_grammar.specs.Tokens.{open_mark}
use Rattle.c0_grammar.specs.Plan.{after_part, contract_loop, contract_plan, many}
use Rattle.c0_cursor.specs.Seen.{reading, starts}
use Rattle.c0_expressions.specs.Read.{onto}
use Rattle.c0_cursor.specs.Laws.{fails_as}
use Rattle.c0_parse.proofs.Parts.{contract_enters}
use Rattle.c0_expressions.specs.Laws.{mapped_push, onto_done, onto_more, onto_start, same_onto, loop_on, loop_off}
use Rattle.c0_parse.proofs.items.contracts_of.Goals as goal

pub contracts-init : goal.contracts-init
contracts-init c = record {
  reads = λ next. ap (λ k. reading (many (contract_loop c.args.names.now) k) c.args.tokens.now) (onto_start next)
      ∙ ap (λ l. reading (many (contract_loop c.args.names.now) (onto (map contract_view l) 0 next)) c.args.tokens.now) (sym c.new-found.ensures);
  room = search rules;
  shorter = search rules;
}

pub returns-in-Err-clause-reads : goal.returns-in-Err-clause-reads
returns-in-Err-clause-reads c = λ next.
    let names = c.args.names.now in
    let xs = map contract_view c.contracts.found in
    let d = c.contracts.deepest in
    let ts = c.contracts.rest.now in
    let y : starts open_mark ts ≡ true = search rules in
    fails_as _ _ _ (c.contracts.invariant.reads next ∙ loop_on (contract_loop names) open_mark (contract_plan names) (contract_enters names) (onto xs d next) ts y)
    (c.in-Err.ensures.reads (contract_plan names (after_part (contract_loop names) (onto xs d next))))

pub returns-in-Err-contract_behind-clause-reads : goal.returns-in-Err-contract_behind-clause-reads
returns-in-Err-contract_behind-clause-reads c = λ next.
    let names = c.args.names.now in
    let xs = map contract_view c.contracts.found in
    let d = c.contracts.deepest in
    let ts = c.contracts.rest.now in
    let y : starts open_mark ts ≡ true = search rules in
    fails_as _ _ _ (c.contracts.invariant.reads next ∙ loop_on (contract_loop names) open_mark (contract_plan names) (contract_enters names) (onto xs d next) ts y
    ∙ c.in-Ok.ensures.reads (contract_plan names (after_part (contract_loop names) (onto xs d next))))
    (c.in-Err-contract_behind.ensures.reads (after_part (contract_loop names) (onto xs d next)))

pub contracts-preserved : goal.contracts-preserved
contracts-preserved c = record {
  reads = λ next.
      let names = c.args.names.now in
      let xs = map contract_view c.contracts.found in
      let d = c.contracts.deepest in
      let ts = c.contracts.rest.now in
      let y : starts open_mark ts ≡ true = search rules in
      let x = c.in-Ok-contract_behind.value in
      c.contracts.invariant.reads next ∙ loop_on (contract_loop names) open_mark (contract_plan names) (contract_enters names) (onto xs d next) ts y
      ∙ c.in-Ok.ensures.reads (contract_plan names (after_part (contract_loop names) (onto xs d next)))
      ∙ c.in-Ok-contract_behind.ensures.reads (after_part (contract_loop names) (onto xs d next))
      ∙ ap (reading (after_part (contract_loop names) (onto xs d next) (contract_view x.0) x.1)) (sym c.remaining-rest.ensures)
      ∙ ap (λ k. reading (many (contract_loop names) k) c.remaining-rest.result.now) (onto_more xs d next (contract_view x.0) x.1)
      ∙ same_onto (λ l k. reading (many (contract_loop names) (onto l k next)) c.remaining-rest.result.now) _ _ _ _ (sym (mapped_push contract_view _ _ _ c.in_ok-push.ensures.ok)) (sym c.deeper-deepest.ensures);
  room = search rules;
  shorter = search rules;
}

pub returns-clause-reads : goal.returns-clause-reads
returns-clause-reads c = λ next.
    let names = c.args.names.now in
    let xs = map contract_view c.contracts.found in
    let d = c.contracts.deepest in
    let ts = c.contracts.rest.now in
    let n : starts open_mark ts ≡ false = search rules in
    c.contracts.invariant.reads next ∙ loop_off (contract_loop names) open_mark (contract_plan names) (contract_enters names) (onto xs d next) ts n
    ∙ ap (λ q. reading q ts) (onto_done xs d next)
