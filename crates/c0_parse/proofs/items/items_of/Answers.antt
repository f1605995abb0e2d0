-- `items_of`: what is left to show of its clauses.
use Rattle.std.proofs.Common.{List, [], ap, map, rules, sym, true, ℕ, ◌∙◌, ◌≡◌}
use Rattle.parsed_tree.specs.Tree.{ItemTree}
use Rattle.parsed_tree.specs.Views.{item_view}
use Rattle.c0_grammar.specs.Tokens.{end_mark}
use Rattle.c0_grammar.specs.Plan.{after_item, Plan, items}
use Rattle.c0_cursor.specs.Seen.{reading, starts}
use Rattle.c0_expressions.specs.Read.{onto}
use Rattle.c0_cursor.specs.Laws.{fails_as}
use Rattle.c0_expressions.specs.Laws.{mapped_push, onto_done, onto_more, onto_start, same_onto}
use Rattle.c0_parse.proofs.ItemSteps.{items_end, no_more}
use Rattle.c0_parse.proofs.items.items_of.Goals as goal

pub items-init : goal.items-init
items-init c = record {
  reads = λ next. ap (λ k. reading (items [] k) c.args.tokens.now) (onto_start next)
      ∙ ap (λ l. reading (items [] (onto (map item_view l) 0 next)) c.args.tokens.now) (sym c.new-found.ensures)
      ∙ ap (λ l. reading (items l (onto (map item_view c.new-found.result) 0 next)) c.args.tokens.now) (sym c.new-names.ensures);
  room = search rules;
}

pub returns-in-Err : goal.returns-in-Err
returns-in-Err c = record {
  reads = λ next.
      let names = c.items.names in
      let xs = map item_view c.items.found in
      let d = c.items.deepest in
      let ts = c.items.rest.now in
      let N : List ItemTree → ℕ → Plan = onto xs d next in
      fails_as _ _ _ (c.items.invariant.reads next) (c.in-Err.ensures.reads N);
}

pub items-preserved : goal.items-preserved
items-preserved c = record {
  reads = λ next.
      let names = c.items.names in
      let xs = map item_view c.items.found in
      let d = c.items.deepest in
      let ts = c.items.rest.now in
      let N : List ItemTree → ℕ → Plan = onto xs d next in
      let x = c.in-Ok.value in
      c.items.invariant.reads next ∙ c.in-Ok.ensures.reads N
      ∙ ap (reading (after_item c.item_of.new.names N (item_view x.0) x.1)) (sym c.remaining-rest.ensures)
      ∙ ap (λ k. reading (items c.item_of.new.names k) c.remaining-rest.result.now) (onto_more xs d next (item_view x.0) x.1)
      ∙ same_onto (λ l k. reading (items c.item_of.new.names (onto l k next)) c.remaining-rest.result.now) _ _ _ _ (sym (mapped_push item_view _ _ _ c.in_ok-push.ensures.ok)) (sym c.deeper-deepest.ensures);
  room = search rules;
}

pub returns-in-Err-expect : goal.returns-in-Err-expect
returns-in-Err-expect c = record {
  reads = λ next.
      let names = c.items.names in
      let xs = map item_view c.items.found in
      let d = c.items.deepest in
      let ts = c.items.rest.now in
      let N : List ItemTree → ℕ → Plan = onto xs d next in
      let y : starts end_mark ts ≡ true = search rules in
      fails_as _ _ _ (c.items.invariant.reads next ∙ items_end names N ts y) (c.in-Err-expect.ensures.reads (no_more N));
}

pub returns : goal.returns
returns c = record {
  reads = λ next.
      let names = c.items.names in
      let xs = map item_view c.items.found in
      let d = c.items.deepest in
      let ts = c.items.rest.now in
      let N : List ItemTree → ℕ → Plan = onto xs d next in
      let y : starts end_mark ts ≡ true = search rules in
      c.items.invariant.reads next ∙ items_end names N ts y
      ∙ c.in-Ok-expect.ensures.reads (no_more N)
      ∙ ap (λ q. reading q c.in-Ok-expect.value.1.now) (onto_done xs d next);
}
