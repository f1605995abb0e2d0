-- `all_invariants`: what is left to show of its clauses.
use Rattle.std.proofs.Common.{ap, map, rules, sym, true, ◌∙◌, ◌≡◌}
use Rattle.parsed_tree.specs.Views.{invariants_view}
use Rattle.c0_grammar.specs.Plan.{loop_body}
use Rattle.c0_parse.specs.Seen.{opens_invariants}
use Rattle.c0_cursor.specs.Seen.{reading}
use Rattle.c0_parse.specs.Read.{onto_loop}
use Rattle.c0_cursor.specs.Laws.{fails_as}
use Rattle.c0_expressions.specs.Laws.{mapped_push, same_onto}
use Rattle.c0_parse.proofs.Lines.{after_one, loop_more, loop_start}
use Rattle.c0_parse.proofs.Lines.{loop_on}
use Rattle.c0_parse.proofs.loops.all_invariants.Goals as goal

pub annotations-init : goal.annotations-init
annotations-init c = record {
  reads = λ next. ap (λ k. reading (loop_body c.args.names.now c.args.up k) c.args.tokens.now) (loop_start next)
      ∙ ap (λ l. reading (loop_body c.args.names.now c.args.up (onto_loop (map invariants_view l) 0 next)) c.args.tokens.now) (sym c.new-found.ensures);
  room = search rules;
  shorter = search rules;
}

pub returns-in-Err-clause-reads : goal.returns-in-Err-clause-reads
returns-in-Err-clause-reads c = λ next.
    let names = c.args.names.now in
    let xs = map invariants_view c.annotations.found in
    let d = c.annotations.deepest in
    let ts = c.annotations.rest.now in
    let y : opens_invariants ts ≡ true = search rules in
    fails_as _ _ _ (c.annotations.invariant.reads next
    ∙ loop_on names c.args.up (onto_loop xs d next) ts y)
    (c.in-Err.ensures.reads (after_one names c.args.up (onto_loop xs d next)))

pub annotations-preserved : goal.annotations-preserved
annotations-preserved c = record {
  reads = λ next.
      let names = c.args.names.now in
      let xs = map invariants_view c.annotations.found in
      let d = c.annotations.deepest in
      let ts = c.annotations.rest.now in
      let y : opens_invariants ts ≡ true = search rules in
      let x = c.in-Ok.value in
      c.annotations.invariant.reads next
      ∙ loop_on names c.args.up (onto_loop xs d next) ts y
      ∙ c.in-Ok.ensures.reads (after_one names c.args.up (onto_loop xs d next))
      ∙ ap (reading (after_one names c.args.up (onto_loop xs d next) (invariants_view x.0) x.1)) (sym c.remaining-rest.ensures)
      ∙ ap (λ k. reading (loop_body names c.args.up k) c.remaining-rest.result.now) (loop_more xs d next (invariants_view x.0) x.1)
      ∙ same_onto (λ l n. reading (loop_body names c.args.up (onto_loop l n next)) c.remaining-rest.result.now) _ _ _ _ (sym (mapped_push invariants_view _ _ _ c.in_ok-push.ensures.ok)) (sym c.deeper-deepest.ensures);
  room = search rules;
  shorter = search rules;
}
