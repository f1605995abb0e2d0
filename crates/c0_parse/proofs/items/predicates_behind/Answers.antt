-- `predicates_behind`: what is left to show of its clauses.
use Rattle.std.proofs.Common.{[], ap, false, map, max, rules, sym, true, ◌++◌, ◌∙◌, ◌≡◌}
use Rattle.parsed_tree.specs.Views.{predicate_view}
use Rattle.c0_grammar.specs.Tokens.{word_mark}
use Rattle.c0_grammar.specs.Plan.{after_part, many, predicate_loop, predicate_plan}
use Rattle.c0_cursor.specs.Seen.{reading, starts}
use Rattle.c0_expressions.specs.Read.{onto}
use Rattle.c0_cursor.specs.Laws.{fails_as}
use Rattle.c0_expressions.specs.Laws.{closing, mapped_push, onto_done, onto_more, onto_start, same_onto, loop_on, loop_off}
use Rattle.c0_parse.proofs.Parts.{predicate_enters}
use Rattle.c0_lex.specs.declared.token.Keyword.TheVariants as key
use Rattle.c0_parse.proofs.items.predicates_behind.Invariants.{framed}
use Rattle.c0_parse.proofs.items.predicates_behind.Goals as goal

pub predicates-init : goal.predicates-init
predicates-init c = record {
  reads = λ next. ap (λ k. reading (many (predicate_loop c.args.names.now) k) c.args.tokens.now) (onto_start (closing (framed next c.args.place)))
      ∙ ap (λ l. reading (many (predicate_loop c.args.names.now) (onto (map predicate_view l) 0 (closing (framed next c.args.place)))) c.args.tokens.now) (sym c.new-predicates.ensures);
  room = search rules;
  shorter = search rules;
}

pub returns-in-Err-clause-reads : goal.returns-in-Err-clause-reads
returns-in-Err-clause-reads c = λ next.
    let names = c.args.names.now in
    let xs = map predicate_view c.predicates.predicates in
    let d = c.predicates.deepest in
    let ts = c.predicates.rest.now in
    let y : starts (word_mark key.Predicate) ts ≡ true = search rules in
    fails_as _ _ _ (c.predicates.invariant.reads next ∙ loop_on (predicate_loop names) (word_mark key.Predicate) (predicate_plan names) (predicate_enters names) (onto xs d (closing (framed next c.args.place))) ts y)
    (c.in-Err.ensures.reads (predicate_plan names (after_part (predicate_loop names) (onto xs d (closing (framed next c.args.place))))))

pub returns-in-Err-predicate_behind-clause-reads : goal.returns-in-Err-predicate_behind-clause-reads
returns-in-Err-predicate_behind-clause-reads c = λ next.
    let names = c.args.names.now in
    let xs = map predicate_view c.predicates.predicates in
    let d = c.predicates.deepest in
    let ts = c.predicates.rest.now in
    let y : starts (word_mark key.Predicate) ts ≡ true = search rules in
    fails_as _ _ _ (c.predicates.invariant.reads next ∙ loop_on (predicate_loop names) (word_mark key.Predicate) (predicate_plan names) (predicate_enters names) (onto xs d (closing (framed next c.args.place))) ts y
    ∙ c.in-Ok.ensures.reads (predicate_plan names (after_part (predicate_loop names) (onto xs d (closing (framed next c.args.place))))))
    (c.in-Err-predicate_behind.ensures.reads (after_part (predicate_loop names) (onto xs d (closing (framed next c.args.place)))))

pub predicates-preserved : goal.predicates-preserved
predicates-preserved c = record {
  reads = λ next.
      let names = c.args.names.now in
      let xs = map predicate_view c.predicates.predicates in
      let d = c.predicates.deepest in
      let ts = c.predicates.rest.now in
      let y : starts (word_mark key.Predicate) ts ≡ true = search rules in
      let x = c.in-Ok-predicate_behind.value in
      c.predicates.invariant.reads next ∙ loop_on (predicate_loop names) (word_mark key.Predicate) (predicate_plan names) (predicate_enters names) (onto xs d (closing (framed next c.args.place))) ts y
      ∙ c.in-Ok.ensures.reads (predicate_plan names (after_part (predicate_loop names) (onto xs d (closing (framed next c.args.place)))))
      ∙ c.in-Ok-predicate_behind.ensures.reads (after_part (predicate_loop names) (onto xs d (closing (framed next c.args.place))))
      ∙ ap (reading (after_part (predicate_loop names) (onto xs d (closing (framed next c.args.place))) (predicate_view x.0) x.1)) (sym c.remaining-rest.ensures)
      ∙ ap (λ k. reading (many (predicate_loop names) k) c.remaining-rest.result.now) (onto_more xs d (closing (framed next c.args.place)) (predicate_view x.0) x.1)
      ∙ same_onto (λ l k. reading (many (predicate_loop names) (onto l k (closing (framed next c.args.place)))) c.remaining-rest.result.now) _ _ _ _ (sym (mapped_push predicate_view _ _ _ c.in_ok-push.ensures.ok)) (sym c.deeper-deepest.ensures);
  room = search rules;
  shorter = search rules;
}

pub returns-in-Err-expect-clause-reads : goal.returns-in-Err-expect-clause-reads
returns-in-Err-expect-clause-reads c = λ next.
    let names = c.args.names.now in
    let xs = map predicate_view c.predicates.predicates in
    let d = c.predicates.deepest in
    let ts = c.predicates.rest.now in
    let n : starts (word_mark key.Predicate) ts ≡ false = search rules in
    fails_as _ _ _ (c.predicates.invariant.reads next ∙ loop_off (predicate_loop names) (word_mark key.Predicate) (predicate_plan names) (predicate_enters names) (onto xs d (closing (framed next c.args.place))) ts n)
    (c.in-Err-expect.ensures.reads (λ e. framed next c.args.place (xs ++ []) (max d 0)))

pub returns-clause-reads : goal.returns-clause-reads
returns-clause-reads c = λ next.
    let names = c.args.names.now in
    let xs = map predicate_view c.predicates.predicates in
    let d = c.predicates.deepest in
    let ts = c.predicates.rest.now in
    let n : starts (word_mark key.Predicate) ts ≡ false = search rules in
    c.predicates.invariant.reads next ∙ loop_off (predicate_loop names) (word_mark key.Predicate) (predicate_plan names) (predicate_enters names) (onto xs d (closing (framed next c.args.place))) ts n
    ∙ c.in-Ok-expect.ensures.reads (λ e. framed next c.args.place (xs ++ []) (max d 0))
    ∙ ap (λ q. reading q c.in-Ok-expect.value.1.now) (onto_done xs d (framed next c.args.place))
