-- `contract_behind`: what is left to show of its clauses.
use Rattle.std.proofs.Common.{[], ap, false, map, max, rules, sym, true, ◌++◌, ◌||◌, ◌∙◌, ◌≡◌}
use Rattle.parsed_tree.specs.Views.{clause_view}
use Rattle.c0_grammar.specs.Tokens.{word_mark}
use Rattle.c0_grammar.specs.Plan.{after_part, clause_loop, many}
use Rattle.c0_cursor.specs.Seen.{reading, starts}
use Rattle.c0_expressions.specs.Read.{onto}
use Rattle.c0_cursor.specs.Laws.{fails_as}
use Rattle.c0_parse.proofs.Parts.{clause_off, clause_on}
use Rattle.c0_expressions.specs.Laws.{closing, mapped_push, onto_done, onto_more, onto_start, same_onto}
use Rattle.c0_lex.specs.declared.token.Keyword.TheVariants as key
use Rattle.c0_parse.proofs.items.contract_behind.Invariants.{framed}
use Rattle.c0_parse.proofs.items.contract_behind.Goals as goal

pub clauses-init : goal.clauses-init
clauses-init c = record {
  reads = λ next. ap (λ k. reading (many (clause_loop c.args.names.now) k) c.args.tokens.now) (onto_start (closing (framed next c.args.place)))
      ∙ ap (λ l. reading (many (clause_loop c.args.names.now) (onto (map clause_view l) 0 (closing (framed next c.args.place)))) c.args.tokens.now) (sym c.new-clauses.ensures);
  room = search rules;
  shorter = search rules;
}

pub returns-in-Err-clause-reads : goal.returns-in-Err-clause-reads
returns-in-Err-clause-reads c = λ next.
    let names = c.args.names.now in
    let xs = map clause_view c.clauses.clauses in
    let d = c.clauses.deepest in
    let ts = c.clauses.rest.now in
    let y : (starts (word_mark key.Requires) ts || starts (word_mark key.Ensures) ts) ≡ true = search rules in
    fails_as _ _ _ (c.clauses.invariant.reads next ∙ clause_on names (onto xs d (closing (framed next c.args.place))) ts y)
    (c.in-Err.ensures.reads (after_part (clause_loop names) (onto xs d (closing (framed next c.args.place)))))

pub clauses-preserved : goal.clauses-preserved
clauses-preserved c = record {
  reads = λ next.
      let names = c.args.names.now in
      let xs = map clause_view c.clauses.clauses in
      let d = c.clauses.deepest in
      let ts = c.clauses.rest.now in
      let y : (starts (word_mark key.Requires) ts || starts (word_mark key.Ensures) ts) ≡ true = search rules in
      let x = c.in-Ok.value in
      c.clauses.invariant.reads next ∙ clause_on names (onto xs d (closing (framed next c.args.place))) ts y
      ∙ c.in-Ok.ensures.reads (after_part (clause_loop names) (onto xs d (closing (framed next c.args.place))))
      ∙ ap (reading (after_part (clause_loop names) (onto xs d (closing (framed next c.args.place))) (clause_view x.0) x.1)) (sym c.remaining-rest.ensures)
      ∙ ap (λ k. reading (many (clause_loop names) k) c.remaining-rest.result.now) (onto_more xs d (closing (framed next c.args.place)) (clause_view x.0) x.1)
      ∙ same_onto (λ l k. reading (many (clause_loop names) (onto l k (closing (framed next c.args.place)))) c.remaining-rest.result.now) _ _ _ _ (sym (mapped_push clause_view _ _ _ c.in_ok-push.ensures.ok)) (sym c.deeper-deepest.ensures);
  room = search rules;
  shorter = search rules;
}

pub returns-in-Err-expect-clause-reads : goal.returns-in-Err-expect-clause-reads
returns-in-Err-expect-clause-reads c = λ next.
    let names = c.args.names.now in
    let xs = map clause_view c.clauses.clauses in
    let d = c.clauses.deepest in
    let ts = c.clauses.rest.now in
    let n : (starts (word_mark key.Requires) ts || starts (word_mark key.Ensures) ts) ≡ false = search rules in
    fails_as _ _ _ (c.clauses.invariant.reads next ∙ clause_off names (onto xs d (closing (framed next c.args.place))) ts n)
    (c.in-Err-expect.ensures.reads (λ e. framed next c.args.place (xs ++ []) (max d 0)))

pub returns-clause-reads : goal.returns-clause-reads
returns-clause-reads c = λ next.
    let names = c.args.names.now in
    let xs = map clause_view c.clauses.clauses in
    let d = c.clauses.deepest in
    let ts = c.clauses.rest.now in
    let n : (starts (word_mark key.Requires) ts || starts (word_mark key.Ensures) ts) ≡ false = search rules in
    c.clauses.invariant.reads next ∙ clause_off names (onto xs d (closing (framed next c.args.place))) ts n
    ∙ c.in-Ok-expect.ensures.reads (λ e. framed next c.args.place (xs ++ []) (max d 0))
    ∙ ap (λ q. reading q c.in-Ok-expect.value.1.now) (onto_done xs d (framed next c.args.place))
