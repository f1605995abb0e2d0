-- `more_invariants`: what is left to show of its clauses.
use Rattle.std.proofs.Common.{[], ap, false, map, max, rules, sym, true, ◌++◌, ◌∙◌, ◌≡◌}
use Rattle.parsed_tree.specs.Views.{invariant_view}
use Rattle.c0_grammar.specs.Tokens.{word_mark}
use Rattle.c0_grammar.specs.Plan.{after_part, invariant_loop, invariant_plan, many}
use Rattle.c0_cursor.specs.Seen.{reading, starts}
use Rattle.c0_expressions.specs.Read.{onto}
use Rattle.c0_cursor.specs.Laws.{fails_as}
use Rattle.c0_expressions.specs.Laws.{closing, mapped_push, onto_done, onto_more, same_onto, loop_on, loop_off}
use Rattle.c0_parse.proofs.Parts.{invariant_enters}
use Rattle.c0_lex.specs.declared.token.Keyword.TheVariants as key
use Rattle.c0_parse.proofs.loops.more_invariants.Goals as goal

pub returns-in-Err-clause-reads : goal.returns-in-Err-clause-reads
returns-in-Err-clause-reads c = λ next.
    let names = c.args.names.now in
    let xs = map invariant_view c.clauses.found in
    let d = c.clauses.deepest in
    let ts = c.clauses.rest.now in
    let y : starts (word_mark key.LoopInvariant) ts ≡ true = search rules in
    fails_as _ _ _ (c.clauses.invariant.reads next
    ∙ loop_on (invariant_loop names c.args.up) (word_mark key.LoopInvariant) (invariant_plan names c.args.up) (invariant_enters names c.args.up) (onto xs d (closing next)) ts y)
    (c.in-Err.ensures.reads (after_part (invariant_loop names c.args.up) (onto xs d (closing next))))

pub clauses-preserved : goal.clauses-preserved
clauses-preserved c = record {
  reads = λ next.
      let names = c.args.names.now in
      let xs = map invariant_view c.clauses.found in
      let d = c.clauses.deepest in
      let ts = c.clauses.rest.now in
      let y : starts (word_mark key.LoopInvariant) ts ≡ true = search rules in
      let x = c.in-Ok.value in
      c.clauses.invariant.reads next
      ∙ loop_on (invariant_loop names c.args.up) (word_mark key.LoopInvariant) (invariant_plan names c.args.up) (invariant_enters names c.args.up) (onto xs d (closing next)) ts y
      ∙ c.in-Ok.ensures.reads (after_part (invariant_loop names c.args.up) (onto xs d (closing next)))
      ∙ ap (reading (after_part (invariant_loop names c.args.up) (onto xs d (closing next)) (invariant_view x.0) x.1)) (sym c.remaining-rest.ensures)
      ∙ ap (λ k. reading (many (invariant_loop names c.args.up) k) c.remaining-rest.result.now) (onto_more xs d (closing next) (invariant_view x.0) x.1)
      ∙ same_onto (λ l n. reading (many (invariant_loop names c.args.up) (onto l n (closing next))) c.remaining-rest.result.now) _ _ _ _ (sym (mapped_push invariant_view _ _ _ c.in_ok-push.ensures.ok)) (sym c.deeper-deepest.ensures);
  room = search rules;
  shorter = search rules;
}

pub returns-in-Err-expect-clause-reads : goal.returns-in-Err-expect-clause-reads
returns-in-Err-expect-clause-reads c = λ next.
    let names = c.args.names.now in
    let xs = map invariant_view c.clauses.found in
    let d = c.clauses.deepest in
    let ts = c.clauses.rest.now in
    let n : starts (word_mark key.LoopInvariant) ts ≡ false = search rules in
    fails_as _ _ _ (c.clauses.invariant.reads next
    ∙ loop_off (invariant_loop names c.args.up) (word_mark key.LoopInvariant) (invariant_plan names c.args.up) (invariant_enters names c.args.up) (onto xs d (closing next)) ts n)
    (c.in-Err-expect.ensures.reads (λ e. next (xs ++ []) (max d 0)))

pub returns-clause-reads : goal.returns-clause-reads
returns-clause-reads c = λ next.
    let names = c.args.names.now in
    let xs = map invariant_view c.clauses.found in
    let d = c.clauses.deepest in
    let ts = c.clauses.rest.now in
    let n : starts (word_mark key.LoopInvariant) ts ≡ false = search rules in
    c.clauses.invariant.reads next
    ∙ loop_off (invariant_loop names c.args.up) (word_mark key.LoopInvariant) (invariant_plan names c.args.up) (invariant_enters names c.args.up) (onto xs d (closing next)) ts n
    ∙ c.in-Ok-expect.ensures.reads (λ e. next (xs ++ []) (max d 0))
    ∙ ap (λ q. reading q c.in-Ok-expect.value.1.now) (onto_done xs d next)
