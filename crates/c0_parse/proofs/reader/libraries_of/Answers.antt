-- `libraries_of`: what is left to show of its clauses.
use Rattle.std.proofs.Common.{rules, ◌≡◌, ◌∙◌, ap, sym, true, false}
use Rattle.c0_grammar.specs.Tokens.{use_mark}
use Rattle.c0_grammar.specs.Plan.{many, use_loop}
use Rattle.c0_cursor.specs.Seen.{starts, reading}
use Rattle.c0_cursor.specs.Laws.{fails_as}
use Rattle.c0_parse.proofs.Uses.{behind_uses, after_use, use_on, use_end, use_more}
use Rattle.c0_parse.proofs.reader.libraries_of.Goals as goal

pub returns-in-Err : goal.returns-in-Err
returns-in-Err c = record {
  reads = λ next.
      let n : starts use_mark c.loop-rest.rest.now ≡ true = search rules in
      fails_as _ _ _ (c.loop-rest.invariant next ∙ use_on c.loop-rest.found next c.loop-rest.rest.now n) (c.in-Err.ensures.reads (after_use c.loop-rest.found next));
}

pub loop-rest-preserved : goal.loop-rest-preserved
loop-rest-preserved c = λ next.
    let us = c.loop-rest.found in
    let l = c.in-Ok.value.0 in
    let n : starts use_mark c.loop-rest.rest.now ≡ true = search rules in
    c.loop-rest.invariant next ∙ use_on us next c.loop-rest.rest.now n
    ∙ c.in-Ok.ensures.reads (after_use us next)
    ∙ ap (reading (after_use us next l 0)) (sym c.remaining-rest.ensures)
    ∙ ap (λ k. reading (many use_loop k) c.remaining-rest.result.now) (use_more us next l)
    ∙ ap (λ f. reading (many use_loop (behind_uses f next)) c.remaining-rest.result.now) (sym c.in_ok-push.ensures.ok)

pub returns : goal.returns
returns c = record {
  reads = λ next.
      let n : starts use_mark c.loop-rest.rest.now ≡ false = search rules in
      c.loop-rest.invariant next ∙ use_end c.loop-rest.found next c.loop-rest.rest.now n;
}
