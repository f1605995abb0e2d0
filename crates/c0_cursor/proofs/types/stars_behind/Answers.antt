-- `stars_behind`: what is left to show of its clauses.
use Rattle.std.proofs.Common.{rules, ◌≡◌, ◌∙◌, ◌+◌, ap, sym, true, false}
use Rattle.c0_lex.specs.declared.token.Symbol.TheVariants as mark
use Rattle.c0_grammar.specs.Tokens.{sign_mark}
use Rattle.c0_cursor.specs.Seen.{starts, reading}
use Rattle.c0_cursor.specs.Laws.{fails_as}
use Rattle.c0_cursor.proofs.Stars.{starred, star_on, star_end, star_first}
use Rattle.c0_cursor.proofs.types.stars_behind.Goals as goal

pub loop-rest-init : goal.loop-rest-init
loop-rest-init c = record {
  reads = λ at base next. star_first at base next c.args.tokens.now;
  shorter = search rules;
}

pub returns-in-Err-clause-reads : goal.returns-in-Err-clause-reads
returns-in-Err-clause-reads c = λ at base next.
    let n : starts (sign_mark mark.Star) c.loop-rest.rest.now ≡ true = search rules in
    fails_as _ _ _ (c.loop-rest.invariant.reads at base next ∙ star_on at base c.loop-rest.stars next c.loop-rest.rest.now n)
    (c.in-Err.ensures.reads (λ p. starred at base (c.loop-rest.stars + 1) next))

pub loop-rest-preserved : goal.loop-rest-preserved
loop-rest-preserved c = record {
  reads = λ at base next.
      let n : starts (sign_mark mark.Star) c.loop-rest.rest.now ≡ true = search rules in
      let m : c.in-Some.more ≡ c.loop-rest.stars + 1 = search rules in
      c.loop-rest.invariant.reads at base next ∙ star_on at base c.loop-rest.stars next c.loop-rest.rest.now n
      ∙ c.in-Ok.ensures.reads (λ p. starred at base (c.loop-rest.stars + 1) next)
      ∙ ap (λ k. reading (starred at base k next) c.in-Ok.value.1.now) (sym m)
      ∙ ap (reading (starred at base c.in-Some.more next)) (sym c.remaining-rest.ensures);
  shorter = search rules;
}

pub returns-clause-reads : goal.returns-clause-reads
returns-clause-reads c = λ at base next.
    let n : starts (sign_mark mark.Star) c.loop-rest.rest.now ≡ false = search rules in
    c.loop-rest.invariant.reads at base next ∙ star_end at base c.loop-rest.stars next c.loop-rest.rest.now n
