-- `fields_of`: what is left to show of its clauses.
use Rattle.std.proofs.Common.{List, [], ap, append-nil, false, refl, rules, sym, true, ℕ, ◌++◌, ◌∙◌, ◌≡◌}
use Rattle.gc0_base.specs.declared.place.Place.{Place}
use Rattle.parsed_tree.specs.declared.expressions.Named.{Named}
use Rattle.parsed_tree.specs.declared.expressions.TypeName.{TypeName}
use Rattle.parsed_tree.specs.declared.items.Field.{Field}
use Rattle.c0_grammar.specs.Tokens.{sign_mark}
use Rattle.c0_grammar.specs.Plan.{Plan, after_part, await, field_behind, field_loop, many}
use Rattle.c0_cursor.specs.Seen.{reading, starts}
use Rattle.c0_parse.specs.Read.{fields_then}
use Rattle.c0_cursor.specs.Laws.{fails_as}
use Rattle.c0_parse.proofs.Parts.{field_off, field_on}
use Rattle.c0_parse.proofs.ItemSteps.{fields_more}
use Rattle.c0_lex.specs.declared.token.Symbol.TheVariants as mark
use Rattle.c0_parse.proofs.items.fields_of.Goals as goal

abbrev ended : (Field → ℕ → Plan) → TypeName → Named → Place → Plan
ended next t n s = next (record { typed = t; name = n }) 0

abbrev named : (Field → ℕ → Plan) → TypeName → Named → Plan
named next t n = await 0 (sign_mark mark.Semicolon) (ended next t n)

pub fields-init : goal.fields-init
fields-init c = record {
  reads = λ next. ap (λ z. reading (many (field_loop c.args.names.now) (fields_then z next)) c.args.tokens.now) (sym c.new-found.ensures);
  shorter = search rules;
}

pub returns-in-Err-clause-reads : goal.returns-in-Err-clause-reads
returns-in-Err-clause-reads c = λ next.
    let names = c.args.names.now in
    let fs = c.fields.found in
    let ts = c.fields.rest.now in
    let N : List Field → ℕ → Plan = fields_then fs next in
    let these : Place → Plan = λ b. await 0 (sign_mark mark.Semicolon) (λ s. next (fs ++ [])) in
    let n : starts (sign_mark mark.CloseBrace) ts ≡ false = search rules in
    fails_as _ _ _ (c.fields.invariant.reads next
    ∙ field_on names N these ts refl n)
    (c.in-Err.ensures.reads (field_behind (after_part (field_loop names) N)))

pub returns-in-Err-any_name-clause-reads : goal.returns-in-Err-any_name-clause-reads
returns-in-Err-any_name-clause-reads c = λ next.
    let names = c.args.names.now in
    let fs = c.fields.found in
    let ts = c.fields.rest.now in
    let N : List Field → ℕ → Plan = fields_then fs next in
    let these : Place → Plan = λ b. await 0 (sign_mark mark.Semicolon) (λ s. next (fs ++ [])) in
    let n : starts (sign_mark mark.CloseBrace) ts ≡ false = search rules in
    fails_as _ _ _ (c.fields.invariant.reads next
    ∙ field_on names N these ts refl n
    ∙ c.in-Ok.ensures.reads (field_behind (after_part (field_loop names) N)))
    (c.in-Err-any_name.ensures.reads (named (after_part (field_loop names) N) c.in-Ok.value.0))

pub returns-in-Err-expect-clause-reads : goal.returns-in-Err-expect-clause-reads
returns-in-Err-expect-clause-reads c = λ next.
    let names = c.args.names.now in
    let fs = c.fields.found in
    let ts = c.fields.rest.now in
    let N : List Field → ℕ → Plan = fields_then fs next in
    let these : Place → Plan = λ b. await 0 (sign_mark mark.Semicolon) (λ s. next (fs ++ [])) in
    let n : starts (sign_mark mark.CloseBrace) ts ≡ false = search rules in
    fails_as _ _ _ (c.fields.invariant.reads next
    ∙ field_on names N these ts refl n
    ∙ c.in-Ok.ensures.reads (field_behind (after_part (field_loop names) N))
    ∙ c.in-Ok-any_name.ensures.reads (named (after_part (field_loop names) N) c.in-Ok.value.0))
    (c.in-Err-expect.ensures.reads (ended (after_part (field_loop names) N) c.in-Ok.value.0 c.in-Ok-any_name.value.0))

pub fields-preserved : goal.fields-preserved
fields-preserved c = record {
  reads = λ next.
      let names = c.args.names.now in
      let fs = c.fields.found in
      let ts = c.fields.rest.now in
      let N : List Field → ℕ → Plan = fields_then fs next in
      let these : Place → Plan = λ b. await 0 (sign_mark mark.Semicolon) (λ s. next (fs ++ [])) in
      let n : starts (sign_mark mark.CloseBrace) ts ≡ false = search rules in
      let x : Field = record { typed = c.in-Ok.value.0; name = c.in-Ok-any_name.value.0 } in
      c.fields.invariant.reads next
      ∙ field_on names N these ts refl n
      ∙ c.in-Ok.ensures.reads (field_behind (after_part (field_loop names) N))
      ∙ c.in-Ok-any_name.ensures.reads (named (after_part (field_loop names) N) c.in-Ok.value.0)
      ∙ c.in-Ok-expect.ensures.reads (ended (after_part (field_loop names) N) c.in-Ok.value.0 c.in-Ok-any_name.value.0)
      ∙ ap (reading (after_part (field_loop names) N x 0)) (sym c.remaining-rest.ensures)
      ∙ ap (λ k. reading (many (field_loop names) k) c.remaining-rest.result.now) (fields_more fs next x)
      ∙ ap (λ z. reading (many (field_loop names) (fields_then z next)) c.remaining-rest.result.now) (sym c.in_ok-push.ensures.ok);
  shorter = search rules;
}

pub returns-in-Err-expect-2-clause-reads : goal.returns-in-Err-expect-2-clause-reads
returns-in-Err-expect-2-clause-reads c = λ next.
    let names = c.args.names.now in
    let fs = c.fields.found in
    let ts = c.fields.rest.now in
    let N : List Field → ℕ → Plan = fields_then fs next in
    let these : Place → Plan = λ b. await 0 (sign_mark mark.Semicolon) (λ s. next (fs ++ [])) in
    let y : starts (sign_mark mark.CloseBrace) ts ≡ true = search rules in
    fails_as _ _ _ (c.fields.invariant.reads next
    ∙ field_off names N ts y)
    (c.in-Err-expect-2.ensures.reads these)

pub returns-in-Err-expect-3-clause-reads : goal.returns-in-Err-expect-3-clause-reads
returns-in-Err-expect-3-clause-reads c = λ next.
    let names = c.args.names.now in
    let fs = c.fields.found in
    let ts = c.fields.rest.now in
    let N : List Field → ℕ → Plan = fields_then fs next in
    let these : Place → Plan = λ b. await 0 (sign_mark mark.Semicolon) (λ s. next (fs ++ [])) in
    let y : starts (sign_mark mark.CloseBrace) ts ≡ true = search rules in
    fails_as _ _ _ (c.fields.invariant.reads next
    ∙ field_off names N ts y
    ∙ c.in-Ok-expect-2.ensures.reads these)
    (c.in-Err-expect-3.ensures.reads (λ s. next (fs ++ [])))

pub returns-clause-reads : goal.returns-clause-reads
returns-clause-reads c = λ next.
    let names = c.args.names.now in
    let fs = c.fields.found in
    let ts = c.fields.rest.now in
    let N : List Field → ℕ → Plan = fields_then fs next in
    let these : Place → Plan = λ b. await 0 (sign_mark mark.Semicolon) (λ s. next (fs ++ [])) in
    let y : starts (sign_mark mark.CloseBrace) ts ≡ true = search rules in
    c.fields.invariant.reads next
    ∙ field_off names N ts y
    ∙ c.in-Ok-expect-2.ensures.reads these
    ∙ c.in-Ok-expect-3.ensures.reads (λ s. next (fs ++ []))
    ∙ ap (λ z. reading (next z) c.in-Ok-expect-3.value.1.now) (append-nil fs)
