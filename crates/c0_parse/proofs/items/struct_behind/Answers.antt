-- `struct_behind`: what is left to show of its clauses.
use Rattle.std.proofs.Common.{List, false, rules, true, ℕ, ◌∙◌, ◌≡◌}
use Rattle.gc0_base.specs.declared.place.Place.{Place}
use Rattle.parsed_tree.specs.declared.expressions.Named.{Named}
use Rattle.parsed_tree.specs.declared.items.Field.{Field}
use Rattle.parsed_tree.specs.Tree.{ItemTree, struct_item, struct_name}
use Rattle.c0_grammar.specs.Tokens.{sign_mark}
use Rattle.c0_grammar.specs.Plan.{Plan, fields_plan, peek, stars, typed_head}
use Rattle.c0_cursor.specs.Seen.{starts}
use Rattle.c0_cursor.specs.Laws.{along, fails_as, not_first, peek_await}
use Rattle.c0_lex.specs.declared.token.Symbol.TheVariants as mark
use Rattle.parsed_tree.specs.declared.expressions.Base.TheVariants as base
use Rattle.c0_parse.proofs.items.struct_behind.Goals as goal

abbrev named : (ItemTree → ℕ → Plan) → Place → Named → Place → Plan
named next at n s = next (struct_name at n) 0

abbrev with_fields : List (List ℕ) → (ItemTree → ℕ → Plan) → Place → Named → Place → Plan
with_fields names next at n a = fields_plan names next at n

abbrev typed_by : List (List ℕ) → (ItemTree → ℕ → Plan) → Place → Named → Plan
typed_by names next at n = stars at (base.Struct n) (typed_head names next)

abbrev fields_or : List (List ℕ) → (ItemTree → ℕ → Plan) → Place → Named → Plan
fields_or names next at n = peek 0 (sign_mark mark.OpenBrace) (with_fields names next at n) (typed_by names next at n)

abbrev behind_name : List (List ℕ) → (ItemTree → ℕ → Plan) → Place → Named → Plan
behind_name names next at n = peek 0 (sign_mark mark.Semicolon) (named next at n) (fields_or names next at n)

abbrev made : (ItemTree → ℕ → Plan) → Place → Named → List Field → Plan
made next at n fs = next (struct_item at n fs) 0

pub returns-in-Err-clause-reads : goal.returns-in-Err-clause-reads
returns-in-Err-clause-reads c = λ next. c.in-Err.ensures.reads (behind_name c.args.names.now next c.args.place)

pub returns-in-Err-expect-clause-reads : goal.returns-in-Err-expect-clause-reads
returns-in-Err-expect-clause-reads c = λ next.
    let names = c.args.names.now in
    let at = c.args.place in
    let n = c.in-Ok.value.0 in
    let ts = c.in-Ok.value.1.now in
    let y : starts (sign_mark mark.Semicolon) ts ≡ true = search rules in
    fails_as _ _ _ (c.in-Ok.ensures.reads (behind_name names next at)
    ∙ peek_await 0 (sign_mark mark.Semicolon) (named next at n) (fields_or names next at n) ts y)
    (c.in-Err-expect.ensures.reads (named next at n))

pub returns-then-begins-clause-reads : goal.returns-then-begins-clause-reads
returns-then-begins-clause-reads c = λ next.
    let names = c.args.names.now in
    let at = c.args.place in
    let n = c.in-Ok.value.0 in
    let ts = c.in-Ok.value.1.now in
    let y : starts (sign_mark mark.Semicolon) ts ≡ true = search rules in
    c.in-Ok.ensures.reads (behind_name names next at)
    ∙ peek_await 0 (sign_mark mark.Semicolon) (named next at n) (fields_or names next at n) ts y
    ∙ c.in-Ok-expect.ensures.reads (named next at n)

pub returns-in-Err-expect-2-clause-reads : goal.returns-in-Err-expect-2-clause-reads
returns-in-Err-expect-2-clause-reads c = λ next.
    let names = c.args.names.now in
    let at = c.args.place in
    let n = c.in-Ok.value.0 in
    let ts = c.in-Ok.value.1.now in
    let z : starts (sign_mark mark.Semicolon) ts ≡ false = search rules in
    let y : starts (sign_mark mark.OpenBrace) ts ≡ true = search rules in
    fails_as _ _ _ (c.in-Ok.ensures.reads (behind_name names next at)
    ∙ not_first 0 (sign_mark mark.Semicolon) (named next at n) (fields_or names next at n) ts z
    ∙ peek_await 0 (sign_mark mark.OpenBrace) (with_fields names next at n) (typed_by names next at n) ts y)
    (c.in-Err-expect-2.ensures.reads (with_fields names next at n))

pub returns-in-Err-fields_of-clause-reads : goal.returns-in-Err-fields_of-clause-reads
returns-in-Err-fields_of-clause-reads c = λ next.
    let names = c.args.names.now in
    let at = c.args.place in
    let n = c.in-Ok.value.0 in
    let ts = c.in-Ok.value.1.now in
    let z : starts (sign_mark mark.Semicolon) ts ≡ false = search rules in
    let y : starts (sign_mark mark.OpenBrace) ts ≡ true = search rules in
    fails_as _ _ _ (c.in-Ok.ensures.reads (behind_name names next at)
    ∙ not_first 0 (sign_mark mark.Semicolon) (named next at n) (fields_or names next at n) ts z
    ∙ peek_await 0 (sign_mark mark.OpenBrace) (with_fields names next at n) (typed_by names next at n) ts y
    ∙ c.in-Ok-expect-2.ensures.reads (with_fields names next at n))
    (c.in-Err-fields_of.ensures.reads (made next at n))

pub returns-then-begins-2-clause-reads : goal.returns-then-begins-2-clause-reads
returns-then-begins-2-clause-reads c = λ next.
    let names = c.args.names.now in
    let at = c.args.place in
    let n = c.in-Ok.value.0 in
    let ts = c.in-Ok.value.1.now in
    let z : starts (sign_mark mark.Semicolon) ts ≡ false = search rules in
    let y : starts (sign_mark mark.OpenBrace) ts ≡ true = search rules in
    c.in-Ok.ensures.reads (behind_name names next at)
    ∙ not_first 0 (sign_mark mark.Semicolon) (named next at n) (fields_or names next at n) ts z
    ∙ peek_await 0 (sign_mark mark.OpenBrace) (with_fields names next at n) (typed_by names next at n) ts y
    ∙ c.in-Ok-expect-2.ensures.reads (with_fields names next at n)
    ∙ c.in-Ok-fields_of.ensures.reads (made next at n)

pub returns-in-Err-behind_base-clause-reads : goal.returns-in-Err-behind_base-clause-reads
returns-in-Err-behind_base-clause-reads c = λ next.
    let names = c.args.names.now in
    let at = c.args.place in
    let n = c.in-Ok.value.0 in
    let ts = c.in-Ok.value.1.now in
    let z : starts (sign_mark mark.Semicolon) ts ≡ false = search rules in
    let b : starts (sign_mark mark.OpenBrace) ts ≡ false = search rules in
    fails_as _ _ _ (c.in-Ok.ensures.reads (behind_name names next at)
    ∙ not_first 0 (sign_mark mark.Semicolon) (named next at n) (fields_or names next at n) ts z
    ∙ not_first 0 (sign_mark mark.OpenBrace) (with_fields names next at n) (typed_by names next at n) ts b)
    (c.in-Err-behind_base.ensures.reads (typed_head names next))

pub returns-clause-reads : goal.returns-clause-reads
returns-clause-reads c = λ next.
    let names = c.args.names.now in
    let at = c.args.place in
    let n = c.in-Ok.value.0 in
    let ts = c.in-Ok.value.1.now in
    let z : starts (sign_mark mark.Semicolon) ts ≡ false = search rules in
    let b : starts (sign_mark mark.OpenBrace) ts ≡ false = search rules in
    along _ _ _ _ (c.in-Ok.ensures.reads (behind_name names next at)
    ∙ not_first 0 (sign_mark mark.Semicolon) (named next at n) (fields_or names next at n) ts z
    ∙ not_first 0 (sign_mark mark.OpenBrace) (with_fields names next at n) (typed_by names next at n) ts b
    ∙ c.in-Ok-behind_base.ensures.reads (typed_head names next))
    (c.head_behind.ensures.reads next)
