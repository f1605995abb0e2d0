-- `typedef_behind`: what is left to show of its clauses.
use Rattle.std.proofs.Common.{List, ap, sym, ℕ, ◌∙◌, ◌∷◌}
use Rattle.gc0_base.specs.declared.place.Place.{Place}
use Rattle.parsed_tree.specs.declared.expressions.Named.{Named}
use Rattle.parsed_tree.specs.declared.expressions.TypeName.{TypeName}
use Rattle.parsed_tree.specs.Tree.{ItemTree, typedef_item}
use Rattle.c0_grammar.specs.Tokens.{sign_mark}
use Rattle.c0_grammar.specs.Plan.{Plan, after_item, await, name}
use Rattle.c0_cursor.specs.Seen.{reading}
use Rattle.c0_cursor.specs.Laws.{fails_as}
use Rattle.c0_lex.specs.declared.token.Symbol.TheVariants as mark
use Rattle.c0_parse.proofs.items.typedef_behind.Goals as goal

abbrev made : List (List ℕ) → (List ItemTree → ℕ → Plan) → Place → TypeName → Named → Place → Plan
made names next at t n s = after_item (n.name ∷ names) next (typedef_item at t n) 0

abbrev ended : List (List ℕ) → (List ItemTree → ℕ → Plan) → Place → TypeName → Named → Plan
ended names next at t n = await 0 (sign_mark mark.Semicolon) (made names next at t n)

abbrev named : List (List ℕ) → (List ItemTree → ℕ → Plan) → Place → TypeName → Plan
named names next at t = name names (ended names next at t)

pub returns-in-Err-clause-reads : goal.returns-in-Err-clause-reads
returns-in-Err-clause-reads c = λ next.
    let names = c.args.names.now in
    let at = c.args.place in
    c.in-Err.ensures.reads (named names next at)

pub returns-in-Err-new_name-clause-reads : goal.returns-in-Err-new_name-clause-reads
returns-in-Err-new_name-clause-reads c = λ next.
    let names = c.args.names.now in
    let at = c.args.place in
    fails_as _ _ _ (c.in-Ok.ensures.reads (named names next at))
    (c.in-Err-new_name.ensures.reads (ended names next at c.in-Ok.value.0))

pub returns-in-Err-expect-clause-reads : goal.returns-in-Err-expect-clause-reads
returns-in-Err-expect-clause-reads c = λ next.
    let names = c.args.names.now in
    let at = c.args.place in
    fails_as _ _ _ (c.in-Ok.ensures.reads (named names next at)
    ∙ c.in-Ok-new_name.ensures.reads (ended names next at c.in-Ok.value.0))
    (c.in-Err-expect.ensures.reads (made names next at c.in-Ok.value.0 c.in-Ok-new_name.value.1))

pub returns-clause-reads : goal.returns-clause-reads
returns-clause-reads c = λ next.
    let names = c.args.names.now in
    let at = c.args.place in
    c.in-Ok.ensures.reads (named names next at)
    ∙ c.in-Ok-new_name.ensures.reads (ended names next at c.in-Ok.value.0)
    ∙ c.in-Ok-expect.ensures.reads (made names next at c.in-Ok.value.0 c.in-Ok-new_name.value.1)
    ∙ ap (λ z. reading (after_item (z ∷ names) next (typedef_item at c.in-Ok.value.0 c.in-Ok-new_name.value.1) 0) c.in-Ok-expect.value.1.now) (sym c.in-Ok-new_name.ensures.same)
    ∙ ap (λ z. reading (after_item z next (typedef_item at c.in-Ok.value.0 c.in-Ok-new_name.value.1) 0) c.in-Ok-expect.value.1.now) (sym c.in_ok-add.ensures)
