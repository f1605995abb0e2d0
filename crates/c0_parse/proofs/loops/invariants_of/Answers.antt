-- `invariants_of`: what is left to show of its clauses.
use Rattle.std.proofs.Common.{List, [], ap, false, map, rules, sym, true, ℕ, ◌∙◌, ◌∷◌, ◌≡◌}
use Rattle.gc0_base.specs.declared.place.Place.{Place}
use Rattle.parsed_tree.specs.Tree.{InvariantTree, InvariantsTree}
use Rattle.parsed_tree.specs.Views.{invariant_view}
use Rattle.c0_grammar.specs.Tokens.{close_mark, word_mark}
use Rattle.c0_grammar.specs.Plan.{Plan, await, invariant_loop, invariant_plan, invariants_at, many, peek}
use Rattle.c0_cursor.specs.Seen.{reading, starts}
use Rattle.c0_expressions.specs.Read.{onto}
use Rattle.c0_cursor.specs.Laws.{fails_as, not_first, peek_await}
use Rattle.c0_expressions.specs.Laws.{closing}
use Rattle.c0_lex.specs.declared.token.Keyword.TheVariants as key
use Rattle.c0_parse.proofs.loops.invariants_of.Goals as goal

abbrev none_of : (InvariantsTree → ℕ → Plan) → Place → Place → Plan
none_of next at e = next (invariants_at at []) 0

abbrev made : (InvariantsTree → ℕ → Plan) → Place → List InvariantTree → ℕ → Plan
made next at cs d = next (invariants_at at cs) d

abbrev others_of : List (List ℕ) → ℕ → (InvariantsTree → ℕ → Plan) → Place → InvariantTree → ℕ → Plan
others_of names up next at i d = many (invariant_loop names up) (onto (i ∷ []) d (closing (made next at)))

abbrev first_of : List (List ℕ) → ℕ → (InvariantsTree → ℕ → Plan) → Place → Plan
first_of names up next at = await 0 (word_mark key.LoopInvariant) (invariant_plan names up (others_of names up next at))

abbrev inner : List (List ℕ) → ℕ → (InvariantsTree → ℕ → Plan) → Place → Plan
inner names up next at = peek 0 close_mark (none_of next at) (first_of names up next at)

pub returns-in-Err-clause-reads : goal.returns-in-Err-clause-reads
returns-in-Err-clause-reads c = λ next. c.in-Err.ensures.reads (inner c.args.names.now c.args.up next)

pub returns-in-Err-expect-clause-reads : goal.returns-in-Err-expect-clause-reads
returns-in-Err-expect-clause-reads c = λ next.
    let names = c.args.names.now in
    let at = c.in-Ok.value.0 in
    let rest = c.in-Ok.value.1.now in
    let y : starts close_mark rest ≡ true = search rules in
    fails_as _ _ _ (c.in-Ok.ensures.reads (inner names c.args.up next)
    ∙ peek_await 0 close_mark (none_of next at) (first_of names c.args.up next at) rest y)
    (c.in-Err-expect.ensures.reads (none_of next at))

pub returns-then-begins-clause-reads : goal.returns-then-begins-clause-reads
returns-then-begins-clause-reads c = λ next.
    let names = c.args.names.now in
    let at = c.in-Ok.value.0 in
    let rest = c.in-Ok.value.1.now in
    let y : starts close_mark rest ≡ true = search rules in
    c.in-Ok.ensures.reads (inner names c.args.up next)
    ∙ peek_await 0 close_mark (none_of next at) (first_of names c.args.up next at) rest y
    ∙ c.in-Ok-expect.ensures.reads (none_of next at)
    ∙ ap (λ l. reading (next (invariants_at at (map invariant_view l)) 0) c.in-Ok-expect.value.1.now) (sym c.new.ensures)

pub returns-in-Err-invariant_of-clause-reads : goal.returns-in-Err-invariant_of-clause-reads
returns-in-Err-invariant_of-clause-reads c = λ next.
    let names = c.args.names.now in
    let at = c.in-Ok.value.0 in
    let rest = c.in-Ok.value.1.now in
    let n : starts close_mark rest ≡ false = search rules in
    fails_as _ _ _ (c.in-Ok.ensures.reads (inner names c.args.up next)
    ∙ not_first 0 close_mark (none_of next at) (first_of names c.args.up next at) rest n)
    (c.in-Err-invariant_of.ensures.reads (others_of names c.args.up next at))

pub returns-in-Err-more_invariants-clause-reads : goal.returns-in-Err-more_invariants-clause-reads
returns-in-Err-more_invariants-clause-reads c = λ next.
    let names = c.args.names.now in
    let at = c.in-Ok.value.0 in
    let rest = c.in-Ok.value.1.now in
    let n : starts close_mark rest ≡ false = search rules in
    let x = c.in-Ok-invariant_of.value in
    fails_as _ _ _ (c.in-Ok.ensures.reads (inner names c.args.up next)
    ∙ not_first 0 close_mark (none_of next at) (first_of names c.args.up next at) rest n
    ∙ c.in-Ok-invariant_of.ensures.reads (others_of names c.args.up next at)
    ∙ ap (λ l. reading (many (invariant_loop names c.args.up) (onto l x.1 (closing (made next at)))) x.2.now) (sym c.in_ok-found.ensures))
    (c.in-Err-more_invariants.ensures.reads (made next at))

pub returns-clause-reads : goal.returns-clause-reads
returns-clause-reads c = λ next.
    let names = c.args.names.now in
    let at = c.in-Ok.value.0 in
    let rest = c.in-Ok.value.1.now in
    let n : starts close_mark rest ≡ false = search rules in
    let x = c.in-Ok-invariant_of.value in
    c.in-Ok.ensures.reads (inner names c.args.up next)
    ∙ not_first 0 close_mark (none_of next at) (first_of names c.args.up next at) rest n
    ∙ c.in-Ok-invariant_of.ensures.reads (others_of names c.args.up next at)
    ∙ ap (λ l. reading (many (invariant_loop names c.args.up) (onto l x.1 (closing (made next at)))) x.2.now) (sym c.in_ok-found.ensures)
    ∙ c.in-Ok-more_invariants.ensures.reads (made next at)
