-- `tail_of`: what is left to show of its clauses.
use Rattle.std.proofs.Common.{List, ap, arith, false, map, max, rules, sym, true, ℕ, ◌+◌, ◌∙◌, ◌≡◌, ◌≤◌}
use Rattle.gc0_base.specs.declared.place.Place.{Place}
use Rattle.parsed_tree.specs.declared.items.Head.{Head}
use Rattle.parsed_tree.specs.Tree.{ContractTree, ItemTree, StmtTrees, function_item, prototype_item}
use Rattle.parsed_tree.specs.Views.{contract_view, stmts_view}
use Rattle.c0_grammar.specs.Tokens.{sign_mark}
use Rattle.c0_grammar.specs.Plan.{Plan, await, lines, peek}
use Rattle.c0_cursor.specs.Seen.{reading, starts}
use Rattle.c0_cursor.specs.Laws.{fails_as, not_first}
use Rattle.c0_expressions.specs.Laws.{peek_low}
use Rattle.c0_lex.specs.declared.token.Symbol.TheVariants as mark
use Rattle.c0_parse.proofs.items.tail_of.Goals as goal
use Rattle.gc0_base.specs.declared.limits.TheConstants.Limits as limits

abbrev function_of : (ItemTree → ℕ → Plan) → Head → List ContractTree → ℕ → StmtTrees → ℕ → Place → Plan
function_of next h cs dc ss d e = next (function_item h cs ss e) (max dc (d + 1))

abbrev with_body : List (List ℕ) → (ItemTree → ℕ → Plan) → Head → List ContractTree → ℕ → Place → Plan
with_body names next h cs dc o = lines names 1 (function_of next h cs dc)

abbrev prototype_of : (ItemTree → ℕ → Plan) → Head → List ContractTree → ℕ → Place → Plan
prototype_of next h cs dc s = next (prototype_item h cs) dc

abbrev without_body : (ItemTree → ℕ → Plan) → Head → List ContractTree → ℕ → Plan
without_body next h cs dc = await 0 (sign_mark mark.Semicolon) (prototype_of next h cs dc)

abbrev behind_contracts : List (List ℕ) → (ItemTree → ℕ → Plan) → Head → List ContractTree → ℕ → Plan
behind_contracts names next h cs dc = peek 1 (sign_mark mark.OpenBrace) (with_body names next h cs dc) (without_body next h cs dc)

pub returns-in-Err-clause-reads : goal.returns-in-Err-clause-reads
returns-in-Err-clause-reads c = λ h next. c.in-Err.ensures.reads (behind_contracts c.args.names.now next h)

pub returns-in-Err-expect-clause-reads : goal.returns-in-Err-expect-clause-reads
returns-in-Err-expect-clause-reads c = λ h next.
    let names = c.args.names.now in
    let cs = map contract_view c.in-Ok.value.0 in
    let dc = c.in-Ok.value.1 in
    let ts = c.in-Ok.value.2.now in
    let m : starts (sign_mark mark.OpenBrace) ts ≡ false = search rules in
    fails_as _ _ _ (c.in-Ok.ensures.reads (behind_contracts names next h)
    ∙ not_first 1 (sign_mark mark.OpenBrace) (with_body names next h cs dc) (without_body next h cs dc) ts m)
    (c.in-Err-expect.ensures.reads (prototype_of next h cs dc))

pub returns-then-not-begins-clause-reads : goal.returns-then-not-begins-clause-reads
returns-then-not-begins-clause-reads c = λ h next.
    let names = c.args.names.now in
    let cs = map contract_view c.in-Ok.value.0 in
    let dc = c.in-Ok.value.1 in
    let ts = c.in-Ok.value.2.now in
    let m : starts (sign_mark mark.OpenBrace) ts ≡ false = search rules in
    c.in-Ok.ensures.reads (behind_contracts names next h)
    ∙ not_first 1 (sign_mark mark.OpenBrace) (with_body names next h cs dc) (without_body next h cs dc) ts m
    ∙ c.in-Ok-expect.ensures.reads (prototype_of next h cs dc)

pub returns-in-Err-expect-2-clause-reads : goal.returns-in-Err-expect-2-clause-reads
returns-in-Err-expect-2-clause-reads c = λ h next.
    let names = c.args.names.now in
    let cs = map contract_view c.in-Ok.value.0 in
    let dc = c.in-Ok.value.1 in
    let ts = c.in-Ok.value.2.now in
    let y : starts (sign_mark mark.OpenBrace) ts ≡ true = search rules in
    let b : 1 ≤ limits.NESTING = omega arith in
    fails_as _ _ _ (c.in-Ok.ensures.reads (behind_contracts names next h)
    ∙ peek_low 1 (sign_mark mark.OpenBrace) (with_body names next h cs dc) (without_body next h cs dc) ts b y)
    (c.in-Err-expect-2.ensures.reads (with_body names next h cs dc))

pub returns-in-Err-lines_of-clause-reads : goal.returns-in-Err-lines_of-clause-reads
returns-in-Err-lines_of-clause-reads c = λ h next.
    let names = c.args.names.now in
    let cs = map contract_view c.in-Ok.value.0 in
    let dc = c.in-Ok.value.1 in
    let ts = c.in-Ok.value.2.now in
    let y : starts (sign_mark mark.OpenBrace) ts ≡ true = search rules in
    let b : 1 ≤ limits.NESTING = omega arith in
    fails_as _ _ _ (c.in-Ok.ensures.reads (behind_contracts names next h)
    ∙ peek_low 1 (sign_mark mark.OpenBrace) (with_body names next h cs dc) (without_body next h cs dc) ts b y
    ∙ c.in-Ok-expect-2.ensures.reads (with_body names next h cs dc))
    (c.in-Err-lines_of.ensures.reads (function_of next h cs dc))

pub returns-clause-reads : goal.returns-clause-reads
returns-clause-reads c = λ h next.
    let names = c.args.names.now in
    let cs = map contract_view c.in-Ok.value.0 in
    let dc = c.in-Ok.value.1 in
    let ts = c.in-Ok.value.2.now in
    let y : starts (sign_mark mark.OpenBrace) ts ≡ true = search rules in
    let b : 1 ≤ limits.NESTING = omega arith in
    let x = c.in-Ok-lines_of.value in
    c.in-Ok.ensures.reads (behind_contracts names next h)
    ∙ peek_low 1 (sign_mark mark.OpenBrace) (with_body names next h cs dc) (without_body next h cs dc) ts b y
    ∙ c.in-Ok-expect-2.ensures.reads (with_body names next h cs dc)
    ∙ c.in-Ok-lines_of.ensures.reads (function_of next h cs dc)
    ∙ ap (λ k. reading (next (function_item h cs (stmts_view x.0) x.2) k) x.3.now) (sym c.deeper.ensures)
