-- `end_of_simple`: what is left to show of its clauses.
use Rattle.std.proofs.Common.{Some, ap, false, rules, sym, true, ◌∙◌, ◌∷◌, ◌≡◌}
use Rattle.parsed_tree.specs.Views.{expr_view}
use Rattle.c0_grammar.specs.Grammar.{is_place}
use Rattle.c0_grammar.specs.Plan.{simple_end, update_at}
use Rattle.c0_cursor.specs.Seen.{reading}
use Rattle.c0_grammar.specs.Seen.{what_of}
use Rattle.c0_cursor.specs.Laws.{fails_as}
use Rattle.c0_expressions.specs.Laws.{same}
use Rattle.c0_expressions.proofs.Simples.{assigned_to, end_plain, end_update}
use Rattle.c0_expressions.proofs.simple.end_of_simple.Goals as goal

pub returns-then-not-is_place-clause-reads : goal.returns-then-not-is_place-clause-reads
returns-then-not-is_place-clause-reads c = λ next.
    let names = c.args.names.now in
    let x = expr_view c.args.e.expr in
    let d = c.args.e.depth in
    let p : is_place x ≡ false = search rules in
    end_plain names c.args.up x d next c.args.tokens.now p
    ∙ ap (λ z. reading (next z d) c.args.tokens.now) (sym c.in_ok-alone-2.ensures)

pub returns-in-Err-clause-reads : goal.returns-in-Err-clause-reads
returns-in-Err-clause-reads c = λ next.
    let names = c.args.names.now in
    let x = expr_view c.args.e.expr in
    let d = c.args.e.depth in
    let token = c.in-Some.token.now in
    let rest = c.in-Some.rest.now in
    let s : c.args.tokens.now ≡ token ∷ rest = search rules in
    let p : is_place x ≡ true = search rules in
    let o = c.in-Some-update_at.operator in
    let u : update_at (what_of token.kind token.text.now) ≡ Some o = search rules in
    fails_as _ _ _ (ap (reading (simple_end names c.args.up x d next)) s
    ∙ end_update names c.args.up x d next o token rest p u)
    (c.in-Err.ensures.reads (assigned_to names c.args.up x d next o token.place))

pub returns-in-Some-update_at-clause-reads : goal.returns-in-Some-update_at-clause-reads
returns-in-Some-update_at-clause-reads c = λ next.
    let names = c.args.names.now in
    let x = expr_view c.args.e.expr in
    let d = c.args.e.depth in
    let token = c.in-Some.token.now in
    let rest = c.in-Some.rest.now in
    let s : c.args.tokens.now ≡ token ∷ rest = search rules in
    let p : is_place x ≡ true = search rules in
    let o = c.in-Some-update_at.operator in
    let u : update_at (what_of token.kind token.text.now) ≡ Some o = search rules in
    ap (reading (simple_end names c.args.up x d next)) s
    ∙ end_update names c.args.up x d next o token rest p u
    ∙ c.in-Ok.ensures.reads (assigned_to names c.args.up x d next o token.place)
    ∙ same (λ z k. reading (next z k) c.in-Ok.value.1.now) _ _ _ _ (sym c.in_ok-assigned.ensures) (sym c.deeper-depth.ensures)
