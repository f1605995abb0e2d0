-- `notes_of`: what is left to show of its clauses.
use Rattle.std.proofs.Common.{ap, map, rules, sym, true, ◌&&◌, ◌∙◌, ◌∷◌, ◌≡◌}
use Rattle.parsed_tree.specs.Tree.{notes_stmt}
use Rattle.parsed_tree.specs.Views.{note_view}
use Rattle.c0_grammar.specs.Tokens.{close_mark}
use Rattle.c0_grammar.specs.Plan.{annotation_plan}
use Rattle.c0_cursor.specs.Seen.{reading, starts}
use Rattle.c0_cursor.specs.Laws.{along, fails_as}
use Rattle.c0_expressions.proofs.Notes.{annotation_empty, annotation_word, no_notes}
use Rattle.c0_lex.specs.declared.token.TokenKind.TheVariants as kind
use Rattle.c0_expressions.proofs.formulas.notes_of.Goals as goal

pub returns-in-Err-clause-reads : goal.returns-in-Err-clause-reads
returns-in-Err-clause-reads c = λ next.
    let names = c.args.names.now in
    let up = c.args.up in
    let at = c.args.place in
    let ts = c.args.tokens.now in
    let y : (c.args.whole && starts close_mark ts) ≡ true = search rules in
    fails_as _ _ _ (annotation_empty names c.args.whole up next at ts y)
    (c.in-Err.ensures.reads (no_notes next at))

pub returns-then-closes_at_once-clause-reads : goal.returns-then-closes_at_once-clause-reads
returns-then-closes_at_once-clause-reads c = λ next.
    let names = c.args.names.now in
    let up = c.args.up in
    let at = c.args.place in
    let ts = c.args.tokens.now in
    let y : (c.args.whole && starts close_mark ts) ≡ true = search rules in
    annotation_empty names c.args.whole up next at ts y
    ∙ c.in-Ok.ensures.reads (no_notes next at)
    ∙ ap (λ z. reading (next (notes_stmt at (map note_view z)) 0) c.in-Ok.value.1.now) (sym c.new.ensures)
    ∙ ap (λ z. reading (next z 0) c.in-Ok.value.1.now) (sym c.notes_statement.ensures)

pub returns-in-Keyword-clause-reads : goal.returns-in-Keyword-clause-reads
returns-in-Keyword-clause-reads c = λ next.
    let names = c.args.names.now in
    let up = c.args.up in
    let at = c.args.place in
    let ts = c.args.tokens.now in
    let token = c.in-Some.token.now in
    let rest = c.in-Some.rest.now in
    let s : ts ≡ token ∷ rest = search rules in
    let k : token.kind ≡ kind.Keyword c.in-Keyword.keyword = search rules in
    along _ _ _ _ (ap (reading (annotation_plan names c.args.whole up next at)) s
    ∙ annotation_word names c.args.whole up next at token rest c.in-Keyword.keyword k)
    (c.notes_from.ensures.reads next)
