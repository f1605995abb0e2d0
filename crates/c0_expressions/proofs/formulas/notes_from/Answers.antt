-- `notes_from`: what is left to show of its clauses.
use Rattle.std.proofs.Common.{List, ap, arith, false, rules, sym, true, ℕ, ◌+◌, ◌∙◌, ◌≡◌}
use Rattle.gc0_base.specs.declared.place.Place.{Place}
use Rattle.parsed_tree.specs.Tree.{NoteTree, StmtTree, notes_stmt}
use Rattle.c0_grammar.specs.Plan.{Plan, many, note_loop, other_notes}
use Rattle.c0_expressions.specs.Seen.{is_note}
use Rattle.c0_cursor.specs.Seen.{reading, stepping}
use Rattle.c0_expressions.specs.Read.{onto}
use Rattle.c0_cursor.specs.Laws.{fails_as}
use Rattle.c0_expressions.specs.Laws.{closing}
use Rattle.c0_expressions.proofs.Notes.{no_note, note_deep, note_on}
use Rattle.c0_expressions.proofs.formulas.notes_from.Goals as goal

abbrev made : (StmtTree → ℕ → Plan) → Place → List NoteTree → ℕ → Plan
made next at ns d = next (notes_stmt at ns) (d + 1)

pub returns-then-not-is_note-clause-reads : goal.returns-then-not-is_note-clause-reads
returns-then-not-is_note-clause-reads c = λ next.
    let names = c.args.names.now in
    let up = c.args.up in
    let at = c.args.place in
    let here = c.args.at in
    let ts = c.args.tokens.now in
    let n : is_note c.args.keyword ≡ false = search rules in
    ap (λ s. stepping s here ts) (no_note names up next at c.args.keyword here n)

pub returns-then-up-ge-NESTING-clause-reads : goal.returns-then-up-ge-NESTING-clause-reads
returns-then-up-ge-NESTING-clause-reads c = λ next.
    let names = c.args.names.now in
    let up = c.args.up in
    let at = c.args.place in
    let here = c.args.at in
    let ts = c.args.tokens.now in
    let y : is_note c.args.keyword ≡ true = search rules in
    note_deep names up next at c.args.keyword here ts y (omega arith)

pub returns-in-Err-clause-reads : goal.returns-in-Err-clause-reads
returns-in-Err-clause-reads c = λ next.
    let names = c.args.names.now in
    let up = c.args.up in
    let at = c.args.place in
    let here = c.args.at in
    let ts = c.args.tokens.now in
    let y : is_note c.args.keyword ≡ true = search rules in
    fails_as _ _ _ (note_on names up next at c.args.keyword here ts y (omega arith))
    (c.in-Err.ensures.reads (other_notes names up next at))

pub returns-in-Err-more_notes-clause-reads : goal.returns-in-Err-more_notes-clause-reads
returns-in-Err-more_notes-clause-reads c = λ next.
    let names = c.args.names.now in
    let up = c.args.up in
    let at = c.args.place in
    let here = c.args.at in
    let ts = c.args.tokens.now in
    let y : is_note c.args.keyword ≡ true = search rules in
    let x = c.in-Ok.value in
    fails_as _ _ _ (note_on names up next at c.args.keyword here ts y (omega arith)
    ∙ c.in-Ok.ensures.reads (other_notes names up next at)
    ∙ ap (λ z. reading (many (note_loop names (up + 1)) (onto z x.1 (closing (made next at)))) x.2.now) (sym c.in_ok-found.ensures))
    (c.in-Err-more_notes.ensures.reads (made next at))

pub returns-clause-reads : goal.returns-clause-reads
returns-clause-reads c = λ next.
    let names = c.args.names.now in
    let up = c.args.up in
    let at = c.args.place in
    let here = c.args.at in
    let ts = c.args.tokens.now in
    let y : is_note c.args.keyword ≡ true = search rules in
    let x = c.in-Ok.value in
    let z = c.in-Ok-more_notes.value in
    note_on names up next at c.args.keyword here ts y (omega arith)
    ∙ c.in-Ok.ensures.reads (other_notes names up next at)
    ∙ ap (λ z. reading (many (note_loop names (up + 1)) (onto z x.1 (closing (made next at)))) x.2.now) (sym c.in_ok-found.ensures)
    ∙ c.in-Ok-more_notes.ensures.reads (made next at)
    ∙ ap (λ t. reading (next t (z.1 + 1)) z.2.now) (sym c.notes_statement.ensures)
