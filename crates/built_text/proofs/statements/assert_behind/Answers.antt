-- What is answered by hand of the proof of `assert_behind`.
use Rattle.std.proofs.Common.{◌∙◌, ap, sym, false}
use Rattle.built_text.specs.Tree.{NoteTree, StmtTree, assert_stmt}
use Rattle.built_text.specs.Plan.{Plan, noted, run}
use Rattle.built_text.proofs.Failing.{fails_as}
use Rattle.built_text.proofs.statements.assert_behind.Goals as goal

abbrev made : (StmtTree → Plan) → NoteTree → Plan
made next n = next (assert_stmt n)

pub returns-in-Err-clause-reads : goal.returns-in-Err-clause-reads
returns-in-Err-clause-reads c = λ next. c.in-Err.ensures.reads (λ w. noted false c.args.room w (made next))

pub returns-in-Err-note-clause-reads : goal.returns-in-Err-note-clause-reads
returns-in-Err-note-clause-reads c = λ next.
    fails_as _ _ _ (c.in-Ok.ensures.reads (λ w. noted false c.args.room w (made next))) (c.in-Err-note.ensures.reads (made next))

pub returns-clause-reads : goal.returns-clause-reads
returns-clause-reads c = λ next.
    c.in-Ok.ensures.reads (λ w. noted false c.args.room w (made next)) ∙ c.in-Ok-note.ensures.reads (made next)
    ∙ ap (λ s. run (next s) c.in-Ok-note.value.1.now) (sym c.assert_statement.ensures)
