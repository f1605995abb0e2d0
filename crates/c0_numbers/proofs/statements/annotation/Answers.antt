-- What the search leaves of the proof of `annotation`.
use Rattle.std.proofs.Common.{◌≡◌, ◌∙◌, ap, sym, map}
use Rattle.gc0_tree.specs.Tree.{no_stmts}
use Rattle.parsed_tree.specs.Views.{note_view}
use Rattle.c0_numbers.specs.Statements.{alone, notes_tree}
use Rattle.c0_numbers.specs.Rows.{stmts_before}
use Rattle.c0_numbers.proofs.Blocks.{stmts_whole}
use Rattle.c0_numbers.proofs.statements.annotation.Goals as goal

pub returns : goal.returns
returns c =
    let notes = notes_tree c.args.tables.now c.args.frame.now (map note_view c.args.notes.now) no_stmts in
    c.alone.ensures ∙ ap (alone c.args.place) (sym (stmts_whole c.push_notes.new.made) ∙ c.in_ok-push_notes.ensures no_stmts ∙ ap (λ ss. stmts_before ss notes) c.new-made.ensures)
