use Rattle.std.proofs.Common.{ap, ◌∙◌}
use Rattle.core_tree.specs.CoreTree.{CoreStmt, Code}
use Rattle.lowering_laws.specs.Trees.{one}
use Rattle.core_lower.proofs.Joining.{then_so, joined_counts, recoded}
use Rattle.core_lower.proofs.Views.{note_view, note_same}
use Rattle.core_lower.proofs.notes.write_note.Goals as goal

pub returns : goal.returns
returns c k h =
    let w0 = c.in_ok-place.ensures k h in
    let one_of : CoreStmt → Code = λ x. one x in
    then_so c.push.result (c.push.ensures k w0.counts)
    (λ w1. recoded (ap one_of (note_view c.in_ok-note.note c.args.site ∙ note_same c.in_ok-note.note c.args.note.now c.args.site c.args.place c.in_ok-note.ensures))
    (joined_counts w0 w1))
