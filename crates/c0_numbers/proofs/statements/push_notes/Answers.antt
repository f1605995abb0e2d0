-- What the search leaves of the proof of `push_notes`.
use Rattle.std.proofs.Common.{◌≡◌, ◌∙◌, ◌∷◌, ap, sym, ◌+◌, drop}
use Rattle.std.proofs.lemmas.List.{drop_more}
use Rattle.c0_numbers.proofs.Blocks.{note_step}
use Rattle.c0_numbers.proofs.statements.push_notes.Goals as goal

pub loop-part-preserved : goal.loop-part-preserved
loop-part-preserved c =
    let ns = c.args.notes.now in
    let i = c.loop-part.part-index in
    note_step c.args.tables.now c.args.frame.now c.loop-part.made _ c.in_ok-part.part (drop i ns) (drop (i + 1) ns) c.part-item.result _ (drop_more ns i c.part-item.result c.loop-part-test.true ∙ ap (λ x. x ∷ drop (i + 1) ns) (sym c.part-item.is)) c.in_ok-push.ensures.ok c.in_ok-part.ensures c.loop-part.invariant
