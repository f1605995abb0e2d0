use Rattle.std.proofs.Common.{refl, sym, ap, ◌∙◌, Err}
use Rattle.sat_top.proofs.Ended.{refuted_ends, write_ends, memory_ends}
use Rattle.sat_top.proofs.search.say_refuted.Goals as goal

pub returns-in-Ok-clause-ends : goal.returns-in-Ok-clause-ends
returns-in-Ok-clause-ends g c =
    let clauses = c.args.formula.now.clauses in
    let r = c.requires.refuted.refutation in
    let file = rw c.in-Ok.is at c.keep_log.ensures.ok in
    refuted_ends _ _ _ c.len.result _ _ (c.refutation_is_sound.ensures clauses _ r) (c.up_to_empty-entries.ensures.proof clauses (rw c.as_slice.ensures r)) c.len.ensures file c.answer.ensures.answers

pub returns-in-Err-Write-clause-ends : goal.returns-in-Err-Write-clause-ends
returns-in-Err-Write-clause-ends g c =
    let clauses = c.args.formula.now.clauses in
    let r = c.requires.refuted.refutation in
    let k = c.keep_log.ensures in
    let e = c.in-Err-Write.is ∙ ap Err c.in-Err-Write.field-0-is in
    let cause = rw e at k.cause in
    write_ends _ _ _ c.len.result _ _ _ (c.up_to_empty-entries.ensures.proof clauses (rw c.as_slice.ensures r)) c.len.ensures (rw e at k.front) refl (cause refl) c.say.ensures.said

pub returns-in-Err-Memory-clause-ends : goal.returns-in-Err-Memory-clause-ends
returns-in-Err-Memory-clause-ends g c =
    let clauses = c.args.formula.now.clauses in
    let r = c.requires.refuted.refutation in
    let k = c.keep_log.ensures in
    memory_ends _ _ _ c.len.result _ _ _ (c.up_to_empty-entries.ensures.proof clauses (rw c.as_slice.ensures r)) c.len.ensures (rw c.in-Err-Memory.is at k.front) refl c.say-in-Err-Memory.ensures.said
