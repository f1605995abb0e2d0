use Rattle.std.proofs.Common.{◌≡◌, ◌<◌, false, map, length, ap, sym, ◌∙◌, arith}
use Rattle.std.proofs.lemmas.Option.{slice_get-get_or, get_or_from_slice_get}
use Rattle.word_terms.specs.declared.node.TermId.{TermId}
use Rattle.word_terms.specs.Weights.{is_under}
use Rattle.word_blast.proofs.Walks.{blasted-step, blasted-end}
use Rattle.word_blast.proofs.blasted.blast_terms.Goals as goal

pub loop-place-preserved : goal.loop-place-preserved
loop-place-preserved c =
    let ids = map (λ (r : TermId). r.0) c.args.roots.now in
    let within : c.loop-place.place < length c.in_ok-marks.marks.items = omega (arith, c.in_ok-marks.ensures.0, ap length c.nodes-nodes.ensures.nodes) in
    let here : c.loop-place.place < length c.args.terms.now.nodes = omega (arith, ap length c.nodes-nodes.ensures.nodes) in
    let read = get_or_from_slice_get c.in_ok-marks.marks.items c.loop-place.place _ false (slice_get-get_or c.in_ok-marks.marks.items c.loop-place.place c.index.result.now within) in
    let asked : c.index.result.now ≡ is_under c.args.terms.now.nodes ids c.loop-place.place = c.index.ensures ∙ sym read ∙ c.in_ok-marks.ensures.1 c.loop-place.place here in
    blasted-step (is_under c.nodes-nodes.result.now ids) c.nodes-nodes.result.now c.loop-place.blast c.step.new.self _ c.loop-place.place c.index.result.now _ c.loop-place-test.true
    (asked ∙ ap (λ ns. is_under ns ids c.loop-place.place) (sym c.nodes-nodes.ensures.nodes)) c.in_ok-step.ensures c.loop-place.invariant

pub returns-clause-circuit : goal.returns-clause-circuit
returns-clause-circuit c =
    let ids = map (λ (r : TermId). r.0) c.args.roots.now in
    let e = blasted-end (is_under c.nodes-nodes.result.now ids) c.nodes-nodes.result.now c.loop-place.blast _ c.loop-place.place c.loop-place-test.false c.loop-place.invariant in
    rw (c.nodes-nodes.ensures.nodes, c.in_ok-blast.ensures, c.symbols.ensures) at e
