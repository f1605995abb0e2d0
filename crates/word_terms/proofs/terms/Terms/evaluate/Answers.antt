use Rattle.std.proofs.Common.{◌≡◌, ◌<◌, arith, length, ap, ◌∙◌}
use Rattle.word_terms.proofs.Valued.{HasParts-node, number_at-set, worths-from}
use Rattle.word_terms.proofs.terms.Terms.evaluate.Goals as goal

pub worth-word-requires : goal.worth-word-requires
worth-word-requires c =
    let words : length c.as_slice-words.result.now ≡ length c.args.self.now.sorts = ap length c.as_slice-words.ensures ∙ c.requires.words in
    let done : c.loop-place.place < length c.loop-place.out = omega (arith, ap length c.nodes-node-items.ensures.nodes, c.requires.places) in
    HasParts-node c.args.self.now c.nodes-node-items.ensures.formed c.nodes-node-items.result.now c.nodes-node-items.ensures.nodes
    (length c.as_slice-words.result.now) (length c.loop-place.out) c.loop-place.place _ c.loop-place-test.true words (omega arith)

pub loop-place-preserved : goal.loop-place-preserved
loop-place-preserved c =
    let long : length c.loop-place.out ≡ length c.args.self.now.nodes = omega (arith, c.requires.places) in
    let within : c.loop-place.place < length c.loop-place.out = omega (arith, ap length c.nodes-node-items.ensures.nodes) in
    let e = rw c.nodes-node-items.ensures.nodes at c.worth-word.ensures in
    let before = rw c.nodes-node-items.ensures.nodes at c.loop-place.invariant in
    rw c.nodes-node-items.ensures.nodes
    (number_at-set c.args.self.now c.nodes-node-items.ensures.formed c.as_slice-words.result.now c.loop-place.out c.loop-place.place c.worth-word.result _ within long e before)

pub returns : goal.returns
returns c =
    let long : length c.loop-place.out ≡ length c.args.self.now.nodes = omega (arith, c.requires.places) in
    rw (← c.as_slice-words.ensures)
    (worths-from c.as_slice-words.result.now c.loop-place.out c.args.self.now.nodes long
    (λ k h.
    let below : k < c.loop-place.place = omega (arith, ap length c.nodes-node-items.ensures.nodes) in
    let e = c.loop-place.invariant k below in
    rw c.nodes-node-items.ensures.nodes at e))
