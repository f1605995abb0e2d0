use Rattle.std.proofs.Common.{◌≡◌, ◌+◌, arith, take}
use Rattle.word_terms.specs.declared.node.Sort.TheVariants.{Word32}
use Rattle.word_terms.specs.declared.node.Node.TheVariants as node
use Rattle.word_terms.specs.Weights.{weight_from, mark_at}
use Rattle.word_terms.proofs.Marking.{weight_from-take}
use Rattle.word_terms.proofs.weight.weigh.Goals as goal

pub loop-place-preserved : goal.loop-place-preserved
loop-place-preserved c =
    let here = c.marked_weight-weight.ensures.weight in
    let before = c.loop-place.invariant.0 in
    let step = weight_from-take (mark_at c.args.marks.now) c.args.nodes.now c.loop-place.place (node.Symbol 0 Word32) c.loop-place-test.true in
    let total : c.loop-place.weight + c.marked_weight-weight.result ≡ weight_from (mark_at c.args.marks.now) 0 (take (c.loop-place.place + 1) c.args.nodes.now) = omega (arith, here, before, step) in
    (total, omega (arith, c.loop-place.invariant.1, c.marked_weight-weight.ensures.bound))
