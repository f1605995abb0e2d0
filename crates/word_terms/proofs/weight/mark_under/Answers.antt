use Rattle.std.proofs.Common.{false, ◌≡◌, ◌<◌, ◌-◌, length, map, drop, subst, arith}
use Rattle.std.proofs.lemmas.Option.{slice_get-get_or}
use Rattle.word_terms.specs.declared.node.Node.TheVariants as node
use Rattle.word_terms.specs.Weights.{Marks, wanted_from}
use Rattle.word_terms.proofs.Marking.{Marks-blank, wanted_from-end, Marks-unwanted, Marks-wanted, wanted-lower}
use Rattle.word_terms.proofs.weight.mark_under.Goals as goal

pub loop-place-init : goal.loop-place-init
loop-place-init c =
    rw (wanted_from-end c.args.nodes.now (map (λ r. r.0) c.args.roots.now))
    (Marks-blank (map (λ r. r.0) c.args.roots.now) (length c.args.nodes.now) c.args.marks.now c.mark.new.marks c.requires.blank c.mark.ensures)

pub mark_parts-requires : goal.mark_parts-requires
mark_parts-requires c = λ k d h.
    let within : c.loop-place.place - 1 < length c.args.nodes.now = omega arith in
    let below = c.requires.parts (c.loop-place.place - 1) _ (slice_get-get_or c.args.nodes.now (c.loop-place.place - 1) _ within) k d h in
    omega (arith, below, c.loop-place.invariant.0)

pub loop-place-preserved-then-marks-place : goal.loop-place-preserved-then-marks-place
loop-place-preserved-then-marks-place c =
    let within : c.loop-place.place - 1 < length c.args.nodes.now = omega arith in
    let m = wanted-lower c.args.nodes.now (map (λ r. r.0) c.args.roots.now) c.loop-place.marks c.loop-place.place c.loop-place-test.true c.loop-place.invariant in
    Marks-wanted c.args.nodes.now (map (λ r. r.0) c.args.roots.now) c.loop-place.marks (c.loop-place.place - 1) _ within m c.mark_parts.new.marks c.if-marks-place.true c.mark_parts.ensures

pub loop-place-preserved : goal.loop-place-preserved
loop-place-preserved c =
    let within : c.loop-place.place - 1 < length c.args.nodes.now = omega arith in
    let m = wanted-lower c.args.nodes.now (map (λ r. r.0) c.args.roots.now) c.loop-place.marks c.loop-place.place c.loop-place-test.true c.loop-place.invariant in
    Marks-unwanted c.args.nodes.now (map (λ r. r.0) c.args.roots.now) c.loop-place.marks (c.loop-place.place - 1) (node.Truth false) within m c.if-marks-place.false

pub returns : goal.returns
returns c =
    let done : c.loop-place.place ≡ 0 = omega arith in
    subst (λ k. Marks (wanted_from k (drop k c.args.nodes.now) (map (λ r. r.0) c.args.roots.now)) (length c.args.nodes.now) c.loop-place.marks) done c.loop-place.invariant
