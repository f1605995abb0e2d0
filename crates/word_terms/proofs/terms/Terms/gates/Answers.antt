use Rattle.std.proofs.Common.{◌∙◌, map, arith}
use Rattle.word_terms.specs.Weights.{mark_at, is_under}
use Rattle.word_terms.proofs.Marking.{weight_from-same}
use Rattle.word_terms.proofs.terms.Terms.gates.Goals as goal

pub returns : goal.returns
returns c =
    let e = rw (c.deref.ensures.value, c.nodes.ensures.nodes) at c.weigh.ensures in
    e ∙ weight_from-same (mark_at c.in_ok-marks.marks.items) (is_under c.args.self.now.nodes (map (λ r. r.0) c.args.roots.now)) 0 c.args.self.now.nodes
    (λ t l u. c.in_ok-marks.ensures.1 t (omega arith))
