-- What is answered by hand of the proofs of the calls around `read_parts`.
use Rattle.std.proofs.Common.{◌≡◌, ℕ, ◌<◌, ◌+◌, ◌++◌, List, [], ◌∷◌, drop, take, length, rules, arith}
use Rattle.std.proofs.lemmas.List.{take_more}
use Rattle.gc0_tree.specs.declared.Conjunct.{Conjunct}
use Rattle.self_framing.specs.declared.left.Left.TheViews.{the_lemmas}
use Rattle.self_framing.specs.declared.left.Left.TheFolds.{fold_out-Left}
use Rattle.self_framing.specs.Left.{permitted}
use Rattle.self_framing.proofs.Behind.{next_of, one_more}
use Rattle.self_framing.proofs.reads.+conjuncts.Goals as goal

pub read_parts-loop-part-preserved : goal.read_parts-loop-part-preserved
read_parts-loop-part-preserved t c =
    let parts : List Conjunct = c.args.parts.now in
    let i : ℕ = c.loop-part.part-index in
    let p : Conjunct = c.part-item.result in
    let lt : i < length parts = omega arith in
    let front : take (i + 1) parts ≡ take i parts ++ p ∷ [] = search (rules, take_more) in
    let back : drop i parts ≡ p ∷ drop (i + 1) parts = next_of parts i p lt c.part-item.is in
    record {
      at = omega arith;
      least = one_more c.loop-part.least c.read_part.new.least _ (permitted c.args.left.now) _ (take i parts) (take (i + 1) parts) p (drop i parts) (drop (i + 1) parts) front back c.read_part.ensures (search (rules, the_lemmas, fold_out-Left)) c.loop-part.invariant.least;
    }
