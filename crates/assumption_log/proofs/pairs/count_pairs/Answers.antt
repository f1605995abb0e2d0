-- What the search leaves of the proof of `count_pairs`.
use Rattle.std.proofs.Common.{◌≡◌, ◌+◌, ◌-◌, ◌∷◌, drop, sym, ap, ◌∙◌, arith}
use Rattle.std.proofs.lemmas.List.{drop_more}
use Rattle.assumption_log.proofs.SeenPairs.{finds_from, counts_from}
use Rattle.assumption_log.proofs.pairs.count_pairs.Goals as goal

pub loop-left-preserved : goal.loop-left-preserved
loop-left-preserved c =
    let es = c.args.entries.now in
    let i = c.loop-left.left - 1 in
    let here = c.index-entries-left.result in
    let from : drop i es ≡ here ∷ drop (i + 1) es =
    drop_more es i here (omega (arith, c.loop-left.invariant.within, c.loop-left-test.true)) ∙ ap (λ x. x ∷ drop (i + 1) es) (sym c.index-entries-left.is) in
    record {
      within = omega (arith, c.loop-left.invariant.within);
      finds = rw c.in_ok-insert.ensures.keys
          (finds_from c.loop-left.seen.keys es i c.loop-left.left here c.pair_key.result c.pair_key.ensures from
          (omega (arith, c.loop-left-test.true)) c.loop-left.invariant.finds);
      count = rw c.in_ok-insert.ensures.keys
          (counts_from c.loop-left.seen.keys es i c.loop-left.left here c.pair_key.result c.pair_key.ensures from
          (omega (arith, c.loop-left-test.true)) c.loop-left.invariant.finds c.loop-left.invariant.count);
    }
