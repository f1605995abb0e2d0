-- What the search leaves of the proof of `shared_site`.
use Rattle.std.proofs.Common.{◌-◌, arith}
use Rattle.std.proofs.lemmas.List.{drop_more}
use Rattle.core_tables.proofs.Seen.{shared_here, finds_from, apart_from}
use Rattle.core_tables.proofs.apart.shared_site.Goals as goal

pub returns-then-not-added : goal.returns-then-not-added
returns-then-not-added c =
    shared_here c.loop-left.seen.keys c.args.placed.now (c.loop-left.left - 1) c.loop-left.left _ c.key_of.result c.in_ok-added.added
    c.key_of.ensures (drop_more c.args.placed.now (c.loop-left.left - 1) _ (omega (arith, c.loop-left.invariant.within, c.loop-left-test.true)))
    (omega (arith, c.loop-left-test.true)) c.in_ok-added.ensures.added c.loop-left.invariant.finds c.if-not-added.true

pub loop-left-preserved : goal.loop-left-preserved
loop-left-preserved c = record {
  within = omega (arith, c.loop-left.invariant.within);
  finds = rw c.in_ok-added.ensures.keys
      (finds_from c.loop-left.seen.keys c.args.placed.now (c.loop-left.left - 1) c.loop-left.left _ c.key_of.result c.in_ok-added.added
      c.key_of.ensures (drop_more c.args.placed.now (c.loop-left.left - 1) _ (omega (arith, c.loop-left.invariant.within, c.loop-left-test.true)))
      (omega (arith, c.loop-left-test.true)) c.in_ok-added.ensures.added c.loop-left.invariant.finds c.if-not-added.false);
  apart =
      apart_from c.loop-left.seen.keys c.args.placed.now (c.loop-left.left - 1) c.loop-left.left _ c.key_of.result c.in_ok-added.added
      c.key_of.ensures (drop_more c.args.placed.now (c.loop-left.left - 1) _ (omega (arith, c.loop-left.invariant.within, c.loop-left-test.true)))
      (omega (arith, c.loop-left-test.true)) c.in_ok-added.ensures.added c.loop-left.invariant.finds c.if-not-added.false c.loop-left.invariant.apart;
}
