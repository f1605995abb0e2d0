-- What holds in the loop of `guard_predicates`.
use Rattle.std.proofs.Common.{◌≡◌, drop, fold, map}
use Rattle.gc0_tree.specs.Views.{predicate_view}
use Rattle.c0_meaning.specs.Framing.{predicates_unguarded}
use Rattle.self_framing.specs.declared.fault.FrameFault.TheVariants as fault
use Rattle.self_framing.specs.FrameFaults.{earlier}
use Rattle.self_framing.proofs.framing.guard_predicates.Given as goal

abbrev pub invariant-loop-predicate : goal.invariant-loop-predicate
invariant-loop-predicate l = record {
  at : l.number ≡ l.predicate-index;
  least : fold earlier l.least (map fault.Unguarded (predicates_unguarded l.number (map predicate_view (drop l.predicate-index l.predicates)))) ≡ fold earlier l.fn.least (map fault.Unguarded (predicates_unguarded 0 (map predicate_view l.predicates)));
}
