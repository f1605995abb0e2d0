-- What holds in the loop of `read_predicates`.
use Rattle.std.proofs.Common.{◌≡◌, drop, fold, map}
use Rattle.std.specs.Prelude.{flat_map}
use Rattle.gc0_tree.specs.Views.{predicate_view}
use Rattle.c0_meaning.specs.Framing.{predicate_unframed}
use Rattle.self_framing.specs.declared.fault.FrameFault.TheVariants as fault
use Rattle.self_framing.specs.FrameFaults.{earlier}
use Rattle.self_framing.proofs.framing.read_predicates.Given as goal

abbrev pub invariant-loop-predicate : goal.invariant-loop-predicate
invariant-loop-predicate l = fold earlier l.least (map fault.NotFramed (flat_map predicate_unframed (map predicate_view (drop l.predicate-index l.predicates)))) ≡ fold earlier l.fn.least (map fault.NotFramed (flat_map predicate_unframed (map predicate_view l.predicates)))
