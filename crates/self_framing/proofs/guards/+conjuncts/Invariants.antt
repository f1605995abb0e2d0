-- What holds in the loop of the calls around `guard_parts`.
use Rattle.std.proofs.Common.{◌≡◌, drop, fold, map}
use Rattle.gc0_tree.specs.Views.{conjuncts_view}
use Rattle.c0_meaning.specs.Framing.{parts_unguarded}
use Rattle.self_framing.specs.declared.fault.FrameFault.TheVariants as fault
use Rattle.self_framing.specs.FrameFaults.{earlier}
use Rattle.self_framing.proofs.guards.+conjuncts.Given as goal

abbrev pub invariant-guard_parts-loop-part : goal.invariant-guard_parts-loop-part
invariant-guard_parts-loop-part l = fold earlier l.least (map fault.Unguarded (parts_unguarded l.own l.taken (conjuncts_view (drop l.part-index l.parts)))) ≡ fold earlier l.fn.least (map fault.Unguarded (parts_unguarded l.own l.guarded (conjuncts_view l.parts)))
